-- The states that are lent, and what their entries take and answer, with the laws that the check makes for their types.
-- Assumes nothing.
use Rattle.std.proofs.Common.{◌≡◌, refl}
use base.Fml.{ftrue}
use denote.Array.{Array}
use denote.Builtin.{unit, u8, u64}
use denote.Exit.{Last, left, yes}
use denote.Param.Laws.{of_field, field_told, array_laws, array_told}
use denote.Param.Plain.{array_plain}
use denote.Param.Shared.{copy_shared}
use denote.Struct.Field.{unit-field, u8-field, u64-field}
use denote.Struct.Laws.{unit-laws, unit-plain, unit-copy, u8-laws, u8-plain, u8-copy, u64-laws, u64-plain, u64-copy}
use Rattle.std.specs.contracts.result.Result
use Rattle.std.proofs.result.Result.TheLaws as Result'
use Rattle.braking.specs.contracts.refusal.Refusal
use Rattle.braking.proofs.refusal.Refusal.TheLaws as Refusal'
use Rattle.onboard.specs.contracts.unit.Onboard
use Rattle.onboard.proofs.unit.Onboard.TheLaws as Onboard'
use Rattle.onboard.specs.contracts.word.Word
use Rattle.onboard.proofs.word.Word.TheLaws as Word'
use Rattle.controller.specs.contracts.controller.Controller
use Rattle.controller.proofs.controller.Controller.TheLaws as Controller'
use Rattle.entries.proofs.Kind.{State, Kind}

abbrev pub onboard : State
onboard = record { type = Onboard.the_type; laws = Onboard'.the_laws; loose = Onboard'.the_loose; shared = Onboard'.the_shared; plain = Onboard'.the_plain }

abbrev pub controller : State
controller = record { type = Controller.the_type; laws = Controller'.the_laws; loose = Controller'.the_loose; shared = Controller'.the_shared; plain = Controller'.the_plain }

abbrev word : Kind
word = record { row = Word.the_row; laws = Word'.the_row_laws; told = Word'.the_told; plain = Word'.the_row_plain; quiet = λ x e. refl }

abbrev pub nothing : Kind
nothing = record { row = unit; laws = of_field unit-field unit-laws refl (copy_shared unit-field unit-copy); told = field_told unit-field unit-laws; plain = unit-plain; quiet = λ x e. refl }

abbrev pub number : Kind
number = record { row = u64; laws = of_field u64-field u64-laws refl (copy_shared u64-field u64-copy); told = field_told u64-field u64-laws; plain = u64-plain; quiet = λ x e. refl }

-- a byte, and a message's bytes
abbrev byte : Kind
byte = record { row = u8; laws = of_field u8-field u8-laws refl (copy_shared u8-field u8-copy); told = field_told u8-field u8-laws; plain = u8-plain; quiet = λ x e. refl }

abbrev message : Kind
message = record { row = Array u8 12; laws = array_laws u8 byte.laws 12; told = array_told u8 byte.told 12; plain = array_plain u8 u8-plain 12; quiet = λ x e. refl }

abbrev refusal : Kind
refusal = record { row = Refusal.the_row; laws = Refusal'.the_row_laws; told = Refusal'.the_told; plain = Refusal'.the_row_plain; quiet = λ x e. refl }

-- something, or a refusal; that nothing is left over of it is seen where the something is known
abbrev or_refused : (K : Kind) →
    ((x : (Result.the_row K.row refusal.row).Denot) (e : Last ((Result.the_row K.row refusal.row).exit yes) x) → left ((Result.the_row K.row refusal.row).exit yes) x e ≡ ftrue) → Kind
or_refused K quiet = record {
  row = Result.the_row K.row refusal.row;
  laws = Result'.the_row_laws K.row refusal.row K.laws refusal.laws;
  told = Result'.the_told K.row refusal.row K.laws refusal.laws K.told refusal.told;
  plain = Result'.the_row_plain K.row refusal.row K.plain refusal.plain;
  quiet = quiet;
}

abbrev pub done_or_refused : Kind
done_or_refused = or_refused nothing (λ x e. refl)

abbrev pub word_or_refused : Kind
word_or_refused = or_refused word (λ x e. refl)

abbrev pub sent_or_refused : Kind
sent_or_refused = or_refused message (λ x e. refl)
