-- What is promised of both ends of the radio. Each is a statement, and stands on the contract of a function.
use Rattle.std.specs.Prelude.{◌≡◌, ℕ, ◌+◌, ◌-◌, ◌≤◌, cond, not, ◌&&◌, List, [], ◌∷◌, Ok, ◌==◌, nat_lt, slice_index}
use Rattle.braking.specs.Refusals.{kept, done}
use Rattle.braking.specs.Limits.{train_max, place_max}
use Rattle.onboard.specs.declared.unit.Onboard.{Onboard}
use Rattle.message.specs.declared.message.Message.TheVariants.{Report, Grant}
use Rattle.message.specs.Bytes.{received}
use Rattle.message.specs.Numbers.{numbers_done, numbers_written, written_numbers, read_numbers}
use Rattle.controller.specs.declared.controller.Controller.{Controller}
use Rattle.controller.specs.Steps.{known}
use Rattle.controller.specs.Hearings.{Whole}
use Rattle.radio.specs.Ends.{after_taking, after_hearing, report_bytes, tell_bytes, grant_bytes}

-- what is sent is heard as what it says: a unit's low place less its length, and what a controller knows of a train
abbrev pub ReportHeard : Type 0
ReportHeard =
    (u : Onboard) (bytes : List ℕ) → report_bytes u ≡ Ok bytes → received bytes ≡ Ok (Report u.train (u.low - u.length))

abbrev pub TellHeard : Type 0
TellHeard =
    (c : Controller) (train : ℕ) (bytes : List ℕ) → tell_bytes c train ≡ Ok bytes → received bytes ≡ Ok (Report train (known c train))

abbrev pub GrantHeard : Type 0
GrantHeard =
    (c : Controller) (train : ℕ) (bytes : List ℕ) → grant_bytes c train ≡ Ok bytes → received bytes ≡ Ok (Grant (train + 1) (known c train))

-- what a unit answers to bytes, in bare numbers: the row of the list by which they are no message; else, for a grant
-- (kind 2) to another train, 7 and that train; else 0
abbrev pub taken_numbers : (own : ℕ) → ℕ × List ℕ → ℕ × List ℕ
taken_numbers own read =
    cond (not (read.0 == 0)) read
    (cond (slice_index read.1 0 == 2 && not (slice_index read.1 1 == own)) (7, slice_index read.1 1 ∷ [])
    (0, []))

abbrev pub TakeBytesInNumbers : Type 0
TakeBytesInNumbers =
    (u : Onboard) (bytes : List ℕ) → numbers_done (done (after_taking u bytes)) ≡ taken_numbers u.train (read_numbers bytes)

-- what a controller answers to bytes: the row of the list by which they are no message; else 0
abbrev pub HearBytesInNumbers : Type 0
HearBytesInNumbers =
    (c : Controller) (bytes : List ℕ) → numbers_done (done (after_hearing c bytes)) ≡ cond (not ((read_numbers bytes).0 == 0)) (read_numbers bytes) (0, [])

-- what is sent, in bare numbers: the bytes, or the first row that applies. A unit looks at its low place before its number;
-- a controller answers as writing its message does
abbrev pub ReportBytesInNumbers : Type 0
ReportBytesInNumbers =
    (u : Onboard) → numbers_written (report_bytes u) ≡ cond (nat_lt place_max u.low) (3, 0 ∷ []) (written_numbers (Report u.train (u.low - u.length)))

abbrev pub TellBytesInNumbers : Type 0
TellBytesInNumbers =
    (c : Controller) (train : ℕ) → numbers_written (tell_bytes c train) ≡ written_numbers (Report train (known c train))

abbrev pub GrantBytesInNumbers : Type 0
GrantBytesInNumbers =
    (c : Controller) (train : ℕ) → numbers_written (grant_bytes c train) ≡ written_numbers (Grant (train + 1) (known c train))

-- a report of the unit ahead is sent, heard by a controller, granted on and taken by the unit behind, none of them refusing;
-- and then the end of the unit behind is at least the low place of the one ahead less its length
pub record PassedOn (ahead behind : Onboard) (c : Controller) : Type 0 where
  pub report : List ℕ
  pub grant : List ℕ
  pub reports : report_bytes ahead ≡ Ok report
  pub hears : done (after_hearing c report) ≡ Ok tt
  pub grants : grant_bytes (kept c (after_hearing c report)) ahead.train ≡ Ok grant
  pub takes : done (after_taking behind grant) ≡ Ok tt
  pub fresh : ahead.low - ahead.length ≤ (kept behind (after_taking behind grant)).end

-- so it is with every unit whose low place there can be, any controller that has a place for its train that there can be, and
-- whatever unit the train behind has
abbrev pub FreshEnd : Type 0
FreshEnd =
    (ahead behind : Onboard) (c : Controller) → ahead.low ≤ place_max → behind.train ≡ ahead.train + 1 → behind.train ≤ train_max →
    Whole c → known c ahead.train ≤ place_max → PassedOn ahead behind c

-- and whatever numbers are in their memory: if the report is sent, the controller that heard it sends the grant, and the unit
-- behind takes that, then the end is so
abbrev pub FreshIfTaken : Type 0
FreshIfTaken =
    (ahead behind : Onboard) (c : Controller) (report grant : List ℕ) → Whole c → report_bytes ahead ≡ Ok report →
    grant_bytes (kept c (after_hearing c report)) ahead.train ≡ Ok grant → done (after_taking behind grant) ≡ Ok tt →
    ahead.low - ahead.length ≤ (kept behind (after_taking behind grant)).end
