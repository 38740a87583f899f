-- What the walks of this folder are over: a state that is lent, what an entry takes, what it answers, and the pair of state
-- and answer that a step by value hands back, each with the laws that the check makes for its type. Assumes nothing.
use Rattle.std.proofs.Common.{◌≡◌, zero, T, List, [], ◌∷◌, ◌++◌, ap, subst}
use seplogic.Ra.Ura.{Ura}
use mir.Syntax.{Ty}
use mir.Val.{Val, has_ty, WT}
use base.Fml.{ftrue}
use types.Logic.{Logic}
use denote.Exit.{Last, left, yes}
use denote.Laws.{Typed, Is, Makes}
use denote.Memory.{lone}
use denote.RattleType.{RattleType, mirs}
use denote.Shadow.{makes_shadow}
use denote.Param.Laws.{Laws, Told, struct_laws, struct_told}
use denote.Param.Plain.{IsPlain}
use denote.Param.Shared.{Sharables}
use denote.Struct.Struct.{Plains, to_tys}
use denote.Struct.Declared.{Declared, fields, row}
use denote.Struct.Loose.{Looses}
use denote.Struct.Tuple.{tuple_type, parts_laws}
use prog.Memory.{field_at}
use denote.Struct.Laws as LL

-- the state that is lent: a struct
pub record State : Type 2 where
  pub type : Declared
  pub laws : LL.Laws type
  pub loose : Looses type.parts
  pub shared : Sharables type.parts
  pub plain : Plains (fields type)

-- an argument or an answer
pub record Kind : Type 2 where
  pub row : RattleType
  pub laws : Laws row
  pub told : Told row
  pub plain : IsPlain row
  pub quiet : (x : row.Denot) (e : Last (row.exit yes) x) → left (row.exit yes) x e ≡ ftrue

-- a value is of the row's machine type
abbrev pub Good : RattleType → Val → Type 0
Good R v = T (has_ty (lone R.mir) v) × WT v

abbrev pub makes : (K : Kind) {M : Type 1} {𝓤 : Ura M} (𝓛 : Logic 𝓤) → Makes 𝓛 K.row (Is K.row)
makes K 𝓛 x vs p = makes_shadow 𝓛 (K.row.own_val x vs) (K.plain x vs) p

pub good : (K : Kind) {M : Type 1} {𝓤 : Ura M} (𝓛 : Logic 𝓤) (x : K.row.Denot) → Is K.row x (K.told.val x ∷ []) → Good K.row (K.told.val x)
good K 𝓛 x p = (subst (λ (τs : List Ty). Typed τs (K.told.val x ∷ [])) K.laws.one ((K.laws.lawful 𝓛).typed x (K.told.val x ∷ []) p)).0

-- what a step by value hands back, the state and the answer: its rows, its type, its laws, and where the answer lies in it
module _ (X : State) (Y : Kind) where
  abbrev pub rows : List RattleType
  rows = row X.type ∷ Y.row ∷ []

  abbrev pub pair : Declared
  pair = tuple_type rows

  abbrev pub pair_laws : LL.Laws pair
  pair_laws = parts_laws rows (struct_laws X.type X.loose X.shared, (Y.laws, tt)) (struct_told X.type X.laws, (Y.told, tt))

  pub second : field_at zero (to_tys (mirs rows)) 1 ≡ field_at zero (to_tys ((row X.type).mir ++ (lone Y.row.mir ∷ []))) 1
  second = ap (λ (ρs : List Ty). field_at zero (to_tys ((row X.type).mir ++ (ρs ++ []))) 1) Y.laws.one
