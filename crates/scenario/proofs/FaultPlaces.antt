-- The first fault of a line, found part by part.
use Rattle.std.proofs.Common.{◌≡◌, ℕ, suc, ◌+◌, ◌≤◌, ◌<◌, List, ◌∷◌, length, drop, get_or, Some, sym, subst, arith, refl}
use Rattle.std.proofs.lemmas.List.{drop_more, drop_all}
use Rattle.scenario.specs.declared.keyword.Keyword.{Keyword}
use Rattle.scenario.specs.declared.fault.Part.{Part}
use Rattle.scenario.specs.declared.fault.Part.TheVariants.{End}
use Rattle.scenario.specs.Keywords.{keyword_of}
use Rattle.scenario.specs.Faults.{FaultAt, FaultAfter, FirstFault, form_of}

-- from the place on, the first fault of what is left is that of all
abbrev pub Left : (form : List Part) (all rest : List (List ℕ)) (index : ℕ) → Type 0
Left form all rest index = (place : ℕ) (expected : Part) → FaultAt (drop index form) rest place expected → FaultAt form all (index + place) expected

module _ (form : List Part) (all rest : List (List ℕ)) (index : ℕ) (left : Left form all rest index) where
  pub one_fits : (after : List (List ℕ)) (default : Part) → index < length form →
      ((more : List Part) (place : ℕ) (expected : Part) → FaultAt more after place expected → FaultAt (get_or form index default ∷ more) rest (suc place) expected) →
      Left form all after (index + 1)
  one_fits after default there fits place expected fault =
      let here = left (suc place) expected (subst (λ parts. FaultAt parts rest (suc place) expected) (sym (drop_more form index default there)) (fits (drop (index + 1) form) place expected fault)) in
      let same : index + suc place ≡ index + 1 + place = omega arith in
      rw same at here

  pub one_fails : (default : Part) → index < length form → ((more : List Part) → FaultAt (get_or form index default ∷ more) rest 0 (get_or form index default)) →
      FaultAt form all index (get_or form index default)
  one_fails default there fails =
      let here = left 0 (get_or form index default) (subst (λ parts. FaultAt parts rest 0 (get_or form index default)) (sym (drop_more form index default there)) (fails (drop (index + 1) form))) in
      let same : index + 0 ≡ index = omega arith in
      rw same at here

  pub none_left : length form ≤ index → FaultAt form all index End
  none_left end =
      let here = left 0 End (subst (λ parts. FaultAt parts rest 0 End) (sym (drop_all index form end)) (refl, refl)) in
      let same : index + 0 ≡ index = omega arith in
      rw same at here

pub first_of_line : (line all : List (List ℕ)) (word : List ℕ) (keyword : Keyword) (form : List Part) (place told : ℕ) (expected : Part) →
    line ≡ word ∷ all → keyword_of word ≡ Some keyword → form ≡ form_of keyword → told ≡ place + 1 → FaultAt form all place expected → FirstFault line told expected
first_of_line line all word keyword form place told expected is begins known at fault =
    let same : told ≡ suc place = omega (arith, at) in
    rw (is, same) (subst (λ found. FaultAfter found all (suc place) expected) (sym begins) (rw known at fault))
