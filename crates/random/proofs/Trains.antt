-- Trains that stand one behind the other, and one more. Assumes nothing.
use Rattle.std.proofs.Common.{◌≡◌, ℕ, ◌+◌, ◌-◌, true, List, [], ◌∷◌, ◌++◌, Ok, arith, refl}
use Rattle.std.proofs.lemmas.Bool.Decides.{nat_tests}
use Rattle.braking.specs.Limits.{place_max}
use Rattle.onboard.specs.declared.initial_train.InitialTrain.{InitialTrain}
use Rattle.line.specs.Initial.{trains_checked}
use Rattle.onboard.specs.InitialTrain.{fits}

-- the rear of the last of them, or the limit where there is none
abbrev pub limit_behind : (limit : ℕ) → List InitialTrain → ℕ
limit_behind limit [] = limit
limit_behind limit (t ∷ ts) = limit_behind (t.front - t.length) ts

pub first_fits : (limit n : ℕ) (t : InitialTrain) (ts : List InitialTrain) → trains_checked limit n (t ∷ ts) ≡ Ok tt →
    (fits limit t ≡ true) × (trains_checked (t.front - t.length) (n + 1) ts ≡ Ok tt)
first_fits limit n t ts ok = grind (arith, nat_tests)

both_fit : (limit n : ℕ) (t : InitialTrain) (ts : List InitialTrain) → fits limit t ≡ true → trains_checked (t.front - t.length) (n + 1) ts ≡ Ok tt →
    trains_checked limit n (t ∷ ts) ≡ Ok tt
both_fit limit n t ts fit ok = rw fit ok

one_more_train : (limit n : ℕ) (ts : List InitialTrain) (t : InitialTrain) → trains_checked limit n ts ≡ Ok tt → fits (limit_behind limit ts) t ≡ true →
    trains_checked limit n (ts ++ t ∷ []) ≡ Ok tt
one_more_train limit n [] t ok fit = both_fit limit n t [] fit refl
one_more_train limit n (u ∷ ts) t ok fit =
    let first = first_fits limit n u ts ok in
    both_fit limit n u (ts ++ t ∷ []) first.0 (one_more_train (u.front - u.length) (n + 1) ts t first.1 fit)

pub limit_of_one_more : (limit : ℕ) (ts : List InitialTrain) (t : InitialTrain) → limit_behind limit (ts ++ t ∷ []) ≡ t.front - t.length
limit_of_one_more limit [] t = refl
limit_of_one_more limit (u ∷ ts) t = limit_of_one_more (u.front - u.length) ts t

pub one_more_stands : (ts us : List InitialTrain) (t : InitialTrain) (limit : ℕ) → us ≡ ts ++ t ∷ [] → limit ≡ limit_behind place_max ts → fits limit t ≡ true →
    trains_checked place_max 0 ts ≡ Ok tt → trains_checked place_max 0 us ≡ Ok tt
one_more_stands ts us t limit more is fit ok = rw more (one_more_train place_max 0 ts t ok (rw is at fit))
