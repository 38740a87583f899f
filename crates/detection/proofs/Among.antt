-- What a list contains, element by element. Assumes nothing.
use Rattle.std.proofs.Common.{◌≡◌, ◌⊎◌, ℕ, zero, suc, ◌<◌, List, [], ◌∷◌, map, length, get_or, Contains, sym, ap, inl, inr, arith}

pub none_among : {z : ℕ} → Contains [] z → ⊥
none_among i = omega (arith, i.1)

pub first_among : {x z : ℕ} (xs : List ℕ) → z ≡ x → Contains (x ∷ xs) z
first_among xs e = (0, omega arith, sym e)

pub later_among : {z : ℕ} (x : ℕ) (xs : List ℕ) → Contains xs z → Contains (x ∷ xs) z
later_among x xs i = (suc i.0, omega (arith, i.1), i.2)

among_at : (k z x : ℕ) (xs : List ℕ) → k < length (x ∷ xs) → get_or (x ∷ xs) k z ≡ z → (z ≡ x) ⊎ Contains xs z
among_at zero z x xs h e = inl (sym e)
among_at (suc k) z x xs h e = inr (k, omega arith, e)

pub first_or_later : {z : ℕ} (x : ℕ) (xs : List ℕ) → Contains (x ∷ xs) z → (z ≡ x) ⊎ Contains xs z
first_or_later {z} x xs i = among_at i.0 z x xs i.1 i.2

pub among_map : (f : ℕ → ℕ) (z : ℕ) (xs : List ℕ) → Contains xs z → Contains (map f xs) (f z)
among_map f z [] i = absurd (none_among i)
among_map f z (x ∷ xs) i = elim (first_or_later x xs i) [
  | inl e ↦ first_among (map f xs) (ap f e)
  | inr j ↦ later_among (f x) (map f xs) (among_map f z xs j)
]
