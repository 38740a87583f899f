-- A test that is computed: no number of one list is k away, by exclusive or, from one of another. Assumes nothing.
use Rattle.std.proofs.Common.{◌≡◌, ◌≢◌, ℕ, zero, suc, ◌/◌, ◌%◌, Bool, true, false, ◌&&◌, ◌==◌, List, [], ◌∷◌, Contains, refl, sym, ap, subst, ◌∙◌, inl, inr, true≢false, eq-zero-or-pos, arith}
use Rattle.std.specs.Int.Bits.{bit_xor, xor_zero_r}
use Rattle.std.proofs.lemmas.Nat.{xor_mod, xor_shr}
use Rattle.detection.proofs.Among.{none_among, first_among, later_among, first_or_later}

-- The arguments of a call are worked out before it: with `cond` in place of this, what follows would be made twice.
unfoldable pub cons_if : Bool → ℕ → List ℕ → List ℕ
cons_if true x xs = x ∷ xs
cons_if false x xs = xs

-- those numbers of a list that leave a given remainder by m, each divided by m
unfoldable pub those : (m remainder : ℕ) → List ℕ → List ℕ
those m remainder [] = []
those m remainder (x ∷ xs) = cons_if (x % m == remainder) (x / m) (those m remainder xs)

-- Both lists are parted by the lowest bit, n times at most, and nothing is left to look at where one of them is empty.
unfoldable pub apart : (n k : ℕ) → List ℕ → List ℕ → Bool
apart n k [] ys = true
apart n k (x ∷ xs) [] = true
apart zero k (x ∷ xs) (y ∷ ys) = false
apart (suc n) k (x ∷ xs) (y ∷ ys) =
    apart n (k / 2) (those 2 0 (x ∷ xs)) (those 2 (k % 2) (y ∷ ys))
    && apart n (k / 2) (those 2 1 (x ∷ xs)) (those 2 (bit_xor (k % 2) 1) (y ∷ ys))

cons_if_first : (b : Bool) (x : ℕ) (xs : List ℕ) → b ≡ true → Contains (cons_if b x xs) x
unfolding cons_if
cons_if_first b x xs e = subst (λ c. Contains (cons_if c x xs) x) (sym e) (first_among xs refl)

cons_if_later : (b : Bool) (z x : ℕ) (xs : List ℕ) → Contains xs z → Contains (cons_if b x xs) z
unfolding cons_if
cons_if_later true z x xs i = later_among x xs i
cons_if_later false z x xs i = i

pub among_those : (m remainder z : ℕ) (xs : List ℕ) → z % m ≡ remainder → Contains xs z → Contains (those m remainder xs) (z / m)
unfolding those
among_those m remainder z [] e i = absurd (none_among i)
among_those m remainder z (x ∷ xs) e i = elim (first_or_later x xs i) [
  | inl p ↦ subst (λ a. Contains (cons_if (x % m == remainder) (x / m) (those m remainder xs)) (a / m)) (sym p) (cons_if_first _ (x / m) _ (grind (arith, e, p)))
  | inr j ↦ cons_if_later (x % m == remainder) (z / m) (x / m) (those m remainder xs) (among_those m remainder z xs e j)
]

pub apart_sound : (n k : ℕ) (xs ys : List ℕ) (x y : ℕ) → apart n k xs ys ≡ true → Contains xs x → Contains ys y → y ≢ bit_xor k x
unfolding apart
apart_sound n k [] ys x y t i j e = none_among i
apart_sound n k (z ∷ zs) [] x y t i j e = none_among j
apart_sound zero k (z ∷ zs) (w ∷ ws) x y t i j e = true≢false (sym t)
apart_sound (suc n) k (z ∷ zs) (w ∷ ws) x y t i j e =
    let high : y / 2 ≡ bit_xor (k / 2) (x / 2) = ap (λ a. a / 2) e ∙ xor_shr k x 1 in
    let low : y % 2 ≡ bit_xor (k % 2) (x % 2) = ap (λ a. a % 2) e ∙ xor_mod k x 1 in
    let parted : (a b : ℕ) → x % 2 ≡ a → y % 2 ≡ b → apart n (k / 2) (those 2 a (z ∷ zs)) (those 2 b (w ∷ ws)) ≡ true → ⊥ =
    λ a b p q s. apart_sound n (k / 2) _ _ (x / 2) (y / 2) s (among_those 2 a x (z ∷ zs) p i) (among_those 2 b y (w ∷ ws) q j) high in
    elim (eq-zero-or-pos (x % 2)) [
      | inl d ↦ parted 0 (k % 2) d (low ∙ ap (bit_xor (k % 2)) d ∙ xor_zero_r (k % 2)) (grind (arith, t))
      | inr d ↦ let one : x % 2 ≡ 1 = omega arith in parted 1 (bit_xor (k % 2) 1) one (low ∙ ap (bit_xor (k % 2)) one) (grind (arith, t))
    ]
