-- What few bits leave is the sum, without carry, of what each of them leaves. Assumes nothing.
use Rattle.std.proofs.Common.{◌≡◌, ℕ, zero, suc, ◌+◌, ◌*◌, ◌/◌, ◌%◌, ◌^◌, ◌<◌, ◌≤◌, List, [], ◌∷◌, ◌++◌, map, Contains, refl, sym, ap, ◌∙◌, inl, inr, eq-zero-or-pos, pow-suc, arith}
use Rattle.std.specs.Int.Bits.{bit_xor, xor_assoc, xor_shifted}
use Rattle.std.specs.Int.Count.{ones_step}
use Rattle.std.specs.Prelude.{count_ones}
use Rattle.std.proofs.lemmas.Nat.{pow_below, xor_comm}
use Rattle.std.proofs.lemmas.List.Elements.{Contains-append_left, Contains-append_right}
use Rattle.crc.specs.Crc.{after_bits}
use Rattle.crc.proofs.Linear.{bits_xor, bits_shift}
use Rattle.detection.proofs.Among.{first_among, among_map}

-- what each of n bits, from bit k on, leaves by itself after m bits
unfoldable pub left_by_each : (m k n : ℕ) → List ℕ
left_by_each m k zero = []
left_by_each m k (suc n) = after_bits m (2 ^ k) ∷ left_by_each m (suc k) n

-- every sum without carry of at most n of a list
unfoldable pub sums : ℕ → List ℕ → List ℕ
sums zero xs = 0 ∷ []
sums (suc n) [] = 0 ∷ []
sums (suc n) (x ∷ xs) = map (bit_xor x) (sums n xs) ++ sums (suc n) xs

of_none : (n : ℕ) → Contains (sums n []) 0
unfolding sums
of_none zero = first_among [] refl
of_none (suc n) = first_among [] refl

without : (n z x : ℕ) (xs : List ℕ) → Contains (sums n xs) z → Contains (sums n (x ∷ xs)) z
unfolding sums
without zero z x xs i = i
without (suc n) z x xs i = Contains-append_right (map (bit_xor x) (sums n xs)) (sums (suc n) xs) z i

with_it : (n z x : ℕ) (xs : List ℕ) → Contains (sums n xs) z → Contains (sums (suc n) (x ∷ xs)) (bit_xor x z)
unfolding sums
with_it n z x xs i = Contains-append_left (map (bit_xor x) (sums n xs)) (sums (suc n) xs) (bit_xor x z) (among_map (bit_xor x) z (sums n xs) i)

-- a number as the sum of two: one of at most a of a list, and one of at most b of it
pub record Halves (a b : ℕ) (xs : List ℕ) (number : ℕ) : Type 0 where
  pub one : ℕ
  pub two : ℕ
  pub one_among : Contains (sums a xs) one
  pub two_among : Contains (sums b xs) two
  pub sum : bit_xor one two ≡ number

-- one more of the list goes into the first half where there is room, or else into the second
with_one : (a b x v : ℕ) (xs : List ℕ) → 0 < a + b → ((c d : ℕ) → a + b ≤ suc (c + d) → Halves c d xs v) → Halves a b (x ∷ xs) (bit_xor x v)
with_one zero zero x v xs room rest = absurd (omega arith)
with_one zero (suc b) x v xs room rest =
    let r = rest 0 b (omega arith) in
    record {
      one = r.one;
      two = bit_xor x r.two;
      one_among = without 0 r.one x xs r.one_among;
      two_among = with_it b r.two x xs r.two_among;
      sum = grind (arith, r.sum, xor_assoc, xor_comm);
    }
with_one (suc a) b x v xs room rest =
    let r = rest a b (omega arith) in
    record {
      one = bit_xor x r.one;
      two = r.two;
      one_among = with_it a r.one x xs r.one_among;
      two_among = without b r.two x xs r.two_among;
      sum = grind (arith, r.sum, xor_assoc, xor_comm);
    }

without_one : (a b x v : ℕ) (xs : List ℕ) → Halves a b xs v → Halves a b (x ∷ xs) v
without_one a b x v xs r =
    record {
      one = r.one;
      two = r.two;
      one_among = without a r.one x xs r.one_among;
      two_among = without b r.two x xs r.two_among;
      sum = r.sum;
    }

shifted_more : (g k : ℕ) → g * 2 ^ suc k ≡ g * 2 ^ k * 2
shifted_more g k = ap (λ p. g * p) (pow-suc 2 k) ∙ omega arith

same_halves : {a b v w : ℕ} {xs : List ℕ} → v ≡ w → Halves a b xs w → Halves a b xs v
same_halves e r = record { one = r.one; two = r.two; one_among = r.one_among; two_among = r.two_among; sum = r.sum ∙ sym e }

-- what n bits, from bit k on, of which at most a + b are 1, leave after m bits
pub halves : (m n k f a b : ℕ) → f < 2 ^ n → count_ones f ≤ a + b → Halves a b (left_by_each m k n) (after_bits m (f * 2 ^ k))
unfolding left_by_each
halves m zero k f a b h few =
    let nothing : f * 2 ^ k ≡ 0 * 2 ^ m = ap (λ g. g * 2 ^ k) (let none : f ≡ 0 = omega arith in none) ∙ omega arith in
    same_halves (ap (after_bits m) nothing ∙ bits_shift m 0)
    (record { one = 0; two = 0; one_among = of_none a; two_among = of_none b; sum = refl })
halves m (suc n) k f a b h few =
    let rest = λ (c d : ℕ) (p : count_ones (f / 2) ≤ c + d). halves m n (suc k) (f / 2) c d (omega (arith, pow-suc 2 n)) p in
    let above = f / 2 * 2 ^ suc k in
    elim (eq-zero-or-pos (f % 2)) [
      | inl e ↦
          let same : f * 2 ^ k ≡ above = ap (λ g. g * 2 ^ k) (let even : f ≡ f / 2 * 2 = omega arith in even) ∙ omega (arith, shifted_more (f / 2) k) in
          same_halves (ap (after_bits m) same) (without_one a b _ _ _ (rest a b (omega (arith, ones_step f))))
      | inr e ↦
          let same : f * 2 ^ k ≡ above + 2 ^ k = ap (λ g. g * 2 ^ k) (let odd : f ≡ f / 2 * 2 + 1 = omega arith in odd) ∙ omega (arith, shifted_more (f / 2) k) in
          let parts = same ∙ sym (xor_shifted (f / 2) (suc k) (2 ^ k) (pow_below k (suc k) (omega arith))) in
          same_halves (ap (after_bits m) parts ∙ bits_xor m above (2 ^ k) ∙ xor_comm (after_bits m above) (after_bits m (2 ^ k)))
          (with_one a b _ _ _ (omega (arith, ones_step f)) (λ c d p. rest c d (omega (arith, ones_step f))))
    ]
