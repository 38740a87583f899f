-- Few changed bits are found, wherever they are among 96. Assumes nothing.
use Rattle.std.proofs.Common.{◌≡◌, ◌≢◌, ℕ, zero, suc, ◌*◌, ◌/◌, ◌%◌, ◌^◌, ◌<◌, ◌≤◌, Contains, refl, sym, ap, ◌∙◌, inl, inr, eq-zero-or-pos, pow-suc, pow_mono, arith}
use Rattle.std.specs.Int.Bits.{bit_xor, xor_assoc, xor_self, xor_zero_r}
use Rattle.std.specs.Int.Count.{ones_step}
use Rattle.std.specs.Prelude.{count_ones}
use Rattle.std.proofs.lemmas.Nat.{ones-le, xor_comm, xor_mod, xor_shr}
use Rattle.crc.specs.Crc.{polynomial, after_bit, after_bits}
use Rattle.crc.proofs.Linear.{bits_xor}
use Rattle.crc.proofs.Numbers.{bits_add}
use Rattle.detection.specs.Laws.{FewBitsFound}
use Rattle.detection.proofs.Apart.{among_those, apart_sound}
use Rattle.detection.proofs.Sums.{halves}
use Rattle.detection.proofs.Quarters.{left_by_lowest, left_by_three, quarter, each_quarter}

lowest_by_8 : left_by_lowest % 8 ≡ 6
unfolding left_by_lowest
lowest_by_8 = refl

lowest_by_4 : left_by_lowest / 4 % 2 ≡ 1
unfolding left_by_lowest
lowest_by_4 = refl

-- one of two that are `left_by_lowest` apart is in the first list of a quarter, and the other in the second
in_a_quarter : (x y : ℕ) → Contains left_by_three x → Contains left_by_three y → y ≡ bit_xor left_by_lowest x → x % 8 < 4 → ⊥
unfolding quarter
in_a_quarter x y i j e h =
    let low : y % 8 ≡ bit_xor (x % 8) 6 = ap (λ a. a % 8) e ∙ xor_mod left_by_lowest x 3 ∙ ap (λ a. bit_xor a (x % 8)) lowest_by_8 ∙ xor_comm 6 (x % 8) in
    apart_sound 29 (left_by_lowest / 8) _ _ (x / 8) (y / 8) (each_quarter (x % 8) h)
    (among_those 8 (x % 8) x left_by_three refl i) (among_those 8 (bit_xor (x % 8) 6) y left_by_three low j)
    (ap (λ a. a / 8) e ∙ xor_shr left_by_lowest x 3)

not_lowest : (x y : ℕ) → Contains left_by_three x → Contains left_by_three y → bit_xor x y ≢ left_by_lowest
not_lowest x y i j e =
    let there : y ≡ bit_xor left_by_lowest x = grind (arith, e, xor_assoc, xor_comm, xor_self, xor_zero_r) in
    let back : x ≡ bit_xor left_by_lowest y = grind (arith, e, xor_assoc, xor_comm, xor_self, xor_zero_r) in
    let third : y / 4 % 2 ≡ bit_xor 1 (x / 4 % 2) =
    ap (λ a. a / 4 % 2) there ∙ ap (λ a. a % 2) (xor_shr left_by_lowest x 2) ∙ xor_mod (left_by_lowest / 4) (x / 4) 1 ∙ ap (λ a. bit_xor a (x / 4 % 2)) lowest_by_4 in
    elim (eq-zero-or-pos (x / 4 % 2)) [
      | inl d ↦ in_a_quarter x y i j there (omega arith)
      | inr d ↦
          let one : x / 4 % 2 ≡ 1 = omega arith in
          let none : y / 4 % 2 ≡ 0 = third ∙ ap (bit_xor 1) one in
          in_a_quarter y x j i back (omega arith)
    ]

same_from_xor : (a b : ℕ) → bit_xor a b ≡ 0 → a ≡ b
same_from_xor a b e = grind (arith, e, xor_assoc a b b, xor_self b, xor_zero_r a, ap (λ x. bit_xor x b) e)

-- the lowest bit is 1, and at most six above it
lowest_found : (above : ℕ) → above < 2 ^ 95 → count_ones above ≤ 6 → bit_xor (after_bits 63 above) left_by_lowest ≢ 0
unfolding left_by_three
lowest_found above h few e =
    let r = halves 63 95 0 above 3 3 h few in
    let whole : above * 1 ≡ above = omega arith in
    not_lowest r.one r.two r.one_among r.two_among (r.sum ∙ ap (after_bits 63) whole ∙ same_from_xor (after_bits 63 above) left_by_lowest e)

-- bits that are 0 below the lowest that is 1 only move the others down
found_from : (n changed : ℕ) → n ≤ 96 → changed < 2 ^ n → 0 < count_ones changed → count_ones changed ≤ 7 → after_bits 64 changed ≢ 0
unfolding left_by_lowest
found_from zero changed l h some few e = omega (arith, ones-le 0 changed h)
found_from (suc n) changed l h some few e =
    let above = changed / 2 in
    let next = λ (bit : ℕ) (is : changed % 2 ≡ bit). ap (λ b. after_bits 63 (bit_xor above (b * polynomial))) is in
    elim (eq-zero-or-pos (changed % 2)) [
      | inl d ↦
          let left : after_bits 63 above ≡ 0 = sym (next 0 d ∙ ap (after_bits 63) (xor_zero_r above)) ∙ e in
          found_from n above (omega arith) (omega (arith, pow-suc 2 n)) (omega (arith, ones_step changed)) (omega (arith, ones_step changed))
          (bits_add 63 1 above ∙ ap after_bit left)
      | inr d ↦
          let one : changed % 2 ≡ 1 = omega arith in
          lowest_found above (omega (arith, pow_mono {i = suc n} {j = 96} l)) (omega (arith, ones_step changed))
          (sym (next 1 one ∙ bits_xor 63 above polynomial) ∙ e)
    ]

pub few_bits_found : FewBitsFound
few_bits_found changed h some few = found_from 96 changed (omega arith) h some few
