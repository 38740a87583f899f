-- Bytes as one number, all added to a register before any bit falls out, and what they then leave. Assumes nothing.
use Rattle.std.proofs.Common.{◌≡◌, ℕ, zero, suc, ◌+◌, ◌*◌, ◌^◌, ◌<◌, List, [], ◌∷◌, length, refl, sym, ap, subst, ◌∙◌, arith}
use Rattle.std.specs.Int.Bits.{bit_xor, xor_assoc, xor_self, xor_shifted, xor_zero_r}
use Rattle.std.proofs.lemmas.Nat.{pow-add, pow_pos, xor_comm}
use Rattle.crc.specs.Crc.{AllBytes, all_ones, after_bit, after_bits, after_byte, after_bytes, crc32_of}
use Rattle.crc.proofs.Linear.{bits_xor, bits_shift, bits_low}
use Rattle.crc.proofs.Range.{one_fewer}

pub bits_add : (m n a : ℕ) → after_bits (m + n) a ≡ after_bits n (after_bits m a)
bits_add zero n a = let none : zero + n ≡ n = omega arith in ap (λ k. after_bits k a) none
bits_add (suc m) n a = let one : suc m + n ≡ suc (m + n) = omega arith in ap (λ k. after_bits k a) one ∙ bits_add m n (after_bit a)

-- what is added after m bits can be added before them, above those m
bits_joined : (m n register low high : ℕ) → low < 2 ^ m → after_bits n (bit_xor (after_bits m (bit_xor register low)) high) ≡ after_bits (m + n) (bit_xor register (high * 2 ^ m + low))
bits_joined m n register low high h =
    let joined : bit_xor (bit_xor register low) (high * 2 ^ m) ≡ bit_xor register (high * 2 ^ m + low) = grind (arith, xor_assoc, xor_comm, xor_shifted high m low h) in
    rw (← joined, bits_add, bits_xor m (bit_xor register low), bits_shift) refl

-- bytes as one number, low byte first
unfoldable pub number : List ℕ → ℕ
number [] = 0
number (byte ∷ bytes) = number bytes * 2 ^ 8 + byte

-- bytes can all be added before their bits fall out
pub as_number : (bytes : List ℕ) (register : ℕ) → AllBytes bytes → after_bytes register bytes ≡ after_bits (length bytes * 8) (bit_xor register (number bytes))
unfolding after_byte after_bytes number
as_number [] register all = sym (xor_zero_r register)
as_number (byte ∷ bytes) register all =
    let more : 8 + length bytes * 8 ≡ suc (length bytes) * 8 = omega arith in
    as_number bytes (after_bits 8 (bit_xor register byte)) (one_fewer all) ∙ bits_joined 8 (length bytes * 8) register byte (number bytes) (all.each 0) ∙ ap (λ k. after_bits k (bit_xor register (number bytes * 2 ^ 8 + byte))) more

pub number_lt : (n : ℕ) (bytes : List ℕ) → AllBytes bytes → length bytes * 8 ≡ n → number bytes < 2 ^ n
unfolding number
number_lt n [] all l = omega (arith, pow_pos n)
number_lt n (byte ∷ bytes) all l =
    let more : length bytes * 8 + 8 ≡ n = omega arith in
    let rest = number_lt (length bytes * 8) bytes (one_fewer all) refl in
    subst (λ k. number bytes * 256 + byte < k) (sym (pow-add 2 (length bytes * 8) 8) ∙ ap (λ k. 2 ^ k) more) (omega (arith, rest, all.each 0))

-- what is added twice is gone
added_twice : (a b c : ℕ) → bit_xor (bit_xor (bit_xor a b) c) b ≡ bit_xor a c
added_twice a b c = grind (arith, xor_assoc, xor_comm, xor_self b, xor_zero_r)

-- with their check above them, all bytes of one length leave the same
pub left_of_checked : (n : ℕ) (bytes : List ℕ) → AllBytes bytes → length bytes * 8 ≡ n → after_bits n (crc32_of bytes * 2 ^ n + number bytes) ≡ bit_xor (after_bits n all_ones) all_ones
left_of_checked n bytes all l =
    let register : after_bytes all_ones bytes ≡ bit_xor (after_bits n all_ones) (after_bits n (number bytes)) =
    as_number bytes all_ones all ∙ ap (λ k. after_bits k (bit_xor all_ones (number bytes))) l ∙ bits_xor n all_ones (number bytes) in
    ap (after_bits n) (sym (xor_shifted (crc32_of bytes) n (number bytes) (number_lt n bytes all l))) ∙ bits_low n (crc32_of bytes) (number bytes)
    ∙ ap (λ r. bit_xor (bit_xor r all_ones) (after_bits n (number bytes))) register ∙ added_twice (after_bits n all_ones) (after_bits n (number bytes)) all_ones
