-- The check is linear over exclusive or, so the low byte's part can be looked up. Assumes nothing.
use Rattle.std.proofs.Common.{◌≡◌, ℕ, zero, suc, ◌*◌, ◌/◌, ◌%◌, ◌^◌, ◌<◌, refl, ◌∙◌, arith}
use Rattle.std.specs.Int.Bits.{bit_xor, bit_and, mask_lt, xor_assoc, xor_zero_r, xor_shifted, shifted_half, shifted_even}
use Rattle.std.proofs.lemmas.Nat.{and_mask, shr_split, xor_comm, xor_lt, xor_mod, xor_shr}
use Rattle.std.proofs.lemmas.List.FromFn.{get_or-map-range_with_len}
use Rattle.crc.specs.Crc.{polynomial, after_bit, after_bits, after_byte}
use Rattle.crc.specs.Table.{by_table}

-- the polynomial is taken or not, by a bit
bit_mul : (x y : ℕ) → x < 2 → y < 2 → bit_xor x y * polynomial ≡ bit_xor (x * polynomial) (y * polynomial)
bit_mul zero y hx hy = refl
bit_mul (suc zero) zero hx hy = refl
bit_mul (suc zero) (suc zero) hx hy = refl
bit_mul x y hx hy = absurd (omega arith)

after_bit_xor : (a b : ℕ) → after_bit (bit_xor a b) ≡ bit_xor (after_bit a) (after_bit b)
after_bit_xor a b = grind (arith, xor_shr a b 1, xor_mod a b 1, bit_mul (a % 2) (b % 2), xor_assoc, xor_comm)

pub bits_xor : (n a b : ℕ) → after_bits n (bit_xor a b) ≡ bit_xor (after_bits n a) (after_bits n b)
bits_xor zero a b = refl
bits_xor (suc n) a b = rw after_bit_xor (bits_xor n (after_bit a) (after_bit b))

-- bits that are 0 only move the register down
pub bits_shift : (n a : ℕ) → after_bits n (a * 2 ^ n) ≡ a
bits_shift zero a = omega arith
bits_shift (suc n) a = rw (shifted_half, shifted_even, xor_zero_r) (bits_shift n a)

-- the n low bits act, and the others move down
pub bits_low : (n high low : ℕ) → after_bits n (bit_xor (high * 2 ^ n) low) ≡ bit_xor high (after_bits n low)
bits_low n high low = rw (bits_xor, bits_shift)

-- what the table has for the low byte is all that a byte does but for moving the others down
pub table_byte : (register byte : ℕ) → byte < 256 → by_table register byte ≡ after_byte register byte
unfolding after_byte
table_byte register byte h =
    let low = bit_xor (bit_and register 255) byte in
    let entry = get_or-map-range_with_len (after_bits 8) 0 256 low low 0 (xor_lt 8 _ byte (mask_lt register 8) h) (omega arith) in
    let whole = xor_shifted (register / 256) 8 (register % 256) (omega arith) ∙ shr_split register 8 in
    rw (entry, and_mask register 8, ← bits_low 8 (register / 256), ← xor_assoc, whole)
