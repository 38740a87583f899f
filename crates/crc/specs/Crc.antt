-- The CRC-32 of IEEE 802.3, bit by bit. Assumes nothing: these are definitions.
use Rattle.std.specs.Prelude.{ℕ, zero, suc, ◌*◌, ◌/◌, ◌%◌, ◌<◌, List, fold, bit_xor, slice_index}

-- each number of the list is a byte
pub record AllBytes (bytes : List ℕ) : Type 0 where
  pub each : (i : ℕ) → slice_index bytes i < 256

-- the polynomial of the standard with its bits reflected, since the low bit of a byte goes first
abbrev pub polynomial : ℕ
polynomial = 0xEDB88320

-- 32 bits, each of them 1
abbrev pub all_ones : ℕ
all_ones = 0xFFFFFFFF

-- the register after one bit: its low bit falls out, the others move down, and if it was 1 the polynomial is added without carry
abbrev pub after_bit : ℕ → ℕ
after_bit register = bit_xor (register / 2) ((register % 2) * polynomial)

-- after n bits
abbrev pub after_bits : ℕ → ℕ → ℕ
after_bits zero register = register
after_bits (suc n) register = after_bits n (after_bit register)

-- after a byte, which is first added to the low end
unfoldable pub after_byte : ℕ → ℕ → ℕ
after_byte register byte = after_bits 8 (bit_xor register byte)

-- after bytes, one after the other
unfoldable pub after_bytes : ℕ → List ℕ → ℕ
after_bytes register bytes = fold after_byte register bytes

-- the check of bytes: the register is all ones at the start, and inverted at the end
abbrev pub crc32_of : List ℕ → ℕ
crc32_of bytes = bit_xor (after_bytes all_ones bytes) all_ones
