-- Lists of bytes, and that their check has 32 bits. Assumes nothing.
use Rattle.std.proofs.Common.{ℕ, zero, suc, ◌/◌, ◌^◌, ◌<◌, List, [], ◌∷◌, ◌++◌, take, arith}
use Rattle.std.proofs.lemmas.Nat.{xor_lt}
use Rattle.crc.specs.Crc.{AllBytes, all_ones, after_bits, after_byte, after_bytes, crc32_of}

pub none : AllBytes []
none = record { each = λ i. omega arith }

pub one_more : {byte : ℕ} {bytes : List ℕ} → byte < 256 → AllBytes bytes → AllBytes (byte ∷ bytes)
one_more h all = record { each = λ i. grind (arith, all.each) }

pub one_fewer : {byte : ℕ} {bytes : List ℕ} → AllBytes (byte ∷ bytes) → AllBytes bytes
one_fewer all = record { each = λ i. all.each (suc i) }

pub append_bytes : (front back : List ℕ) → AllBytes front → AllBytes back → AllBytes (front ++ back)
append_bytes [] back a b = b
append_bytes (byte ∷ front) back a b = one_more (a.each 0) (append_bytes front back (one_fewer a) b)

pub take_bytes : (n : ℕ) (bytes : List ℕ) → AllBytes bytes → AllBytes (take n bytes)
take_bytes zero bytes all = none
take_bytes (suc n) [] all = none
take_bytes (suc n) (byte ∷ bytes) all = one_more (all.each 0) (take_bytes n bytes (one_fewer all))

bits_lt : (n register : ℕ) → register < 2 ^ 32 → after_bits n register < 2 ^ 32
bits_lt zero register h = h
bits_lt (suc n) register h = bits_lt n _ (xor_lt 32 (register / 2) _ (omega arith) (omega arith))

bytes_lt : (bytes : List ℕ) (register : ℕ) → register < 2 ^ 32 → AllBytes bytes → after_bytes register bytes < 2 ^ 32
unfolding after_byte after_bytes
bytes_lt [] register h all = h
bytes_lt (byte ∷ bytes) register h all =
    bytes_lt bytes _ (bits_lt 8 _ (xor_lt 32 register byte h (omega (arith, all.each 0)))) (one_fewer all)

pub crc32_lt : (bytes : List ℕ) → AllBytes bytes → crc32_of bytes < 2 ^ 32
crc32_lt bytes all = xor_lt 32 _ all_ones (bytes_lt bytes all_ones (omega arith) all) (omega arith)
