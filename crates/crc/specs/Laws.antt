-- What is promised of the definition of the check. Each is a statement, and stands on the contract of a function.
use Rattle.std.specs.Prelude.{◌≡◌, ℕ, zero, suc, ◌+◌, ◌*◌, ◌/◌, ◌%◌, ◌^◌, codes}
use Rattle.crc.specs.Crc.{polynomial, crc32_of}

-- the n low bits of a number in the reverse order
abbrev pub reflected : ℕ → ℕ → ℕ
reflected zero m = 0
reflected (suc n) m = (m % 2) * 2 ^ n + reflected n (m / 2)

-- the polynomial is the published one: x³² + x²⁶ + x²³ + x²² + x¹⁶ + x¹² + x¹¹ + x¹⁰ + x⁸ + x⁷ + x⁵ + x⁴ + x² + x + 1, with x³² left out
abbrev pub PublishedPolynomial : Type 0
PublishedPolynomial =
    reflected 32 polynomial
    ≡ 2 ^ 26 + 2 ^ 23 + 2 ^ 22 + 2 ^ 16 + 2 ^ 12 + 2 ^ 11 + 2 ^ 10 + 2 ^ 8 + 2 ^ 7 + 2 ^ 5 + 2 ^ 4 + 2 ^ 2 + 2 + 1

-- the check of the text 123456789, by which implementations of this CRC are told apart
abbrev pub PublishedCheck : Type 0
PublishedCheck = crc32_of (codes "123456789") ≡ 0xCBF43926
