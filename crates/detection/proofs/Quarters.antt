-- What few of 96 bits leave, and the long computation on it, in four quarters. Assumes nothing.
use Rattle.std.proofs.Common.{◌≡◌, ℕ, zero, suc, ◌/◌, ◌<◌, Bool, true, List, refl, arith}
use Rattle.std.specs.Int.Bits.{bit_xor}
use Rattle.crc.specs.Crc.{polynomial, after_bits}
use Rattle.detection.proofs.Apart.{cons_if, those, apart}
use Rattle.detection.proofs.Sums.{left_by_each, sums}

-- what the lowest bit that was changed leaves after 64 bits, if it is the first of them
unfoldable pub left_by_lowest : ℕ
left_by_lowest = after_bits 63 polynomial

-- every sum without carry of what at most three of the 95 bits above it leave
unfoldable pub left_by_three : List ℕ
left_by_three = sums 3 (left_by_each 63 0 95)

-- The long computation, in four quarters, since the checker bounds the steps of each: no two numbers of the list are
-- `left_by_lowest` apart, whose three low bits are 110.
unfoldable pub quarter : ℕ → List ℕ → Bool
quarter remainder xs = apart 29 (left_by_lowest / 8) (those 8 remainder xs) (those 8 (bit_xor remainder 6) xs)

quarter_0 : quarter 0 left_by_three ≡ true
unfolding quarter left_by_three left_by_lowest sums left_by_each apart those cons_if
quarter_0 = refl

quarter_1 : quarter 1 left_by_three ≡ true
unfolding quarter left_by_three left_by_lowest sums left_by_each apart those cons_if
quarter_1 = refl

quarter_2 : quarter 2 left_by_three ≡ true
unfolding quarter left_by_three left_by_lowest sums left_by_each apart those cons_if
quarter_2 = refl

quarter_3 : quarter 3 left_by_three ≡ true
unfolding quarter left_by_three left_by_lowest sums left_by_each apart those cons_if
quarter_3 = refl

pub each_quarter : (remainder : ℕ) → remainder < 4 → quarter remainder left_by_three ≡ true
each_quarter zero h = quarter_0
each_quarter (suc zero) h = quarter_1
each_quarter (suc (suc zero)) h = quarter_2
each_quarter (suc (suc (suc zero))) h = quarter_3
each_quarter (suc (suc (suc (suc n)))) h = absurd (omega arith)
