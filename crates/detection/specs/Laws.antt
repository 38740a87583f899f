-- What is promised of the check: that it finds one to seven changed bits. It is a statement, and stands on the contract of a
-- function. The bits that are changed in a message are a number of 96 bits, with a 1 for each; bit 0 is the low bit of the first
-- byte. Since `after_bits` is linear over exclusive or, bytes whose check was right still have the right check just where this
-- number, taken as the register, leaves 0 after 64 bits. Of the bytes themselves `write` of `message` promises it.
use Rattle.std.specs.Prelude.{◌≢◌, ℕ, ◌^◌, ◌<◌, ◌≤◌, count_ones}
use Rattle.crc.specs.Crc.{after_bits}

-- one to seven changed bits are found, whichever of the 96 they are
abbrev pub FewBitsFound : Type 0
FewBitsFound = (changed : ℕ) → changed < 2 ^ 96 → 0 < count_ones changed → count_ones changed ≤ 7 → after_bits 64 changed ≢ 0
