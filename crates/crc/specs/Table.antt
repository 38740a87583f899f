-- The tables, a byte by the first of them and four bytes by all: the way that the code goes. It need not be believed: it is
-- proved to be what the bitwise definition says.
use Rattle.std.specs.Prelude.{ℕ, ◌+◌, ◌*◌, ◌/◌, ◌%◌, List, map, bit_and, bit_xor, slice_index}
use Rattle.std.specs.Int.{w32, from_le_bytes}
use Rattle.std.specs.List.{range_with_len}
use Rattle.crc.specs.Crc.{after_bits}

-- for each byte, from 0 to 255, the register after its eight bits
abbrev pub table : List ℕ
table = map (after_bits 8) (range_with_len 0 256)

-- for each byte, the register after its eight bits and those of n more bytes, which are 0
abbrev pub later_table : ℕ → List ℕ
later_table n = map (after_bits (8 * (n + 1))) (range_with_len 0 256)

-- the register after a byte: its low byte and the byte choose the entry, and its other bits move down by eight
abbrev pub by_table : ℕ → ℕ → ℕ
by_table register byte = bit_xor (register / 256) (slice_index table (bit_xor (bit_and register 255) byte))

-- what the four bytes of a register leave after 32 bits: each by the table for as many bytes as come after it
abbrev pub four_entries : ℕ → ℕ
four_entries register =
    let first = slice_index (later_table 3) (register % 256) in
    let second = slice_index (later_table 2) (register / 256 % 256) in
    let third = slice_index (later_table 1) (register / 65536 % 256) in
    let fourth = slice_index table (register / 16777216 % 256) in
    bit_xor (bit_xor (bit_xor first second) third) fourth

-- the register after four bytes, which are all added to it before it is looked up
abbrev pub by_tables : ℕ → List ℕ → ℕ
by_tables register bytes = four_entries (bit_xor register (from_le_bytes w32 bytes))
