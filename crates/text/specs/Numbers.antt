-- Numbers in a text. Assumes nothing: these are definitions.
use Rattle.std.specs.Prelude.{ℕ, ◌<◌, ◌^◌}

-- a number that can be read
abbrev pub IsNumber : ℕ → Type 0
IsNumber n = n < 2 ^ 64
