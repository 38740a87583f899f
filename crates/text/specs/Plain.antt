-- Numbers as digits, and lines that stand as they would be written. What is said of them here, reading in one pass ensures;
-- nobody has to believe it, since what is read so is read as it would be word by word. These are definitions.
use Rattle.std.specs.Prelude.{◌≡◌, ◌≢◌, ◌<◌, ◌≤◌, ◌^◌, ℕ, ◌∷◌, ◌++◌, [], decimal, List, length, take, slice_index}
use Rattle.std.specs.Str.Parse.{AllDigits, digits_value}
use Rattle.std.specs.Char.{digit_value}

-- no plus stands first, and no zero before other digits
abbrev pub IsPlain : List ℕ → Type 0
IsPlain word = (slice_index word 0 ≢ 43) × (slice_index word 0 ≡ 48 → length word ≡ 1)

-- the first bytes are digits, and write the number
abbrev pub AreDigits : List ℕ → (count number : ℕ) → Type 0
AreDigits text count number = AllDigits 10 (take count text) × (number ≡ digits_value 10 (take count text))

-- numbers that are read in one pass
abbrev pub IsShort : ℕ → Type 0
IsShort n = n < 10 ^ 13

-- it does not begin with a digit
abbrev pub NoDigit : List ℕ → Type 0
NoDigit text = 10 ≤ digit_value (slice_index text 0)

-- words with a blank (32) between them, a line feed (10), and what comes after
abbrev pub line_then : (words : List (List ℕ)) → (rest : List ℕ) → List ℕ
line_then [] rest = 10 ∷ rest
line_then (word ∷ []) rest = word ++ 10 ∷ rest
line_then (word ∷ next ∷ words) rest = word ++ 32 ∷ line_then (next ∷ words) rest

-- no line of a number follows
abbrev pub NoNumber : List ℕ → Type 0
NoNumber text = (n : ℕ) (rest : List ℕ) → IsShort n → text ≢ line_then (decimal n ∷ []) rest
