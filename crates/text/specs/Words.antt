-- The words of a line. Assumes nothing: these are definitions.
use Rattle.std.specs.Prelude.{ℕ, Bool, ◌==◌, ◌||◌, List, length, nat_lt}
use Rattle.std.specs.List.{slice_split, filter}

-- what parts words: a blank or a tab
abbrev pub is_blank : ℕ → Bool
is_blank byte = (byte == 32) || (byte == 9)

abbrev pub is_word : List ℕ → Bool
is_word piece = nat_lt 0 (length piece)

-- the words of a line: its pieces between blanks and tabs, but for the empty ones
unfoldable pub words : List ℕ → List (List ℕ)
words line = filter is_word (slice_split is_blank line)
