-- What the lines of a text say. Assumes nothing: these are definitions.
use Rattle.std.specs.Prelude.{◌≡◌, ℕ, zero, suc, ◌≤◌, Bool, true, ◌==◌, ◌+◌, ◌-◌, List, [], ◌∷◌, ◌++◌, if◌then◌else◌, slice_index}
use Rattle.std.specs.List.{slice_split, before_first, after_first, fold}
use Rattle.std.specs.Str.Lines.{strip_carriage_return}
use Rattle.text.specs.declared.reader.Reader.{Reader}
use Rattle.text.specs.Words.{words}

-- the lines of a text are what stands between line feeds, the last one too. A carriage return at the end of a line is no part
-- of it
unfoldable pub text_lines : List ℕ → List (List ℕ)
text_lines text = slice_split (λ byte. byte == 10) text

abbrev pub line_words : List ℕ → List (List ℕ)
line_words line = words (strip_carriage_return line)

-- a line with no word says nothing, nor does a comment: one whose first word begins with #
abbrev pub says_nothing : List (List ℕ) → Bool
says_nothing [] = true
says_nothing (word ∷ rest) = slice_index word 0 == 35

-- a line that says something: its number, and its words
pub record Said : Type 0 where
  pub line : ℕ
  pub words : List (List ℕ)

-- what a line of the number says, if anything; and what lines say, whose numbers begin at n
abbrev pub said_by : ℕ → List ℕ → List Said
said_by n line = if says_nothing (line_words line) then [] else (record { line = n; words = line_words line } ∷ [])

abbrev pub said_from : ℕ → List (List ℕ) → List Said
said_from n [] = []
said_from n (line ∷ lines) = said_by n line ++ said_from (n + 1) lines

-- what a text says; its lines are counted from 0
abbrev pub said : List ℕ → List Said
said text = said_from 0 (text_lines text)

-- what a reader has still to read
abbrev pub left : Reader → List Said
left reader = said_from reader.line (text_lines reader.rest.now)

-- what stands of a text after its first lines, as many as `count`
abbrev pub after_lines : (count : ℕ) → List ℕ → List ℕ
after_lines zero text = text
after_lines (suc count) text = after_first (λ byte. byte == 10) (after_lines count text)

-- its line of a number, counted from 0, without the line end
abbrev pub line_at : ℕ → List ℕ → List ℕ
line_at n text = strip_carriage_return (before_first (λ byte. byte == 10) (after_lines n text))

-- a reader has gone on over whole lines
abbrev pub GoneOn : (from to : Reader) → Type 0
GoneOn from to = (from.line ≤ to.line) × (to.rest.now ≡ after_lines (to.line - from.line) from.rest.now)

-- the line after the first of what is said, as many as `count`; line n where there is none
abbrev pub line_past : (n count : ℕ) → List Said → ℕ
line_past n zero said = n
line_past n (suc count) [] = n
line_past n (suc count) (next ∷ said) = line_past (next.line + 1) count said

-- the line after the last of these
abbrev pub line_after : (n : ℕ) → List ℕ → ℕ
line_after = fold (λ before line. line + 1)
