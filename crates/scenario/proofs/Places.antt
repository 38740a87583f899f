-- Words by their places in a line.
use Rattle.std.proofs.Common.{◌≡◌, ℕ, zero, suc, ◌+◌, ◌≤◌, List, [], ◌∷◌, length, drop, Some, slice_get, ap, arith, sym, ◌∙◌}
use Rattle.std.proofs.lemmas.List.{drop-drop}

pub word_at : (line rest : List (List ℕ)) (place : ℕ) (word : List ℕ) → word ∷ rest ≡ drop place line → slice_get line place ≡ Some word
word_at [] rest zero word is = grind (arith, is)
word_at [] rest (suc place) word is = grind (arith, is)
word_at (first ∷ line) rest zero word is = ap (λ words. slice_get words 0) (sym is)
word_at (first ∷ line) rest (suc place) word is = word_at line rest place word is

pub after_word : (line rest : List (List ℕ)) (place : ℕ) (word : List ℕ) → word ∷ rest ≡ drop place line → rest ≡ drop (place + 1) line
after_word line rest place word is = ap (drop 1) is ∙ drop-drop 1 place line

pub line_ends : (line : List (List ℕ)) (place : ℕ) → [] ≡ drop place line → length line ≤ place
line_ends [] place is = omega arith
line_ends (first ∷ line) zero is = grind (arith, is)
line_ends (first ∷ line) (suc place) is = omega (arith, line_ends line place is)
