-- Where a line is cut into its words.
use Rattle.std.proofs.Common.{◌≡◌, ℕ, zero, suc, ◌+◌, ◌<◌, List, [], ◌∷◌, length, take, drop, refl, arith, true, false, Bool, get_or, cond, sym, not, ◌∙◌}
use Rattle.std.proofs.Math.Numerals.{unary_clauses}
use Rattle.std.proofs.lemmas.Bool.Decides.{nat_tests}
use Rattle.std.specs.List.{position_or_len, prefix_len}
use Rattle.std.specs.Str.{IsUtf8, IsCharBoundary}
use Rattle.std.proofs.lemmas.List.Splits.{slice_split_none, slice_split-cons_yes, slice_split_first}
use Rattle.std.proofs.lemmas.List.Sums.{prefix_len_passes, prefix_len_stops, prefix_len-drop_no, prefix_len-drop_all, passes_at_first, fails_before_first, prefix_len-le-length}
use Rattle.std.proofs.lemmas.List.{at_drop_more, length-take-le, take_all, drop_all}
use Rattle.std.proofs.lemmas.Str.{IsCharBoundary-start, IsCharBoundary-after_ascii}
use Rattle.text.specs.Words.{is_blank, words}

-- a blank that a line begins with is nothing
blank_dropped : (byte : ℕ) (line : List ℕ) → is_blank byte ≡ true → words (byte ∷ line) ≡ words line
unfolding words
blank_dropped byte line blank = rw (slice_split-cons_yes is_blank byte line blank) refl

one_dropped : (byte : ℕ) (line : List ℕ) (blank : Bool) → is_blank byte ≡ blank → words (drop (prefix_len is_blank line) line) ≡ words line →
    words (drop (cond blank (1 + prefix_len is_blank line) 0) (byte ∷ line)) ≡ words (byte ∷ line)
one_dropped byte line true is rest =
    let more : 1 + prefix_len is_blank line ≡ suc (prefix_len is_blank line) = omega arith in
    rw more (rest ∙ sym (blank_dropped byte line is))
one_dropped byte line false is rest = refl

pub blanks_dropped : (line : List ℕ) → words (drop (prefix_len is_blank line) line) ≡ words line
blanks_dropped [] = refl
blanks_dropped (byte ∷ line) = one_dropped byte line (is_blank byte) refl (blanks_dropped line)

-- blanks have one byte, so a text may be cut beside them
blank_ascii : (byte : ℕ) → is_blank byte ≡ true → byte < 128
blank_ascii byte = grind (arith, nat_tests)

pub cut_after_blanks : (line : List ℕ) (cut : ℕ) → IsUtf8 line → cut ≡ prefix_len is_blank line → IsCharBoundary line cut
cut_after_blanks line zero utf8 is = IsCharBoundary-start line utf8
cut_after_blanks line (suc before) utf8 is =
    let few = prefix_len-le-length is_blank line in
    let blank = blank_ascii (get_or line before 0) (prefix_len_passes is_blank line before 0 (omega arith)) in
    simp unary_clauses at IsCharBoundary-after_ascii line before utf8 (omega arith) blank

pub cut_before_blank : (line : List ℕ) (cut : ℕ) → cut ≡ position_or_len is_blank line → IsCharBoundary line cut
cut_before_blank line cut is =
    let blank : cut < length line → is_blank (get_or line cut 0) ≡ true = rw is (passes_at_first is_blank line 0) in
    grind (arith, prefix_len-le-length (λ byte. not (is_blank byte)) line, blank_ascii (get_or line cut 0), blank)

-- where nothing is blank the line is one word
one_word : (line : List ℕ) → 0 < length line → position_or_len is_blank line ≡ length line → words line ≡ line ∷ words []
unfolding words
one_word line some all = rw (slice_split_none is_blank line (λ k d below. fails_before_first is_blank line k d (omega arith))) (grind (arith, nat_tests))

word_all : (line : List ℕ) → 0 < position_or_len is_blank line → position_or_len is_blank line ≡ length line →
    words line ≡ take (position_or_len is_blank line) line ∷ words (drop (position_or_len is_blank line) line)
word_all line some all = rw (all, take_all (length line) line (omega arith), drop_all (length line) line (omega arith)) (one_word line (omega arith) all)

-- and else it ends at the first blank
word_cut : (line : List ℕ) → 0 < position_or_len is_blank line → position_or_len is_blank line < length line →
    words line ≡ take (position_or_len is_blank line) line ∷ words (drop (position_or_len is_blank line + 1) line)
unfolding words
word_cut line some more = rw (slice_split_first is_blank line 0 more) (grind (arith, nat_tests, length-take-le (position_or_len is_blank line) line))

-- and else it ends at the first blank
word_ends : (line : List ℕ) → 0 < position_or_len is_blank line → position_or_len is_blank line < length line →
    words line ≡ take (position_or_len is_blank line) line ∷ words (drop (position_or_len is_blank line) line)
word_ends line some more =
    let rest : words (drop (position_or_len is_blank line) line) ≡ words (drop (position_or_len is_blank line + 1) line) =
    at_drop_more words line (position_or_len is_blank line) 0 more ∙ blank_dropped _ _ (passes_at_first is_blank line 0 more) in
    rw rest (word_cut line some more)

no_blanks_left : (line : List ℕ) → prefix_len is_blank (drop (prefix_len is_blank line) line) ≡ 0
no_blanks_left line = grind (arith, prefix_len-drop_no is_blank line (prefix_len is_blank line) 0, prefix_len_stops is_blank line 0, prefix_len-drop_all is_blank line (prefix_len is_blank line))

nothing : (line : List ℕ) → position_or_len is_blank line ≡ 0 → prefix_len is_blank line ≡ 0 → words line ≡ []
unfolding words
nothing [] none start = refl
nothing (byte ∷ line) none start = grind (arith)

-- a line begins with its first word, or has none
pub no_word : (line rest : List ℕ) → rest ≡ drop (prefix_len is_blank line) line → position_or_len is_blank rest ≡ 0 → words line ≡ []
no_word line rest is none = sym (blanks_dropped line) ∙ rw (sym is) (nothing rest none (rw is (no_blanks_left line)))

pub first_word : (line rest : List ℕ) → rest ≡ drop (prefix_len is_blank line) line → 0 < position_or_len is_blank rest →
    words line ≡ take (position_or_len is_blank rest) rest ∷ words (drop (position_or_len is_blank rest) rest)
first_word line rest is some = sym (blanks_dropped line) ∙ rw (sym is) (grind (arith, word_all rest some, word_ends rest some, prefix_len-le-length (λ byte. not (is_blank byte)) rest))
