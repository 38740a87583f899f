-- What is left of a text.
use Rattle.std.proofs.Common.{◌≡◌, ◌==◌, ℕ, ◌+◌, ◌<◌, List, [], ◌∷◌, ◌++◌, length, take, ◌-◌, ◌≢◌, slice_index, Some, None, Option, Bor, ap, sym, refl, ◌∙◌, arith}
use Rattle.std.specs.List.{position_or_len, before_first, after_first}
use Rattle.std.specs.Option.{unwrap_or, MatchOption}
use Rattle.std.specs.Str.Lines.{strip_carriage_return}
use Rattle.std.specs.Str.Pattern.{FindsCharSuffix}
use Rattle.std.proofs.Math.Seq.{take-append_seam}
use Rattle.std.proofs.lemmas.List.{get_or_push, length_push, take_more, take_all, drop_all}
use Rattle.std.proofs.lemmas.Bool.Decides.{nat_tests}
use Rattle.std.proofs.lemmas.List.Splits.{slice_split_none, slice_split_first}
use Rattle.std.proofs.lemmas.List.Sums.{fails_before_first}
use Rattle.std.proofs.lemmas.Str.Pattern.{IsSplitOnceResult, split_once_first, strip_suffix_char}
use Rattle.text.specs.Words.{words}
use Rattle.text.specs.Lines.{text_lines, said_by, said_from}

-- nothing is said by what stands after the last line
after_last : (n : ℕ) → said_from n (text_lines []) ≡ []
unfolding text_lines words
after_last n = refl

pub nothing_left : (n : ℕ) (text : List ℕ) → length text ≡ 0 → said_from n (text_lines text) ≡ []
nothing_left n [] none = after_last n
nothing_left n (byte ∷ text) none = grind (arith)

last_line : (text : List ℕ) → position_or_len (λ byte. byte == 10) text ≡ length text → text_lines text ≡ text ∷ []
unfolding text_lines
last_line text none = slice_split_none (λ byte. byte == 10) text (λ k d below. fails_before_first (λ byte. byte == 10) text k d (omega arith))

first_line : (text : List ℕ) → position_or_len (λ byte. byte == 10) text < length text →
    text_lines text ≡ before_first (λ byte. byte == 10) text ∷ text_lines (after_first (λ byte. byte == 10) text)
unfolding text_lines
first_line text some = slice_split_first (λ byte. byte == 10) text 0 some

-- a line and a rest taken from a text: the text says what the line says, and then what the rest does
pub taken : (n : ℕ) (text : List ℕ) (cut : Option (Bor (List ℕ) × Bor (List ℕ))) (all : Bor (List ℕ) × Bor (List ℕ)) →
    IsSplitOnceResult 10 text cut → all.0.now ≡ text → all.1.now ≡ [] →
    said_from n (text_lines text) ≡ said_by n (unwrap_or cut all).0.now ++ said_from (n + 1) (text_lines (unwrap_or cut all).1.now)
taken n text None all is line rest = rw (last_line text (split_once_first 10 text None is (omega arith)), line, rest, after_last (n + 1)) refl
taken n text (Some parts) all is line rest =
    let first = split_once_first 10 text (Some parts) is (omega arith) in
    rw (first_line text first.0, first.1, first.2) refl

-- the line is what stands before the first line feed, and the rest what stands after it
pub cut_at_feed : (text : List ℕ) (cut : Option (Bor (List ℕ) × Bor (List ℕ))) (all : Bor (List ℕ) × Bor (List ℕ)) →
    IsSplitOnceResult 10 text cut → all.0.now ≡ text → all.1.now ≡ [] →
    ((unwrap_or cut all).0.now ≡ before_first (λ byte. byte == 10) text) × ((unwrap_or cut all).1.now ≡ after_first (λ byte. byte == 10) text)
cut_at_feed text None all is line rest =
    let end = split_once_first 10 text None is (omega arith) in (
      line ∙ sym (take_all (position_or_len (λ byte. byte == 10) text) text (omega (arith, end))),
      rest ∙ sym (drop_all (position_or_len (λ byte. byte == 10) text + 1) text (omega (arith, end))),
    )
cut_at_feed text (Some parts) all is line rest =
    let first = split_once_first 10 text (Some parts) is (omega arith) in
    (first.1, first.2)

-- a carriage return at the end of a line
with_return : (line : List ℕ) → strip_carriage_return (line ++ 13 ∷ []) ≡ line
with_return line =
    let end : length (line ++ 13 ∷ []) - 1 ≡ length line = omega (arith, length_push line 13) in
    rw (end, get_or_push line 13 0) (take-append_seam line (13 ∷ []))

with_none : (line : List ℕ) → ((front : List ℕ) → line ≢ front ++ 13 ∷ []) → slice_index line (length line - 1) ≢ 13
with_none [] none last = omega (arith, last)
with_none (byte ∷ line) none last =
    let before : ℕ = length (byte ∷ line) - 1 in
    let more : take (before + 1) (byte ∷ line) ≡ take before (byte ∷ line) ++ 13 ∷ [] =
    take_more (byte ∷ line) before 0 (omega arith) ∙ ap (λ end. take before (byte ∷ line) ++ end ∷ []) last in
    none (take before (byte ∷ line)) (sym (take_all (before + 1) (byte ∷ line) (omega arith)) ∙ more)

-- what `strip_suffix` gives
abbrev IsStripped : List ℕ → Option (Bor (List ℕ)) → Type 0
IsStripped line cut = MatchOption cut (FindsCharSuffix 13 line None) (λ x. (n : ℕ) × FindsCharSuffix 13 line (Some n) × (x.now ≡ take (length line - n) line) × (length x.now + n ≡ length line))

pub return_stripped : (line : List ℕ) (cut : Option (Bor (List ℕ))) (all : Bor (List ℕ)) → IsStripped line cut → all.now ≡ line → (unwrap_or cut all).now ≡ strip_carriage_return line
return_stripped line None all is same = grind (arith, nat_tests, same, with_none line (strip_suffix_char 13 line None is (omega arith)))
return_stripped line (Some rest) all is same = rw (strip_suffix_char 13 line (Some rest) is (omega arith)) (sym (with_return rest.now))
