-- What is written is read again, word by word.
use Rattle.std.proofs.Common.{◌≡◌, ◌≢◌, ◌==◌, ℕ, zero, suc, ◌+◌, ◌-◌, ◌<◌, List, [], ◌∷◌, ◌++◌, length, drop, get_or, decimal, Bool, false, true, ◌&&◌, nat_lt, refl, ap, ◌∙◌, arith}
use Rattle.std.specs.List.{All, list_all, after_first, position_or_len}
use Rattle.std.specs.Str.Lines.{strip_carriage_return}
use Rattle.std.specs.Char.{digit_value}
use Rattle.std.specs.Str.Parse.{AllDigits}
use Rattle.std.proofs.lemmas.Str.Parse.{digit_from_value}
use Rattle.std.proofs.lemmas.Bool.Decides.{nat_tests}
use Rattle.std.proofs.lemmas.Fmt.{digits_decimal, decimal_nonempty}
use Rattle.std.proofs.lemmas.List.Sums.{AllPass-from_list_all}
use Rattle.std.proofs.lemmas.List.Folds.{list_all-append}
use Rattle.std.proofs.lemmas.List.Splits.{slice_split_at, slice_split_none}
use Rattle.text.specs.Words.{is_blank, is_word, words}
use Rattle.text.specs.Numbers.{IsNumber}
use Rattle.text.specs.Lines.{text_lines}
use Rattle.text.specs.Written.{joined}
use Rattle.text.proofs.Decimals.{own}

-- a word as it is written: it has bytes, and each shows as a sign
unfoldable pub shows : ℕ → Bool
shows byte = nat_lt 32 byte

unfoldable pub is_written : List ℕ → Bool
is_written word = is_word word && list_all shows word

both : (a b : Bool) → (a && b) ≡ true → (a ≡ true) × (b ≡ true)
both true b is = (refl, is)
both false b is = absurd (grind (arith, is))

digit_shows : (d : ℕ) → digit_value d < 10 → shows d ≡ true
unfolding shows
digit_shows d small = grind (arith, nat_tests, digit_from_value d small)

digits_show : (ds : List ℕ) → AllDigits 10 ds → list_all shows ds ≡ true
digits_show [] all = refl
digits_show (d ∷ ds) all = rw (digit_shows d all.0) (digits_show ds all.1)

pub number_written : (n : ℕ) → IsNumber n → is_written (decimal n) ≡ true
unfolding is_written
number_written n small = rw (digits_show (decimal n) (digits_decimal own n small)) (grind (arith, nat_tests, decimal_nonempty n small))

-- no byte of a written word is a blank, a line feed or a carriage return
module _ (byte : ℕ) where
  no_blank : shows byte ≡ true → is_blank byte ≡ false
  unfolding shows
  no_blank is = grind (arith, nat_tests, is)

  no_end : shows byte ≡ true → (byte == 10) ≡ false
  unfolding shows
  no_end is = grind (arith, nat_tests, is)

all_so : (p q : ℕ → Bool) (word : List ℕ) → ((byte : ℕ) → p byte ≡ true → q byte ≡ false) → list_all p word ≡ true → All (λ byte. q byte ≡ false) word
all_so p q word so all k d below = so (get_or word k d) (AllPass-from_list_all p word all k d below)

-- a written word, a blank, and more
module _ (word : List ℕ) (is : is_written word ≡ true) where
  its_bytes : (0 < length word) × (list_all shows word ≡ true)
  unfolding is_written
  its_bytes = (grind (arith, nat_tests, both (is_word word) (list_all shows word) is), (both (is_word word) (list_all shows word) is).1)

  is_one : is_word word ≡ true
  unfolding is_written
  is_one = (both (is_word word) (list_all shows word) is).0

  word_then : (rest : List ℕ) → words (word ++ 32 ∷ rest) ≡ word ∷ words rest
  unfolding words
  word_then rest = rw (slice_split_at is_blank word 32 rest (all_so shows is_blank word no_blank its_bytes.1) refl, is_one) refl

  last_word : words word ≡ word ∷ []
  unfolding words
  last_word = rw (slice_split_none is_blank word (all_so shows is_blank word no_blank its_bytes.1), is_one) refl

pub words_joined : (ws : List (List ℕ)) → list_all is_written ws ≡ true → words (joined ws) ≡ ws
unfolding words
words_joined [] all = refl
words_joined (word ∷ []) all = last_word word (both (is_written word) true all).0
words_joined (word ∷ next ∷ ws) all =
    let parts = both (is_written word) (list_all is_written (next ∷ ws)) all in
    let first : words (word ++ 32 ∷ joined (next ∷ ws)) ≡ word ∷ words (joined (next ∷ ws)) = word_then word parts.0 (joined (next ∷ ws)) in
    rw (words_joined (next ∷ ws) parts.1) at first

-- all of a written line shows, or is a blank
unfoldable pub line_byte : ℕ → Bool
line_byte byte = nat_lt 31 byte

shown_byte : (byte : ℕ) → shows byte ≡ true → line_byte byte ≡ true
unfolding shows line_byte
shown_byte byte is = grind (arith, nat_tests, is)

all_more : (p q : ℕ → Bool) (word : List ℕ) → ((byte : ℕ) → p byte ≡ true → q byte ≡ true) → list_all p word ≡ true → list_all q word ≡ true
all_more p q [] so all = refl
all_more p q (byte ∷ word) so all =
    let parts = both (p byte) (list_all p word) all in
    rw (so byte parts.0) (all_more p q word so parts.1)

pub line_bytes : (ws : List (List ℕ)) → list_all is_written ws ≡ true → list_all line_byte (joined ws) ≡ true
unfolding line_byte
line_bytes [] all = refl
line_bytes (word ∷ []) all = all_more shows line_byte word shown_byte (its_bytes word (both (is_written word) true all).0).1
line_bytes (word ∷ next ∷ ws) all =
    let parts = both (is_written word) (list_all is_written (next ∷ ws)) all in
    let first : list_all line_byte word ≡ true = all_more shows line_byte word shown_byte (its_bytes word parts.0).1 in
    list_all-append line_byte word (32 ∷ joined (next ∷ ws)) ∙ rw first (line_bytes (next ∷ ws) parts.1)

byte_at : (line : List ℕ) → list_all line_byte line ≡ true → (i : ℕ) → get_or line i 0 ≢ 13
unfolding line_byte
byte_at [] all i same = grind (arith, same)
byte_at (byte ∷ line) all zero same = grind (arith, nat_tests, same, (both (line_byte byte) (list_all line_byte line) all).0)
byte_at (byte ∷ line) all (suc i) same = byte_at line (both (line_byte byte) (list_all line_byte line) all).1 i same

pub no_return : (line : List ℕ) → list_all line_byte line ≡ true → strip_carriage_return line ≡ line
no_return line all = grind (arith, nat_tests, byte_at line all (length line - 1))

no_feed : (byte : ℕ) → line_byte byte ≡ true → (byte == 10) ≡ false
unfolding line_byte
no_feed byte is = grind (arith, nat_tests, is)

pub line_cut : (line rest : List ℕ) → list_all line_byte line ≡ true → text_lines (line ++ 10 ∷ rest) ≡ line ∷ text_lines rest
unfolding text_lines
line_cut line rest all = slice_split_at (λ byte. byte == 10) line 10 rest (all_so line_byte (λ byte. byte == 10) line no_feed all) refl

pub feed_found : (line rest : List ℕ) → list_all line_byte line ≡ true → after_first (λ byte. byte == 10) (line ++ 10 ∷ rest) ≡ rest
unfolding line_byte
feed_found [] rest all = refl
feed_found (byte ∷ line) rest all =
    let parts = both (line_byte byte) (list_all line_byte line) all in
    let at : ℕ = position_or_len (λ byte. byte == 10) (line ++ 10 ∷ rest) in
    let more : 1 + at + 1 ≡ suc (at + 1) = omega arith in
    rw (no_feed byte parts.0) (ap (λ n. drop n (byte ∷ (line ++ 10 ∷ rest))) more ∙ feed_found line rest parts.1)
