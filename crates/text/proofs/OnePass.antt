-- Words that stand as they are written are read in one pass, where their numbers are short.
use Rattle.std.proofs.Common.{◌≡◌, ◌≢◌, ℕ, ◌+◌, ◌-◌, ◌*◌, ◌<◌, ◌≤◌, ◌^◌, List, [], ◌∷◌, ◌++◌, length, take, drop, get_or, slice_index, decimal, refl, ap, sym, ◌∙◌, arith, subst, append-nil, append_assoc, Option, Some, None, IfNone, IfSome, Bor, Bool, true, false}
use Rattle.std.specs.Bool.{Decides}
use Rattle.std.specs.Cmp.Lexicographic.{pointwise}
use Rattle.std.specs.Char.{digit_value, IsNotAsciiDigit}
use Rattle.std.specs.Option.{MatchOption}
use Rattle.std.specs.Str.Parse.{AllDigits, digits_value, digits_value_after}
use Rattle.std.proofs.lemmas.Int.Digits.{digits_more, digits_value_more}
use Rattle.std.proofs.lemmas.Fmt.{decimal-digits_value, decimal_injective, decimal_nonempty, digits_decimal, digits_value-decimal}
use Rattle.std.proofs.lemmas.Str.{digit_value_digit}
use Rattle.std.proofs.lemmas.Str.Parse.{digit_from_value}
use Rattle.std.proofs.lemmas.List.{append_cancel_left, length-take-le, take-append-drop, take_rest, take_all, get_or-take}
use Rattle.std.proofs.lemmas.Slice.Eq.{strip_prefix_is}
use Rattle.std.proofs.lemmas.Grind.{common_steps}
use native.Mathlib.Decide.{dec_le}
use Rattle.text.specs.Numbers.{IsNumber}
use Rattle.text.specs.Plain.{AreDigits, IsShort, NoDigit}
use Rattle.text.specs.Written.{joined, line_text}
use Rattle.text.proofs.Decimals.{decimal_plain, own}

pub one_more_digit : (text : List ℕ) (count number more : ℕ) → count < length text → AreDigits text count number →
    digit_value (get_or text count 0) < 10 → more ≡ get_or text count 0 - 48 → AreDigits text (count + 1) (number * 10 + more)
one_more_digit text count number more below digits digit is =
    let value : digit_value (get_or text count 0) ≡ more =
    omega (arith, is, digit_value_digit (get_or text count 0) (digit_from_value (get_or text count 0) digit)) in (
      digits_more 10 text count below digits.0 digit,
      sym (digits_value_more 10 text count below ∙ rw (value, digits.1) refl),
    )

pub digits_written : (text : List ℕ) (count number : ℕ) → 0 < count → count ≤ length text → AreDigits text count number → number < 2 ^ 64 →
    (get_or text 0 0 ≡ 48 → count ≤ 1) → text ≡ decimal number ++ take (length text - count) (drop count text)
digits_written text count number some few digits small plain =
    let long : length (take count text) ≡ count = length-take-le count text few in
    let first : get_or (take count text) 0 0 ≡ get_or text 0 0 = get_or-take count text 0 0 some in
    let word : decimal number ≡ take count text =
    ap decimal digits.1 ∙ decimal-digits_value own (take count text) digits.0 (omega (arith, long)) (λ zeros. omega (arith, long, plain (sym first ∙ zeros))) (rw digits.1 at small) in
    rw (take_rest text count) (sym (ap (λ front. front ++ drop count text) word ∙ take-append-drop count text))

-- a word that is taken from the beginning
pub word_taken : {E : ℕ → ℕ → Bool} (decides : (a b : ℕ) → Decides (E a b) (a ≡ b)) (text word : List ℕ) (found : Option (Bor (List ℕ))) →
    MatchOption found (pointwise E (take (length word) text) word ≡ false)
    (λ x. (pointwise E (take (length word) text) word ≡ true) × (x.now ≡ drop (length word) text) × (length x.now + length word ≡ length text)) →
    IfSome found (λ rest. text ≡ word ++ rest.now)
word_taken decides text word None is = tt
word_taken decides text word (Some rest) is = strip_prefix_is decides text word (Some rest) is

pub word_missing : {E : ℕ → ℕ → Bool} (decides : (a b : ℕ) → Decides (E a b) (a ≡ b)) (text word : List ℕ) (found : Option (Bor (List ℕ))) →
    MatchOption found (pointwise E (take (length word) text) word ≡ false)
    (λ x. (pointwise E (take (length word) text) word ≡ true) × (x.now ≡ drop (length word) text) × (length x.now + length word ≡ length text)) →
    IfNone found ((more : List ℕ) → text ≢ word ++ more)
word_missing decides text word None is = strip_prefix_is decides text word None is
word_missing decides text word (Some rest) is = tt

-- written words, one after another
pub last_word : (word rest : List ℕ) → line_text (word ∷ []) ++ rest ≡ word ++ 10 ∷ rest
last_word word rest = append_assoc word (10 ∷ []) rest

pub more_words : (word next : List ℕ) (words : List (List ℕ)) (rest : List ℕ) →
    line_text (word ∷ next ∷ words) ++ rest ≡ word ++ 32 ∷ (line_text (next ∷ words) ++ rest)
more_words word next words rest =
    append_assoc (word ++ 32 ∷ joined (next ∷ words)) (10 ∷ []) rest ∙ append_assoc word (32 ∷ joined (next ∷ words)) (10 ∷ rest)
    ∙ ap (λ more. word ++ 32 ∷ more) (sym (append_assoc (joined (next ∷ words)) (10 ∷ []) rest))

pub one_more_word : (word next : List ℕ) (words : List (List ℕ)) (text rest : List ℕ) → text ≡ line_text (next ∷ words) ++ rest →
    word ++ 32 ∷ text ≡ line_text (word ∷ next ∷ words) ++ rest
one_more_word word next words text rest is = ap (λ more. word ++ 32 ∷ more) is ∙ sym (more_words word next words rest)

pub two_more_words : (word second next : List ℕ) (words : List (List ℕ)) (text after rest : List ℕ) →
    text ≡ second ++ 32 ∷ after → after ≡ line_text (next ∷ words) ++ rest →
    word ++ 32 ∷ text ≡ line_text (word ∷ second ∷ next ∷ words) ++ rest
two_more_words word second next words text after rest is more =
    one_more_word word second (next ∷ words) text rest (is ∙ one_more_word second next words after rest more)

-- digits before something else are read in one way
pub one_number : (ds es x y : List ℕ) → AllDigits 10 ds → AllDigits 10 es → NoDigit x → NoDigit y → ds ++ x ≡ es ++ y → (ds ≡ es) × (x ≡ y)
one_number [] [] x y all others none apart same = (refl, same)
one_number [] (e ∷ es) x y all others none apart same =
    let digit : 10 ≤ digit_value e = subst (λ byte. 10 ≤ digit_value byte) (ap (λ text. slice_index text 0) same) none in
    absurd (omega (arith, digit, others.0))
one_number (d ∷ ds) [] x y all others none apart same =
    let digit : 10 ≤ digit_value d = subst (λ byte. 10 ≤ digit_value byte) (sym (ap (λ text. slice_index text 0) same)) apart in
    absurd (omega (arith, digit, all.0))
one_number (d ∷ ds) (e ∷ es) x y all others none apart same =
    let first : d ≡ e = ap (λ text. slice_index text 0) same in
    let more = one_number ds es x y all.1 others.1 none apart (ap (drop 1) same) in
    (ap (λ byte. byte ∷ ds) first ∙ ap (λ rest. e ∷ rest) more.0, more.1)

pub one_decimal : (m n : ℕ) (x y : List ℕ) → IsNumber m → IsNumber n → NoDigit x → NoDigit y → decimal m ++ x ≡ decimal n ++ y → (m ≡ n) × (x ≡ y)
one_decimal m n x y m_fits n_fits none apart same =
    let parts = one_number (decimal m) (decimal n) x y (digits_decimal own m m_fits) (digits_decimal own n n_fits) none apart same in
    (decimal_injective m n m_fits n_fits parts.0, parts.1)

its_digits : (text : List ℕ) (count number n : ℕ) (rest : List ℕ) → AreDigits text count number → NoDigit (drop count text) → IsNumber n → NoDigit rest →
    text ≡ decimal n ++ rest → take count text ≡ decimal n
its_digits text count number n rest digits ends fits apart same =
    (one_number (take count text) (decimal n) (drop count text) rest digits.0 (digits_decimal own n fits) ends apart (take-append-drop count text ∙ same)).0

pub none_at_all : (text : List ℕ) (count number n : ℕ) (rest : List ℕ) → count ≡ 0 → AreDigits text count number → NoDigit (drop count text) → IsNumber n → NoDigit rest →
    text ≢ decimal n ++ rest
none_at_all text count number n rest none digits ends fits apart same =
    let long : length (take count text) ≡ 0 = ap (λ count. length (take count text)) none in
    omega (arith, long, ap length (its_digits text count number n rest digits ends fits apart same), decimal_nonempty n fits)

pub zero_before : (text : List ℕ) (count number n : ℕ) (rest : List ℕ) → 1 < count → count ≤ length text → get_or text 0 0 ≡ 48 →
    AreDigits text count number → NoDigit (drop count text) → IsNumber n → NoDigit rest → text ≢ decimal n ++ rest
zero_before text count number n rest some few is digits ends fits apart same =
    let word = its_digits text count number n rest digits ends fits apart same in
    let long : length (take count text) ≡ count = length-take-le count text few in
    let first : get_or (take count text) 0 0 ≡ get_or text 0 0 = get_or-take count text 0 0 (omega (arith, some)) in
    let zero : get_or (decimal n) 0 0 ≡ 48 = sym (ap (λ word. get_or word 0 0) word) ∙ first ∙ is in
    omega (arith, some, ap length word, long, (decimal_plain n fits).1 zero)

pub digits_end : (text : List ℕ) (count : ℕ) → NoDigit (drop count text) → NoDigit (take (length text - count) (drop count text))
digits_end text count ends = subst NoDigit (sym (take_rest text count)) ends

-- a byte that is no digit
no_digit : (byte : ℕ) → IsNotAsciiDigit byte → 10 ≤ digit_value byte
no_digit byte not = elim (dec_le 10 (digit_value byte)) [ yes is ↦ is | no small ↦ absurd (omega (arith, not, digit_from_value byte (omega (arith, small)))) ]

pub no_digit_at : (text : List ℕ) (count : ℕ) → IsNotAsciiDigit (get_or text count 0) → NoDigit (drop count text)
no_digit_at text count not =
    let here : get_or (drop count text) 0 0 ≡ get_or text count 0 = grind (arith, common_steps) in
    subst (λ byte. 10 ≤ digit_value byte) (sym here) (no_digit (get_or text count 0) not)

-- a number that goes on is longer
value_le : (n : ℕ) (es : List ℕ) → n ≤ digits_value_after 10 n es
value_le n [] = omega arith
value_le n (e ∷ es) = let more = value_le (n * 10 + digit_value e) es in omega (arith, more)

prefix_le : (n : ℕ) (ds es x y : List ℕ) → AllDigits 10 ds → NoDigit y → ds ++ x ≡ es ++ y → digits_value_after 10 n ds ≤ digits_value_after 10 n es
prefix_le n [] es x y all apart same = value_le n es
prefix_le n (d ∷ ds) [] x y all apart same =
    let digit : 10 ≤ digit_value d = subst (λ byte. 10 ≤ digit_value byte) (sym (ap (λ text. slice_index text 0) same)) apart in
    absurd (omega (arith, digit, all.0))
prefix_le n (d ∷ ds) (e ∷ es) x y all apart same =
    let first : d ≡ e = ap (λ text. slice_index text 0) same in
    subst (λ byte. digits_value_after 10 (n * 10 + digit_value d) ds ≤ digits_value_after 10 (n * 10 + digit_value byte) es) first
    (prefix_le (n * 10 + digit_value d) ds es x y all.1 apart (ap (drop 1) same))

pub too_long : (text : List ℕ) (count number n end : ℕ) (rest : List ℕ) → count < length text → AreDigits text count number →
    digit_value (get_or text count 0) < 10 → 10 ^ 12 ≤ number → IsShort n → 10 ≤ digit_value end → text ≢ decimal n ++ end ∷ rest
too_long text count number n end rest below digits digit long short apart same =
    let all : AllDigits 10 (take (count + 1) text) = digits_more 10 text count below digits.0 digit in
    let value = digits_value_more 10 text count below in
    let le : digits_value 10 (take (count + 1) text) ≤ digits_value 10 (decimal n) =
    prefix_le 0 (take (count + 1) text) (decimal n) (drop (count + 1) text) (end ∷ rest) all apart (take-append-drop (count + 1) text ∙ same) in
    let is : digits_value 10 (decimal n) ≡ n = digits_value-decimal own n (omega (arith, short)) in
    omega (arith, value, le, is, digits.1, long, short)

pub ends_early : (text : List ℕ) (count number n end : ℕ) (rest : List ℕ) → length text ≤ count → AreDigits text count number → IsShort n → 10 ≤ digit_value end →
    text ≢ decimal n ++ end ∷ rest
ends_early text count number n end rest over digits short apart same =
    let whole : take count text ++ [] ≡ decimal n ++ end ∷ rest = append-nil (take count text) ∙ take_all count text over ∙ same in
    let none : NoDigit [] = omega arith in
    let parts = one_number (take count text) (decimal n) [] (end ∷ rest) digits.0 (digits_decimal own n (omega (arith, short))) none apart whole in
    omega (arith, ap length parts.1)

-- what comes after a word and a blank, and after a number and one byte
pub same_rest : (word x y : List ℕ) → word ++ x ≡ word ++ y → x ≡ y
same_rest word x y same = append_cancel_left word x y same

pub rest_is : (word text found more : List ℕ) (end : ℕ) → text ≡ word ++ found → text ≡ word ++ end ∷ more → take (length found - 1) (drop 1 found) ≡ more
rest_is word text found more end is same = take_rest found 1 ∙ ap (drop 1) (append_cancel_left word found (end ∷ more) (sym is ∙ same))

pub number_found : (text found rest : List ℕ) (number n end : ℕ) → IsNumber number → IsShort n → NoDigit found → 10 ≤ digit_value end →
    text ≡ decimal number ++ found → text ≡ decimal n ++ end ∷ rest → (number ≡ n) × (found ≡ end ∷ rest)
number_found text found rest number n end fits short none apart is same =
    one_decimal number n found (end ∷ rest) fits (omega (arith, short)) none apart (sym is ∙ same)

pub number_is : (text found rest : List ℕ) (number n end : ℕ) → IsNumber number → IsShort n → NoDigit found → 10 ≤ digit_value end →
    text ≡ decimal number ++ found → text ≡ decimal n ++ end ∷ rest → (number ≡ n) × (take (length found - 1) (drop 1 found) ≡ rest)
number_is text found rest number n end fits short none apart is same =
    let parts = number_found text found rest number n end fits short none apart is same in
    (parts.0, take_rest found 1 ∙ ap (drop 1) parts.1)
