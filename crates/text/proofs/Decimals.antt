-- Numbers, and the words that write them.
use Rattle.std.proofs.Common.{◌≡◌, ℕ, ◌<◌, ◌≤◌, ◌^◌, ◌≢◌, List, length, Ok, Err, Result, IfOk, IfErr, decimal, arith, sym, ap}
use Rattle.std.specs.Str.Parse.{AllDigits, digits_value, ParsesUnsigned}
use Rattle.std.proofs.lemmas.Str.Parse.{IsNumeralModel, numerals_by_value, tells_digits, parse_plain, not_in_digits}
use Rattle.std.proofs.lemmas.Fmt.{decimal-digits_value, digits_decimal, decimal_nonempty, first_decimal, decimal_digit, decimal_injective, parse-decimal}
use Rattle.text.specs.Numbers.{IsNumber}
use Rattle.text.specs.Plain.{IsPlain}

pub own : IsNumeralModel (AllDigits 10) (digits_value 10)
own = numerals_by_value (AllDigits 10) tells_digits

pub number_written : {E : Type 0} (word : List ℕ) (r : Result ℕ E) → ParsesUnsigned 64 10 word r → IsPlain word → IfOk r (λ n. word ≡ decimal n)
number_written {E} word (Ok n) parses plain =
    let read = parse_plain own {E = E} 64 word (Ok n) parses plain.0 in
    sym (rw read.1 (decimal-digits_value own word read.0.0 read.0.1 plain.1 read.0.2))
number_written word (Err e) parses plain = tt

length_zero : (n : ℕ) → n ≡ 0 → length (decimal n) ≡ 1
length_zero n is = rw is (ap length (decimal_digit 0 (omega arith)))

pub decimal_plain : (n : ℕ) → n < 2 ^ 64 → IsPlain (decimal n)
decimal_plain n small = (
  not_in_digits own (decimal n) 43 (digits_decimal own n small) (λ digit. omega (arith, digit.1, digit.0)) 0 (decimal_nonempty n small),
  grind (arith, first_decimal n, length_zero n),
)

pub not_plain : (word : List ℕ) → (IsPlain word → ⊥) → (n : ℕ) → IsNumber n → word ≢ decimal n
not_plain word not n small is = not (rw is (decimal_plain n small))

pub unwritten : {E : Type 0} (word : List ℕ) (r : Result ℕ E) → ParsesUnsigned 64 10 word r → IfErr r (λ e. (n : ℕ) → IsNumber n → word ≢ decimal n)
unwritten word (Ok n) parses = tt
unwritten {E} word (Err e) parses = λ n small is. grind (arith, parse-decimal 64 n word (Err e) small small is parses)

-- numbers on two sides of a limit are written apart
pub past_limit : (m n limit : ℕ) → IsNumber m → IsNumber limit → limit < m → n ≤ limit → decimal m ≢ decimal n
past_limit m n limit fits limit_fits above below same = omega (arith, decimal_injective m n fits (omega arith) same)
