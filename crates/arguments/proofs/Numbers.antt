-- Numbers among the words of a command line.
use Rattle.std.proofs.Common.{◌≡◌, ◌≢◌, ℕ, ◌<◌, ◌≤◌, ◌^◌, List, decimal, Some, None, true, sym, ap, ◌∙◌, arith}
use Rattle.std.specs.Str.{bytes_eq}
use Rattle.std.specs.Str.Parse.{digits_value}
use Rattle.std.proofs.lemmas.Bool.Decides.{nat_tests}
use Rattle.std.proofs.lemmas.Slice.Eq.{bytes_eq-Decides}
use Rattle.std.proofs.lemmas.Fmt.{digits_value-decimal}
use Rattle.text.proofs.Decimals.{own}
use Rattle.arguments.specs.AskedDays.{number_in}

its_value : (n : ℕ) (word : List ℕ) → n < 2 ^ 64 → word ≡ decimal n → digits_value 10 word ≡ n
its_value n word small is = ap (digits_value 10) is ∙ digits_value-decimal own n small

same_word : (n : ℕ) (word : List ℕ) → n < 2 ^ 64 → word ≡ decimal n → bytes_eq word (decimal (digits_value 10 word)) ≡ true
same_word n word small is = (bytes_eq-Decides word (decimal (digits_value 10 word))).1 (is ∙ ap decimal (sym (its_value n word small is)))

pub number_read : (most n : ℕ) (word : List ℕ) → n < 2 ^ 64 → word ≡ decimal n → n ≤ most → number_in most word ≡ Some n
number_read most n word small is below = grind (arith, nat_tests, same_word n word small is, its_value n word small is)

pub too_high : (most n : ℕ) (word : List ℕ) → n < 2 ^ 64 → word ≡ decimal n → most < n → number_in most word ≡ None
too_high most n word small is above = grind (arith, nat_tests, same_word n word small is, its_value n word small is)

pub no_number : (most : ℕ) (word : List ℕ) → most < 2 ^ 64 → ((n : ℕ) → n < 2 ^ 64 → word ≢ decimal n) → number_in most word ≡ None
no_number most word small none =
    grind (arith, nat_tests, none (digits_value 10 word), (bytes_eq-Decides word (decimal (digits_value 10 word))).0)
