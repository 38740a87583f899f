use Rattle.std.proofs.Common.{◌≡◌, ◌<◌, ◌∷◌, length, slice_index, ap, arith, rules}
use Rattle.std.proofs.lemmas.Bool.Decides.{nat_tests}
use Rattle.text.specs.Numbers.{IsNumber}
use Rattle.text.proofs.OnePass.{number_found, number_is}
use Rattle.text.proofs.plain.number.Goals as goal

pub returns-in_default-eq32-clause-only : goal.returns-in_default-eq32-clause-only
returns-in_default-eq32-clause-only c n rest short same =
    let fits : IsNumber c.in_ok-digits.field-0.0 = search rules in
    number_is c.args.text.now c.in_ok-digits.field-0.1.now rest c.in_ok-digits.field-0.0 n 32 fits short c.in_ok-digits.ensures.ends (omega arith)
    c.in_ok-digits.ensures.written same

-- another byte stands there, or none
pub returns-in_default-clause-none : goal.returns-in_default-clause-none
returns-in_default-clause-none c n rest short same =
    let fits : IsNumber c.in_ok-digits.field-0.0 = search rules in
    let cut : c.in_ok-digits.field-0.1.now ≡ 32 ∷ rest =
    (number_found c.args.text.now c.in_ok-digits.field-0.1.now rest c.in_ok-digits.field-0.0 n 32 fits short c.in_ok-digits.ensures.ends (omega arith)
    c.in_ok-digits.ensures.written same).1 in
    let long : 0 < length c.in_ok-digits.field-0.1.now = omega (arith, ap length cut) in
    let first : slice_index c.in_ok-digits.field-0.1.now 0 ≡ 32 = ap (λ text. slice_index text 0) cut in
    grind (arith, nat_tests, long, first)
