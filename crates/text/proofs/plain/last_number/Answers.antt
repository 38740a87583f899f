use Rattle.std.proofs.Common.{◌≡◌, ◌<◌, ◌∷◌, length, slice_index, ap, arith, rules}
use Rattle.text.specs.Numbers.{IsNumber}
use Rattle.text.proofs.OnePass.{number_found}
use Rattle.text.proofs.plain.last_number.Goals as goal

-- another byte stands there, or none
pub returns-in_default-clause-none : goal.returns-in_default-clause-none
returns-in_default-clause-none c n rest short same =
    let fits : IsNumber c.in_ok-digits.field-0.0 = search rules in
    let cut : c.in_ok-digits.field-0.1.now ≡ 10 ∷ rest =
    (number_found c.args.text.now c.in_ok-digits.field-0.1.now rest c.in_ok-digits.field-0.0 n 10 fits short c.in_ok-digits.ensures.ends (omega arith)
    c.in_ok-digits.ensures.written same).1 in
    let long : 0 < length c.in_ok-digits.field-0.1.now = omega (arith, ap length cut) in
    let first : slice_index c.in_ok-digits.field-0.1.now 0 ≡ 10 = ap (λ text. slice_index text 0) cut in
    search (rules, long, first)
