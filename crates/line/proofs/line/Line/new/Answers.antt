use Rattle.std.proofs.Common.{◌≡◌, Err, arith}
use Rattle.braking.specs.declared.refusal.Refusal.TheVariants.{NotInitial}
use Rattle.line.specs.Steps.{state}
use Rattle.line.specs.declared.new_error.NewError.TheVariants.{Refused}
use Rattle.line.proofs.Beginnings.{new_initial, new_came, made_first}
use Rattle.line.proofs.line.Line.new.Goals as goal

pub invariant_of-result : goal.invariant_of-result
invariant_of-result c = record { came = new_came c.args.brakes c.args.trains.now c.args.controllers _ c.in_ok-parts.ensures }

pub returns-clause-initial : goal.returns-clause-initial
returns-clause-initial c = new_initial c.args.brakes c.args.trains.now c.args.controllers _ c.in_ok-parts.ensures

pub returns-in_err-parts-clause-first : goal.returns-in_err-parts-clause-first
returns-in_err-parts-clause-first c = λ train e.
    let why : c.in_err-parts.field-0.0 ≡ Refused (NotInitial train) = grind (arith, c.from_residual.ensures, e) in
    made_first state (Err c.in_err-parts.field-0.0) c.args.brakes c.args.trains.now c.args.controllers train c.in_err-parts.ensures (grind (arith, why))
