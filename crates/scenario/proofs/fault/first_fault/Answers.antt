use Rattle.std.proofs.Common.{rules, sym, ◌+◌, arith}
use Rattle.text.specs.Words.{words}
use Rattle.scenario.proofs.FaultPlaces.{one_fits, one_fails, none_left, first_of_line}
use Rattle.scenario.proofs.fault.first_fault.Goals as goal

-- a part that does not fit is the fault; one that fits leaves the rest; and after the last one nothing fits
pub returns-in_default-fitting-clause-first : goal.returns-in_default-fitting-clause-first
returns-in_default-fitting-clause-first c =
    let told = c.fault_at-in_default-fitting.ensures.told in
    first_of_line _ _ _ _ _ c.loop-index.index _ _ c.in-Some.ensures.some (sym c.in-Some-of.ensures.is) c.form-form.ensures told.0
    (rw told.1 (one_fails _ _ _ c.loop-index.index c.loop-index.invariant.1.first _ c.loop-index-test.true c.in_default-fitting.ensures.none))

pub loop-index-preserved : goal.loop-index-preserved
loop-index-preserved c = (
  search rules,
  record {
    rest = c.in-Some-fitting.ensures.rest (words c.args.line.now) (c.loop-index.index + 1) c.loop-index.invariant.1.rest;
    first = one_fits _ _ _ c.loop-index.index c.loop-index.invariant.1.first _ _ c.loop-index-test.true c.in-Some-fitting.ensures.some;
  },
)

pub returns-clause-first : goal.returns-clause-first
returns-clause-first c =
    let told = c.fault_at-2.ensures.told in
    first_of_line _ _ _ _ _ c.loop-index.index _ _ c.in-Some.ensures.some (sym c.in-Some-of.ensures.is) c.form-form.ensures
    (omega (arith, told.0, c.loop-index-test.false, c.loop-index.auto.index-end))
    (rw told.1 (none_left _ _ _ c.loop-index.index c.loop-index.invariant.1.first c.loop-index-test.false))
