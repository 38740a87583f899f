use Rattle.line.proofs.Running.{came_in_limits, came_stepped}
use Rattle.line.proofs.line.Line.step.Goals as goal

pub step-requires : goal.step-requires
step-requires c = came_in_limits _ c.args.self.now.came

pub invariant_of-self : goal.invariant_of-self
invariant_of-self c = record { came = came_stepped _ _ _ _ _ c.args.self.now.came c.step.ensures.step }
