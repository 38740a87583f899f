use Rattle.picture.proofs.Gaps.{SmallestOf}
use Rattle.picture.proofs.nearest.smallest_gap.Given as goal

abbrev pub invariant-loop-ahead : goal.invariant-loop-ahead
invariant-loop-ahead l = SmallestOf l.trains l.ahead l.smallest
