use Rattle.std.proofs.Common.{arith}
use Rattle.picture.proofs.Gaps.{next_looked_at}
use Rattle.picture.proofs.nearest.smallest_gap.Goals as goal

pub loop-ahead-preserved : goal.loop-ahead-preserved
loop-ahead-preserved c =
    next_looked_at _ _ _ _ _ _ _ (omega (arith, c.loop-ahead-test.true, c.saturating_sub-ahead-end.ensures)) c.between-next.ensures c.loop-ahead.invariant c.smaller_gap.ensures
