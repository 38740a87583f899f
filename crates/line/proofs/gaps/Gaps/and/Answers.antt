use Rattle.std.proofs.Common.{arith, length-append}
use Rattle.line.proofs.Counting.{both_right}
use Rattle.line.proofs.gaps.Gaps.and.Goals as goal

pub returns : goal.returns
returns c before after first next few =
    both_right _ _ _ before after c.smaller.ensures (λ few. omega (arith, length-append before after, first.count, next.count, c.saturating_add.ensures)) first next few
