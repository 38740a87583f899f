use Rattle.std.proofs.Common.{arith}
use Rattle.picture.proofs.Follows.{next_drawn, all_drawn}
use Rattle.picture.proofs.drawing.draw_tracks.Goals as goal

pub loop-number-preserved : goal.loop-number-preserved
loop-number-preserved c =
    next_drawn _ _ _ _ _ _ _ _ _ _ _ _ _ c.loop-number.invariant
    (omega (arith, c.loop-number-test.true, c.min-number-end.ensures, c.len.ensures, c.loop-number.invariant.count))
    c.index_mut.ensures.value c.take_since-happened.ensures.happened c.take_since-happened.ensures.left c.in_ok-draw.ensures

pub returns : goal.returns
returns c = all_drawn _ _ _ _ _ _ _ _
    (omega (arith, c.loop-number-test.false, c.loop-number.auto.number-end, c.min-number-end.ensures, c.len.ensures))
    c.loop-number.invariant
