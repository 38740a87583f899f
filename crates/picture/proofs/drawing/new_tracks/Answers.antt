use Rattle.picture.proofs.Follows.{none_drawn_more}
use Rattle.picture.proofs.drawing.new_tracks.Goals as goal

pub loop-preserved : goal.loop-preserved
loop-preserved c = none_drawn_more _ _ _ _ c.loop.invariant c.new.ensures c.in_ok-push.ensures.items
