use Rattle.play.proofs.Pieces.{all_played}
use Rattle.play.proofs.playing.play.Goals as goal

pub returns-in_default : goal.returns-in_default
returns-in_default g c = all_played c.args.text.now c.in_ok-head.head.items _ _ _ c.loop-piece.invariant (rw c.in_default.is at c.in_ok-more.ensures.none)
