use Rattle.picture.proofs.Follows.{DrawnBelow}
use Rattle.picture.proofs.drawing.draw_tracks.Given as goal

abbrev pub invariant-loop-number : goal.invariant-loop-number
invariant-loop-number l = DrawnBelow l.scale l.events l.trains l.initial.since.items l.since.items l.initial.tracks.items l.tracks.items l.number
