use Rattle.picture.specs.Tracks.{NoneDrawn}
use Rattle.picture.proofs.drawing.new_tracks.Given as goal

abbrev pub invariant-loop : goal.invariant-loop
invariant-loop l = NoneDrawn l.counter l.tracks.items
