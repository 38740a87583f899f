use Rattle.std.proofs.Common.{length}
use Rattle.line.specs.Steps.{state}
use Rattle.text.specs.Lines.{left}
use Rattle.play.specs.Played.{PlayedTo}
use Rattle.play.proofs.playing.play.Given as goal

-- the text was played up to what is left of it
abbrev pub invariant-loop-piece : goal.invariant-loop-piece
invariant-loop-piece g l = PlayedTo l.text l.head.items (left l.reader) (state l.line.parts) l.gaps

abbrev pub decreases-loop-piece : goal.decreases-loop-piece
decreases-loop-piece g l = length (left l.reader)
