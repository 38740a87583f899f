use Rattle.std.proofs.Common.{◌≡◌, ◌≤◌, length}
use Rattle.text.specs.Lines.{GoneOn, left}
use Rattle.text.proofs.reader.Reader.next_said.Given as goal

-- nothing was said yet
abbrev pub invariant-loop-line : goal.invariant-loop-line
invariant-loop-line l = (left l.self ≡ left l.fn.self) × (length l.self.rest.now ≤ length l.fn.self.rest.now) × GoneOn l.fn.self l.self

abbrev pub decreases-loop-line : goal.decreases-loop-line
decreases-loop-line l = length l.self.rest.now
