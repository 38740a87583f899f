use Rattle.line.specs.Steps.{state}
use Rattle.random.proofs.More.{day_of}
use Rattle.random.proofs.day.random_day.Goals as goal

pub returns : goal.returns
returns c = record {
  is = day_of c.args.extent _ (state c.in_ok-line.line.parts) c.in_ok-head.ensures (rw c.deref.ensures.value at c.in_ok-line.ensures) c.in_ok-events.ensures;
}
