use Rattle.line.specs.Steps.{state}
use Rattle.random.proofs.More.{Done}
use Rattle.random.proofs.day.some_events.Given as goal

abbrev pub invariant-loop : goal.invariant-loop
invariant-loop l = Done l.counter (state l.initial.line.parts) l.events.items (state l.line.parts)
