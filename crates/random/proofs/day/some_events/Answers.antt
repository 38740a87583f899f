use Rattle.line.specs.Steps.{state}
use Rattle.random.proofs.More.{one_more_event}
use Rattle.random.proofs.day.some_events.Goals as goal

pub loop-preserved : goal.loop-preserved
loop-preserved c = rw c.in_ok-push.ensures.items
    (one_more_event c.loop.counter (state c.args.line.now.parts) (state c.loop.line.parts) (state c.step.new.self.parts) c.loop.events.items c.in-Some.event
    c.loop.invariant c.in-Some.ensures.can_be c.in-Some.ensures.fits c.in-Ok.ensures.step.1)
