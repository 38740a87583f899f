use Rattle.scenario.proofs.Entries.{later}
use Rattle.scenario.proofs.reading.tick.Goals as goal

pub returns-in_err-wish-clause-none : goal.returns-in_err-wish-clause-none
returns-in_err-wish-clause-none c = rw c.from_residual-in_err-wish.ensures (λ train wish speed f0 f1 f2.
    later _ _ _ _ _ c.in_ok-train.ensures.some (later _ _ _ _ _ c.in_ok-after.ensures.some (c.in_err-wish.ensures.none wish _ f1)))
