use Rattle.scenario.proofs.Entries.{later}
use Rattle.scenario.proofs.reading.standing.Goals as goal

pub returns-in_err-front-clause-none : goal.returns-in_err-front-clause-none
returns-in_err-front-clause-none c = rw c.from_residual-in_err-front.ensures (λ low front high end length f0 f1 f2 f3 f4.
    later _ _ _ _ _ c.in_ok-low.ensures.some (c.in_err-front.ensures.none front _ f1))

pub returns-in_err-high-clause-none : goal.returns-in_err-high-clause-none
returns-in_err-high-clause-none c = rw c.from_residual-in_err-high.ensures (λ low front high end length f0 f1 f2 f3 f4.
    later _ _ _ _ _ c.in_ok-low.ensures.some (later _ _ _ _ _ c.in_ok-front.ensures.some
    (c.in_err-high.ensures.none high _ f2)))

pub returns-in_err-end-clause-none : goal.returns-in_err-end-clause-none
returns-in_err-end-clause-none c = rw c.from_residual-in_err-end.ensures (λ low front high end length f0 f1 f2 f3 f4.
    later _ _ _ _ _ c.in_ok-low.ensures.some (later _ _ _ _ _ c.in_ok-front.ensures.some (later _ _ _ _ _ c.in_ok-high.ensures.some
    (c.in_err-end.ensures.none end _ f3))))
