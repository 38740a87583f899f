use Rattle.std.proofs.Common.{arith, rules}
use Rattle.braking.specs.Limits.{speed_max}
use Rattle.text.proofs.Decimals.{past_limit}
use Rattle.scenario.proofs.Entries.{other_first}
use Rattle.scenario.proofs.reading.next_wish.Goals as goal

pub returns-else-wish-le-SPEED_MAX-clause-none : goal.returns-else-wish-le-SPEED_MAX-clause-none
returns-else-wish-le-SPEED_MAX-clause-none c n rest slow = other_first _ _ _ _ _ c.in_ok-wish.ensures.some (past_limit c.in_ok-wish.wish n speed_max (search rules) (omega arith) c.if-wish-le-SPEED_MAX.false slow)
