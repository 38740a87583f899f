use Rattle.text.proofs.OnePass.{one_more_digit}
use Rattle.text.proofs.plain.digits.Goals as goal

pub loop-count-preserved : goal.loop-count-preserved
loop-count-preserved c =
    one_more_digit c.args.text.now c.loop-count.count c.loop-count.number c.from.result c.loop-count-test.true c.loop-count.invariant c.if-not-is_ascii_digit.ensures.bound c.from.ensures
