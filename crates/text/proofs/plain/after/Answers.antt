use Rattle.text.proofs.OnePass.{rest_is}
use Rattle.text.proofs.plain.after.Goals as goal

pub returns-in-32-clause-only : goal.returns-in-32-clause-only
returns-in-32-clause-only c more same = rest_is c.args.word.now c.args.text.now c.in_ok-without.field-0.now more 32 c.in_ok-without.ensures.written same
