use Rattle.message.proofs.Changes.{written_found}
use Rattle.message.proofs.RoundTrip.{made_heard}
use Rattle.message.proofs.message.Message.write.Goals as goal

pub returns-clause-heard : goal.returns-clause-heard
returns-clause-heard c = made_heard _ _ c.encoded.ensures

pub returns-clause-changed : goal.returns-clause-changed
returns-clause-changed c = rw c.encoded.ensures (written_found c.args.self)
