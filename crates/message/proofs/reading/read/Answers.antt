use Rattle.message.proofs.RoundTrip.{only_written}
use Rattle.message.proofs.reading.read.Goals as goal

pub returns-clause-only : goal.returns-clause-only
returns-clause-only c = rw c.received.ensures (only_written c.args.bytes.now (record { each = λ i. (c.type_inv.bytes i).fits }))
