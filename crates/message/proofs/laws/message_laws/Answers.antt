use Rattle.message.proofs.RoundTrip.{only_written}
use Rattle.message.proofs.laws.message_laws.Goals as goal

pub returns : goal.returns
returns c = λ a b m all_a all_b heard_a heard_b. cc (only_written a all_a m heard_a, only_written b all_b m heard_b)
