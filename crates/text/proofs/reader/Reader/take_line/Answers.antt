use Rattle.std.proofs.Common.{refl}
use Rattle.text.proofs.TextLines.{cut_at_feed, taken}
use Rattle.text.proofs.reader.Reader.take_line.Goals as goal

pub returns-clause-taken : goal.returns-clause-taken
returns-clause-taken c = rw c.unwrap_or.ensures (taken _ _ _ _ c.split_once.ensures.cases refl refl)

pub returns-clause-line : goal.returns-clause-line
returns-clause-line c = rw c.unwrap_or.ensures (cut_at_feed _ _ _ c.split_once.ensures.cases refl refl).0

pub returns-clause-rest : goal.returns-clause-rest
returns-clause-rest c = rw c.unwrap_or.ensures (cut_at_feed _ _ _ c.split_once.ensures.cases refl refl).1
