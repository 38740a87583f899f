use Rattle.std.proofs.Common.{refl}
use Rattle.text.proofs.TextLines.{return_stripped}
use Rattle.text.proofs.lines.without_return.Goals as goal

pub returns : goal.returns
returns c = rw c.unwrap_or.ensures (return_stripped _ _ _ c.strip_suffix.ensures.cases refl)
