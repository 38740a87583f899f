use Rattle.std.proofs.Common.{rules}
use Rattle.crc.proofs.Fours.{four_bytes}
use Rattle.crc.proofs.check.after_four.Goals as goal

pub returns : goal.returns
returns c = search (rules, four_bytes)
