use Rattle.std.proofs.Common.{◌≡◌, ◌+◌, drop}
use Rattle.std.specs.List.{prefix_len}
use Rattle.text.specs.Words.{is_blank}
use Rattle.text.proofs.words.blanks.Given as goal

-- the bytes before the place are counted, and the rest is left
abbrev pub invariant-loop-at : goal.invariant-loop-at
invariant-loop-at l = prefix_len is_blank l.line ≡ l.at + prefix_len is_blank (drop l.at l.line)
