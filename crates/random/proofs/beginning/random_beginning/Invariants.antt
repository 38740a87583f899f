use Rattle.std.proofs.Common.{◌≡◌, take}
use Rattle.random.proofs.Heads.{head_lines}
use Rattle.random.proofs.beginning.random_beginning.Given as goal

abbrev pub invariant-loop-train : goal.invariant-loop-train
invariant-loop-train l = l.head.items ≡ head_lines l.brake l.blur l.controllers (take l.train-index l.train-items)
