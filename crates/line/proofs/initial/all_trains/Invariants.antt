use Rattle.std.proofs.Common.{◌≡◌, ◌++◌, drop}
use Rattle.line.specs.Initial.{trains_of}
use Rattle.line.proofs.initial.all_trains.Given as goal

abbrev pub invariant-loop-number : goal.invariant-loop-number
invariant-loop-number l = trains_of l.brakes 0 l.trains ≡ l.on_line.items ++ trains_of l.brakes l.number (drop l.number l.trains)
