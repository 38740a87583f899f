use Rattle.std.proofs.Common.{◌≡◌, drop}
use Rattle.braking.specs.Limits.{place_max}
use Rattle.line.specs.Initial.{trains_checked}
use Rattle.line.proofs.initial.check_trains.Given as goal

abbrev pub invariant-loop-train : goal.invariant-loop-train
invariant-loop-train l = trains_checked place_max 0 l.trains ≡ trains_checked l.limit l.train (drop l.train l.trains)
