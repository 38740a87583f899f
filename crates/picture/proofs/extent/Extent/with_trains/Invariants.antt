use Rattle.std.proofs.Common.{◌≡◌, drop}
use Rattle.picture.specs.Extents.{with_trains}
use Rattle.picture.proofs.extent.Extent.with_trains.Given as goal

-- what the trains that are left add to what there is so far is what all add
abbrev pub invariant-loop-train : goal.invariant-loop-train
invariant-loop-train l = with_trains l.self (drop l.train-index l.trains) ≡ with_trains l.initial.self l.trains
