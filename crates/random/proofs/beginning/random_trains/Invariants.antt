use Rattle.std.proofs.Common.{◌≡◌, ◌≤◌, Ok, length}
use Rattle.braking.specs.Limits.{place_max}
use Rattle.line.specs.Initial.{trains_checked}
use Rattle.random.proofs.Trains.{limit_behind}
use Rattle.random.proofs.beginning.random_trains.Given as goal

abbrev pub invariant-loop-train : goal.invariant-loop-train
invariant-loop-train l = record {
  stand : trains_checked place_max 0 l.trains.items ≡ Ok tt;
  limit : l.limit ≡ limit_behind place_max l.trains.items;
  room : l.limit ≤ place_max;
  count : length l.trains.items ≡ l.train;
}
