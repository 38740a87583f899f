use Rattle.std.proofs.Common.{◌≡◌, true, rules}
use Rattle.onboard.specs.InitialTrain.{fits}
use Rattle.random.proofs.Trains.{limit_of_one_more, one_more_stands}
use Rattle.random.proofs.beginning.random_trains.Goals.{then-train-eq0, else-train-eq0}
use Rattle.random.proofs.beginning.random_trains.Goals as goal

pub loop-train-preserved : goal.loop-train-preserved
loop-train-preserved c =
    let fit : fits c.loop-train.limit c.if-train-eq0.standing ≡ true = elim c.if-train-eq0.branch [
      | then-train-eq0 w ↦ rw w.standing-is w.foremost-standing.ensures
      | else-train-eq0 w ↦ rw w.standing-is w.behind-standing.ensures
    ] in
    record {
      stand = one_more_stands c.loop-train.trains.items _ c.if-train-eq0.standing c.loop-train.limit c.in_ok-push.ensures.items c.loop-train.invariant.limit fit c.loop-train.invariant.stand;
      limit = search (rules, limit_of_one_more);
      room = search rules;
      count = search rules;
    }
