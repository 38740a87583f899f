use Rattle.std.proofs.Common.{◌≡◌, ◌∙◌, take, length, arith}
use Rattle.std.proofs.lemmas.List.{take_all}
use Rattle.random.proofs.Heads.{head_begins}
use Rattle.random.proofs.beginning.random_beginning.Goals as goal

pub returns : goal.returns
returns c =
    let taken : take c.loop-train.train-index c.deref-train-items.result.now ≡ c.in_ok-trains.trains.items =
    take_all _ _ c.loop-train-test.false ∙ c.deref-train-items.ensures.value in
    let count : length c.in_ok-trains.trains.items ≡ c.up_to_or_all-count.result = c.in_ok-trains.ensures.count in
    rw c.loop-train.invariant (rw taken
    (head_begins c.args.extent c.some_brake-brake.result c.some_blur-blur.result c.up_to_or_all-controllers.result c.in_ok-trains.trains.items
    c.some_brake-brake.ensures.low c.some_brake-brake.ensures.high c.some_blur-blur.ensures
    (omega arith) (omega arith) (omega (arith, count)) (omega (arith, count)) c.in_ok-trains.ensures.stand))
