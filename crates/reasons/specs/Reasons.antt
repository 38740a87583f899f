-- Why an event cannot be, and why no day can begin with a train. Assumes nothing: these are definitions.
use Rattle.std.specs.Prelude.{ℕ, Bool, ◌+◌, Some, None, Option, if◌then◌else◌, nat_le}
use Rattle.message.specs.Bytes.{received}
use Rattle.onboard.specs.Train as onboard
use Rattle.onboard.specs.declared.initial_train.InitialTrain.{InitialTrain}
use Rattle.safety.specs.declared.event.Event.{Event}
use Rattle.safety.specs.declared.event.Event.TheVariants as events
use Rattle.safety.specs.State.{State, train_at, message_at}
use Rattle.safety.specs.Events.{has_train, has_controller, has_message, may_be_taken}
use Rattle.reasons.specs.declared.impossible.WhyNot.{WhyNot}
use Rattle.reasons.specs.declared.impossible.WhyNot.TheVariants.{NoTrain, NoTrainBehind, NoController, NotSent, NoGrant, TooFast}
use Rattle.reasons.specs.declared.misplaced.Misplaced.{Misplaced}
use Rattle.reasons.specs.declared.misplaced.Misplaced.TheVariants.{Length, Low, Front, High, End}

-- a reason where something does not hold, and else the next
abbrev pub unless : {A : Type 0} → Bool → A → Option A → Option A
unless holds why next = if holds then next else Some why

-- the first reason why an event cannot be next
abbrev pub reason_of : State → Event → Option WhyNot
reason_of s (events.Tick train wish speed) =
    unless (has_train s train) (NoTrain train)
    (unless (nat_le speed (onboard.fastest (train_at s train).unit wish)) (TooFast (onboard.fastest (train_at s train).unit wish)) None)
reason_of s (events.Mark train) = unless (has_train s train) (NoTrain train) None
reason_of s (events.Report train) = unless (has_train s train) (NoTrain train) None
reason_of s (events.Hear controller message) =
    unless (has_controller s controller) (NoController controller) (unless (has_message s message) (NotSent message) None)
reason_of s (events.Tell controller train) =
    unless (has_controller s controller) (NoController controller) (unless (has_train s train) (NoTrain train) None)
reason_of s (events.Grant controller train) =
    unless (has_controller s controller) (NoController controller)
    (unless (has_train s train) (NoTrain train) (unless (has_train s (train + 1)) (NoTrainBehind train) None))
reason_of s (events.Take message) =
    unless (has_message s message) (NotSent message)
    (unless (may_be_taken s (received (message_at s message))) (NoGrant message) None)
reason_of s (events.Restart controller) = unless (has_controller s controller) (NoController controller) None

-- the first thing that a train does not keep, where its end is to be at most the limit
abbrev pub misplaced_by : InitialTrain → (limit : ℕ) → Option Misplaced
misplaced_by train limit =
    unless (nat_le train.length train.front) Length
    (unless (nat_le train.low train.front) Low
    (unless (nat_le train.front train.high) Front
    (unless (nat_le train.high train.end) High
    (unless (nat_le train.end limit) (End limit) None))))
