-- What can happen on a line, and what comes of it. Assumes nothing: these are definitions.
use Rattle.std.specs.Prelude.{◌≡◌, ℕ, ◌+◌, Bool, true, false, ◌&&◌, List, [], ◌∷◌, ◌++◌, length, Ok, Err, Result, nat_lt, nat_le, slice_set}
use Rattle.braking.specs.declared.refusal.Refusal.{Refusal}
use Rattle.braking.specs.Refusals.{kept}
use Rattle.onboard.specs.declared.train.Train.{Train}
use Rattle.onboard.specs.Train as onboard
use Rattle.message.specs.declared.message.Message.{Message}
use Rattle.message.specs.declared.message.Message.TheVariants as messages
use Rattle.message.specs.Bytes.{received}
use Rattle.controller.specs.declared.controller.Controller.{Controller}
use Rattle.controller.specs.Steps.{silent}
use Rattle.radio.specs.Ends.{after_hearing, report_bytes, tell_bytes, grant_bytes}
use Rattle.safety.specs.declared.event.Event.{Event}
use Rattle.safety.specs.declared.event.Event.TheVariants.{Tick, Mark, Report, Hear, Tell, Grant, Take, Restart}
use Rattle.safety.specs.State.{State, train_at, controller_at, message_at, Initial}

-- whether there is a train, a controller or a message of the number
abbrev pub has_train : State → ℕ → Bool
has_train s train = nat_lt train (length s.trains)

abbrev pub has_controller : State → ℕ → Bool
has_controller s controller = nat_lt controller (length s.controllers)

abbrev pub has_message : State → ℕ → Bool
has_message s message = nat_lt message (length s.sent)

-- whether what was read can be taken: it is a grant, and for a train of the line
abbrev pub may_be_taken : State → Result Message Refusal → Bool
may_be_taken s (Ok (messages.Report train place)) = false
may_be_taken s (Ok (messages.Grant train place)) = has_train s train
may_be_taken s (Err why) = false

-- what can happen. In a tick the driver may wish whatever they like, and the train may have any speed that the unit's answer
-- then allows; its unit is told that speed. Any controller may hear whatever was sent, tell of any train, and grant by any train
-- that has one behind it; a grant that was sent may come to its train. (A grant that comes to another train is turned away
-- there, and a report changes nothing in a unit, so these are no events.) What comes was sent, and comes unchanged; nothing is
-- ever taken off the air: a message may come at any later time, any number of times, or never
abbrev pub can_be : State → Event → Bool
can_be s (Tick train wish speed) = has_train s train && nat_le speed (onboard.fastest (train_at s train).unit wish)
can_be s (Mark train) = has_train s train
can_be s (Report train) = has_train s train
can_be s (Hear controller message) = has_controller s controller && has_message s message
can_be s (Tell controller train) = has_controller s controller && has_train s train
can_be s (Grant controller train) = has_controller s controller && has_train s (train + 1)
can_be s (Take message) = has_message s message && may_be_taken s (received (message_at s message))
can_be s (Restart controller) = has_controller s controller

-- the line with another train or controller at a number, and with a message after those that were sent
abbrev pub with_train : State → ℕ → Train → State
with_train s train t = record s { trains = slice_set s.trains train t }

abbrev pub with_controller : State → ℕ → Controller → State
with_controller s controller c = record s { controllers = slice_set s.controllers controller c }

abbrev pub with_sent : State → Result (List ℕ) Refusal → State
with_sent s (Ok bytes) = record s { sent = s.sent ++ bytes ∷ [] }
with_sent s (Err why) = s

-- an event that happens to one train alone
abbrev pub at_train : State → ℕ → onboard.Event → State
at_train s train e = with_train s train (onboard.after (train_at s train) e)

-- a grant that was read comes to its train
abbrev pub after_take : State → Result Message Refusal → State
after_take s (Ok (messages.Report train place)) = s
after_take s (Ok (messages.Grant train place)) = at_train s train (onboard.take (record { train = train; place = place }))
after_take s (Err why) = s

-- the line after an event. What units and controllers make of it is what they really do: messages are sent as bytes, and
-- read again whenever they are heard or taken
abbrev pub after_event : State → Event → State
after_event s (Tick train wish speed) = at_train s train (onboard.tick wish speed)
after_event s (Mark train) = at_train s train onboard.mark
after_event s (Report train) = with_sent s (report_bytes (train_at s train).unit)
after_event s (Hear controller message) =
    with_controller s controller (kept (controller_at s controller) (after_hearing (controller_at s controller) (message_at s message)))
after_event s (Tell controller train) = with_sent s (tell_bytes (controller_at s controller) train)
after_event s (Grant controller train) = with_sent s (grant_bytes (controller_at s controller) train)
after_event s (Take message) = after_take s (received (message_at s message))
after_event s (Restart controller) = with_controller s controller silent

-- the line after a list of events, one after another
abbrev pub after_events : State → List Event → State
after_events s [] = s
after_events s (e ∷ es) = after_events (after_event s e) es

-- each event of the list can be when its turn comes
abbrev pub CanBe : State → List Event → Type 0
CanBe s [] = Unit {0}
CanBe s (e ∷ es) = (can_be s e ≡ true) × CanBe (after_event s e) es

-- a state that can come: that of a list of events that can be, from an initial state. (∥ Came s ∥₁, in contracts, says that
-- there are such an initial state and events, and not which)
pub record Came (s : State) : Type 0 where
  pub first : State
  pub events : List Event
  pub initial : Initial first
  pub can_be : CanBe first events
  pub is : s ≡ after_events first events
