-- What is promised of a line after every list of events.
use Rattle.std.specs.Prelude.{◌≡◌, ℕ, suc, ◌+◌, ◌-◌, ◌≤◌, List, [], ◌∷◌, length, true, Ok}
use Rattle.braking.specs.Limits.{place_max}
use Rattle.braking.specs.Distance.{distance}
use Rattle.onboard.specs.declared.train.Train.{Train}
use Rattle.onboard.specs.declared.word.Word.TheVariants.{Brake}
use Rattle.onboard.specs.Rule.{Needed}
use Rattle.onboard.specs.Steps.{asked}
use Rattle.onboard.specs.Train.{RearPast, Known, CanStop}
use Rattle.onboard.specs.Laws.{Answers}
use Rattle.controller.specs.Steps.{known}
use Rattle.safety.specs.declared.event.Event.{Event}
use Rattle.safety.specs.declared.event.Event.TheVariants.{Report, Hear, Grant, Take}
use Rattle.safety.specs.State.{State, train_at, controller_at, Initial}
use Rattle.safety.specs.Events.{has_train, has_controller, after_events, CanBe}

-- the train could stop within its end with the distance that braking takes, from its front and from its high place
pub record CouldStop (t : Train) : Type 0 where
  pub from_front : t.front + distance t.unit.brakes t.unit.speed ≤ t.unit.end
  pub from_high : CanStop t.unit

-- a report of a train is passed on: it is sent, heard by a controller, granted on and taken by the train behind. The report
-- is the next message that is sent, and the grant the one after it
abbrev pub passed_on : State → (controller train : ℕ) → List Event
passed_on s controller train =
    Report train ∷ Hear controller (length s.sent) ∷ Grant controller train ∷ Take (length s.sent + 1) ∷ []

-- each of these events can be when its turn comes, and then the end of the train behind is at least the low place of the one
-- ahead less its length
pub record Fresh (s : State) (controller train : ℕ) : Type 0 where
  pub can_be : CanBe s (passed_on s controller train)
  pub end : (train_at s train).unit.low - (train_at s train).unit.length
      ≤ (train_at (after_events s (passed_on s controller train)) (train + 1)).unit.end

-- all that is promised, of every train, the one behind it and every controller
pub record AllPromised (s : State) : Type 0 where
  -- each train's front is not past the rear of the one ahead
  pub apart : (train : ℕ) → RearPast (train_at s train) (train_at s (suc train)).front
  -- no train may go past the rear of the one ahead, nor past the farthest place
  pub ends : (train : ℕ) → RearPast (train_at s train) (train_at s (suc train)).unit.end
  pub limit : (train : ℕ) → (train_at s train).unit.end ≤ place_max
  -- each train could stop within its end
  pub could_stop : (train : ℕ) → CouldStop (train_at s train)
  -- what is known of it is true: its unit's low and high place, and the place that any controller has for its rear
  pub knows_front : (train : ℕ) → Known (train_at s train).front (train_at s train).unit
  pub knows_rear : (controller train : ℕ) → RearPast (train_at s train) (known (controller_at s controller) train)
  -- its unit refuses no wish up to the highest speed, no tick that can be, no mark and no report
  pub answers : (train : ℕ) → Answers (train_at s train)
  -- and does not brake without need
  pub brakes_if_needed : (train wish : ℕ) → asked (train_at s train).unit wish ≡ Ok Brake →
      Needed (train_at s train).unit.brakes (train_at s train).unit.high (train_at s train).unit.end wish
  -- and at any moment a report of a train that has one behind it can be passed on by any controller
  pub fresh : (controller train : ℕ) → has_controller s controller ≡ true → has_train s (train + 1) ≡ true → Fresh s controller train

-- THE MAIN PROMISE: whatever drivers wish, whatever becomes of what is sent, and whoever tells and grants, all this holds after
-- every list of events that can be, from every initial state. It stands on the contract of `safety_laws`, and on that of `run`
-- in the crate `line`
abbrev pub PromisesKept : Type 0
PromisesKept = (s : State) (es : List Event) → Initial s → CanBe s es → AllPromised (after_events s es)
