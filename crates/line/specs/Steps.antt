-- What the line that runs holds, and what a step of it does and answers. Assumes nothing: these are definitions.
use Rattle.std.specs.Prelude.{◌≡◌, ◌+◌, Bool, true, false, Some, None, Option, Ok, Err, Result}
use Rattle.braking.specs.declared.refusal.Refusal.{Refusal}
use Rattle.onboard.specs.declared.word.Word.{Word}
use Rattle.onboard.specs.declared.word.Word.TheVariants.{Brake}
use Rattle.onboard.specs.Steps.{asked}
use Rattle.safety.specs.declared.event.Event.{Event}
use Rattle.safety.specs.declared.event.Event.TheVariants.{Tick, Report, Tell, Grant}
use Rattle.safety.specs.State.{State, train_at}
use Rattle.safety.specs.Events.{can_be, after_event}
use Rattle.line.specs.declared.parts.Parts.{Parts}
use Rattle.line.specs.declared.seen.Seen.{Seen}
use Rattle.line.specs.declared.step_error.StepError.{StepError}
use Rattle.line.specs.declared.step_error.StepError.TheVariants.{Impossible, NoMemory}

-- the parts of a line as the definitions know it
abbrev pub state : Parts → State
state parts = record { trains = parts.trains.items; controllers = parts.controllers.items; sent = parts.sent.items }

-- the events that send something
abbrev pub sends : Event → Bool
sends (Report train) = true
sends (Tell controller train) = true
sends (Grant controller train) = true
sends _ = false

-- what the unit's answer comes to: a wish that is refused is not let
abbrev pub word_of : Result Word Refusal → Word
word_of (Ok word) = word
word_of (Err why) = Brake

-- what is seen of an event: only a tick shows anything
abbrev pub seen_at : State → Event → Option Seen
seen_at s (Tick train wish speed) =
    Some (record { train = train; word = word_of (asked (train_at s train).unit wish); speed = speed; front = (train_at s train).front + speed })
seen_at s _ = None

-- a step from s to t: the event is done, if it can be; or it cannot be, and all is as it was. Where something is sent and
-- the list of what was sent is full, there may be no memory to keep it, and then too all is as it was
abbrev pub Stepped : {A : Type 0} → Result A StepError → Event → (full : Type 0) → State → State → Type 0
Stepped (Ok done) e full s t = (can_be s e ≡ true) × (t ≡ after_event s e)
Stepped (Err Impossible) e full s t = (can_be s e ≡ false) × (t ≡ s)
Stepped (Err NoMemory) e full s t = (can_be s e ≡ true) × (sends e ≡ true) × full × (t ≡ s)
