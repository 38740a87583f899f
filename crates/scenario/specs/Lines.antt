-- How the lines of a scenario are written, as words. Assumes nothing: these are definitions.
use Rattle.std.specs.Prelude.{ℕ, ◌≤◌, List, [], ◌∷◌, codes, decimal}
use Rattle.braking.specs.Limits.{speed_max}
use Rattle.safety.specs.declared.event.Event.{Event}
use Rattle.safety.specs.declared.event.Event.TheVariants as events
use Rattle.scenario.specs.declared.entry.HeadLine.{HeadLine}
use Rattle.scenario.specs.declared.entry.HeadLine.TheVariants as heads
use Rattle.scenario.specs.declared.entry.Entry.{Entry}
use Rattle.scenario.specs.declared.entry.Entry.TheVariants as entries
use Rattle.text.specs.Numbers.{IsNumber}

-- the words of an event; numbers are written in decimal digits, with no sign and no leading zero
abbrev pub event_words : Event → List (List ℕ)
event_words (events.Tick train wish speed) =
    codes "tick" ∷ decimal train ∷ codes "wish" ∷ decimal wish ∷ codes "speed" ∷ decimal speed ∷ []
event_words (events.Mark train) = codes "mark" ∷ decimal train ∷ []
event_words (events.Report train) = codes "report" ∷ decimal train ∷ []
event_words (events.Hear controller message) =
    codes "hear" ∷ decimal controller ∷ codes "message" ∷ decimal message ∷ []
event_words (events.Tell controller train) = codes "tell" ∷ decimal controller ∷ codes "train" ∷ decimal train ∷ []
event_words (events.Grant controller train) = codes "grant" ∷ decimal controller ∷ codes "train" ∷ decimal train ∷ []
event_words (events.Take message) = codes "take" ∷ codes "message" ∷ decimal message ∷ []
event_words (events.Restart controller) = codes "restart" ∷ decimal controller ∷ []

-- the words of a line of the head; a train is given by its low place, its front, its high place, its end and its length
abbrev pub head_words : HeadLine → List (List ℕ)
head_words (heads.Brake brake) = codes "brake" ∷ decimal brake ∷ []
head_words (heads.Blur blur) = codes "blur" ∷ decimal blur ∷ []
head_words (heads.Controllers controllers) = codes "controllers" ∷ decimal controllers ∷ []
head_words (heads.Train standing) =
    codes "train" ∷ decimal standing.low ∷ decimal standing.front ∷ decimal standing.high ∷ decimal standing.end ∷ decimal standing.length ∷ []

abbrev pub entry_words : Entry → List (List ℕ)
entry_words (entries.Head line) = head_words line
entry_words (entries.Event event) = event_words event

-- what a scenario can have: numbers below 2 ^ 64, and a wish that a driver can have
abbrev pub EventFits : Event → Type 0
EventFits (events.Tick train wish speed) = IsNumber train × (wish ≤ speed_max) × IsNumber speed
EventFits (events.Mark train) = IsNumber train
EventFits (events.Report train) = IsNumber train
EventFits (events.Hear controller message) = IsNumber controller × IsNumber message
EventFits (events.Tell controller train) = IsNumber controller × IsNumber train
EventFits (events.Grant controller train) = IsNumber controller × IsNumber train
EventFits (events.Take message) = IsNumber message
EventFits (events.Restart controller) = IsNumber controller

abbrev pub HeadFits : HeadLine → Type 0
HeadFits (heads.Brake brake) = IsNumber brake
HeadFits (heads.Blur blur) = IsNumber blur
HeadFits (heads.Controllers controllers) = IsNumber controllers
HeadFits (heads.Train standing) =
    IsNumber standing.low × IsNumber standing.front × IsNumber standing.high × IsNumber standing.end × IsNumber standing.length

abbrev pub Fits : Entry → Type 0
Fits (entries.Head line) = HeadFits line
Fits (entries.Event event) = EventFits event
