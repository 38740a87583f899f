-- What functions inside this crate ensure to one another. No public contract names it, so nobody has to believe it: these
-- are definitions.
use Rattle.std.specs.Prelude.{◌≢◌, ◌≤◌, ℕ, ◌∷◌, [], decimal, List, codes}
use Rattle.braking.specs.Limits.{speed_max}
use Rattle.safety.specs.declared.event.Event.{Event}
use Rattle.safety.specs.declared.event.Event.TheVariants as events
use Rattle.text.specs.Numbers.{IsNumber}
use Rattle.text.specs.Plain.{IsShort, line_then}
use Rattle.scenario.specs.declared.keyword.Keyword.{Keyword}
use Rattle.scenario.specs.declared.keyword.Keyword.TheVariants as keywords

-- no entry begins with the keyword and goes on with the words
abbrev pub NoEntry : Keyword → List (List ℕ) → Type 0
NoEntry keywords.Brake rest = (n : ℕ) → IsNumber n → rest ≢ decimal n ∷ []
NoEntry keywords.Blur rest = (n : ℕ) → IsNumber n → rest ≢ decimal n ∷ []
NoEntry keywords.Controllers rest = (n : ℕ) → IsNumber n → rest ≢ decimal n ∷ []
NoEntry keywords.Train rest = (low front high end length : ℕ) → IsNumber low → IsNumber front → IsNumber high → IsNumber end → IsNumber length →
    rest ≢ decimal low ∷ decimal front ∷ decimal high ∷ decimal end ∷ decimal length ∷ []
NoEntry keywords.Tick rest = (train wish speed : ℕ) → IsNumber train → wish ≤ speed_max → IsNumber speed →
    rest ≢ decimal train ∷ codes "wish" ∷ decimal wish ∷ codes "speed" ∷ decimal speed ∷ []
NoEntry keywords.Mark rest = (n : ℕ) → IsNumber n → rest ≢ decimal n ∷ []
NoEntry keywords.Report rest = (n : ℕ) → IsNumber n → rest ≢ decimal n ∷ []
NoEntry keywords.Hear rest = (m n : ℕ) → IsNumber m → IsNumber n → rest ≢ decimal m ∷ codes "message" ∷ decimal n ∷ []
NoEntry keywords.Tell rest = (m n : ℕ) → IsNumber m → IsNumber n → rest ≢ decimal m ∷ codes "train" ∷ decimal n ∷ []
NoEntry keywords.Grant rest = (m n : ℕ) → IsNumber m → IsNumber n → rest ≢ decimal m ∷ codes "train" ∷ decimal n ∷ []
NoEntry keywords.Take rest = (n : ℕ) → IsNumber n → rest ≢ codes "message" ∷ decimal n ∷ []
NoEntry keywords.Restart rest = (n : ℕ) → IsNumber n → rest ≢ decimal n ∷ []

-- events that are read in one pass
abbrev pub EventShort : Event → Type 0
EventShort (events.Tick train wish speed) = IsShort train × (wish ≤ speed_max) × IsShort speed
EventShort (events.Mark train) = IsShort train
EventShort (events.Report train) = IsShort train
EventShort (events.Hear controller message) = IsShort controller × IsShort message
EventShort (events.Tell controller train) = IsShort controller × IsShort train
EventShort (events.Grant controller train) = IsShort controller × IsShort train
EventShort (events.Take message) = IsShort message
EventShort (events.Restart controller) = IsShort controller

-- no line of a number, a word and a number follows; none of what follows `tick`
abbrev pub NoTwo : (between text : List ℕ) → Type 0
NoTwo between text = (m n : ℕ) (rest : List ℕ) → IsShort m → IsShort n → text ≢ line_then (decimal m ∷ between ∷ decimal n ∷ []) rest

abbrev pub NoTick : List ℕ → Type 0
NoTick text = (train wish speed : ℕ) (rest : List ℕ) → IsShort train → wish ≤ speed_max → IsShort speed →
    text ≢ line_then (decimal train ∷ codes "wish" ∷ decimal wish ∷ codes "speed" ∷ decimal speed ∷ []) rest
