-- Why a run of a line ends, what it shows, and its gaps. Assumes nothing: these are definitions.
use Rattle.std.specs.Prelude.{◌≡◌, ℕ, zero, suc, ◌+◌, ◌-◌, ◌≤◌, ◌⊎◌, true, false, List, [], ◌∷◌, ◌++◌, length, Some, None, Option, IsSome, slice_get}
use Rattle.controller.specs.Hearings.{Among}
use Rattle.safety.specs.declared.event.Event.{Event}
use Rattle.safety.specs.State.{State, train_at}
use Rattle.safety.specs.Events.{can_be, after_event}
use Rattle.line.specs.declared.gaps.Gaps.{Gaps}
use Rattle.line.specs.declared.seen.Seen.{Seen}
use Rattle.line.specs.declared.step_error.StepError.{StepError}
use Rattle.line.specs.declared.step_error.StepError.TheVariants.{Impossible, NoMemory}
use Rattle.line.specs.Steps.{sends, seen_at}

-- there is no memory for the next event: it can be and sends something, and the list of what was sent is full; or it is a tick,
-- whether or not it can be, and the list of what is seen is full
abbrev pub NoRoom : (full seen_full : Type 0) → State → Event → Type 0
NoRoom full seen_full t next = ((can_be t next ≡ true) × (sends next ≡ true) × full) ⊎ (IsSome (seen_at t next) × seen_full)

-- why a run over a list of events ended where it did: at the end of the list, at an event that cannot be, or at one for
-- which there is no memory
abbrev pub Ended : Option StepError → (done : ℕ) → (full seen_full : Type 0) → List Event → State → Type 0
Ended None done full seen_full es t = done ≡ length es
Ended (Some Impossible) done full seen_full es t = (next : Event) × (slice_get es done ≡ Some next) × (can_be t next ≡ false)
Ended (Some NoMemory) done full seen_full es t = (next : Event) × (slice_get es done ≡ Some next) × NoRoom full seen_full t next

-- what each event of a list gives, one after another
abbrev pub in_turn : {A : Type 0} → (State → Event → List A) → State → List Event → List A
in_turn give s [] = []
in_turn give s (e ∷ es) = give s e ++ in_turn give (after_event s e) es

abbrev pub one_or_none : {A : Type 0} → Option A → List A
one_or_none None = []
one_or_none (Some x) = x ∷ []

-- what is seen of the ticks of a list of events
abbrev pub seen_of : State → List Event → List Seen
seen_of = in_turn (λ s e. one_or_none (seen_at s e))

-- the gap behind a train: from its rear down to the front of the train behind
abbrev pub gap : State → ℕ → ℕ
gap s train = ((train_at s train).front - (train_at s train).unit.length) - (train_at s (suc train)).front

-- the gaps behind the first n trains; and every gap between neighbours
abbrev pub gaps_behind : State → ℕ → List ℕ
gaps_behind s zero = []
gaps_behind s (suc n) = gaps_behind s n ++ gap s n ∷ []

abbrev pub every_gap : State → List ℕ
every_gap s = gaps_behind s (length s.trains - 1)

-- every gap between neighbours, after each event of a list
abbrev pub gaps_of : State → List Event → List ℕ
gaps_of = in_turn (λ s e. every_gap (after_event s e))

-- the smallest of some numbers, if there are any: it is one of them, and none is smaller
abbrev pub Smallest : Option ℕ → List ℕ → Type 0
Smallest None numbers = numbers ≡ []
Smallest (Some smallest) numbers = Among smallest numbers × ((number : ℕ) → Among number numbers → smallest ≤ number)

-- how many gaps there were, and the smallest
pub record Counted (g : Gaps) (gaps : List ℕ) : Type 0 where
  pub count : g.count ≡ length gaps
  pub smallest : Smallest g.smallest gaps

-- the gap behind a train is not below 0: with the front of the train behind and its own length it comes to its front
abbrev pub GapTrue : State → ℕ → Type 0
GapTrue s train = (train_at s (suc train)).front + gap s train + (train_at s train).unit.length ≡ (train_at s train).front
