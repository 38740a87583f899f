-- What functions inside this crate ensure to one another. No public contract names it, so nobody has to believe it: these
-- are definitions.
use Rattle.std.specs.Prelude.{◌≡◌, ℕ, zero, suc, ◌+◌, ◌<◌, ◌≤◌, min, true, false, List, [], ◌∷◌, ◌++◌, length, Some, None, Option, Ok, Err, Result}
use Rattle.braking.specs.declared.refusal.Refusal.{Refusal}
use Rattle.braking.specs.Limits.{speed_max, place_max}
use Rattle.controller.specs.Hearings.{Among}
use Rattle.safety.specs.declared.event.Event.{Event}
use Rattle.safety.specs.declared.event.Event.TheVariants.{Tick}
use Rattle.safety.specs.State.{State, train_at}
use Rattle.safety.specs.Events.{can_be, with_sent, after_event}
use Rattle.line.specs.declared.gaps.Gaps.{Gaps}
use Rattle.line.specs.declared.seen.Seen.{Seen}
use Rattle.line.specs.declared.step_error.StepError.{StepError}
use Rattle.line.specs.declared.step_error.StepError.TheVariants.{Impossible, NoMemory}
use Rattle.line.specs.Steps.{seen_at}
use Rattle.line.specs.Runs.{NoRoom, gap, one_or_none}

-- a train's front and speed are in their limits, so that sums with them are too
pub record InLimits (s : State) (train : ℕ) : Type 0 where
  pub front : (train_at s train).front ≤ place_max
  pub speed : (train_at s train).unit.speed ≤ speed_max

-- what is kept of bytes that a unit or a controller sends, or of its refusal to send
abbrev pub Sent : Result (Unit {0}) StepError → Result (List ℕ) Refusal → (full : Type 0) → State → State → Type 0
Sent (Ok done) bytes full s t = t ≡ with_sent s bytes
Sent (Err Impossible) bytes full s t = ⊥
Sent (Err NoMemory) bytes full s t = full × (t ≡ s)

-- what is seen of one event, as a list
abbrev pub seen_of_one : State → Event → List Seen
seen_of_one s e = one_or_none (seen_at s e)

-- a step whose tick goes on a list of what is seen
abbrev pub Recorded : Result (Unit {0}) StepError → Event → (full seen_full : Type 0) → (s t : State) → (before after : List Seen) → Type 0
Recorded (Ok done) e full seen_full s t before after = (can_be s e ≡ true) × (t ≡ after_event s e) × (after ≡ before ++ seen_of_one s e)
Recorded (Err Impossible) e full seen_full s t before after = (can_be s e ≡ false) × (t ≡ s) × (after ≡ before)
Recorded (Err NoMemory) e full seen_full s t before after = NoRoom full seen_full s e × (t ≡ s) × (after ≡ before)

-- the lesser of a number, if there is one, and another; and so the smallest of a list, if it has any
abbrev pub lesser : Option ℕ → ℕ → ℕ
lesser None gap = gap
lesser (Some smallest) gap = min smallest gap

abbrev pub smallest_of : List ℕ → Option ℕ
smallest_of [] = None
smallest_of (gap ∷ rest) = Some (lesser (smallest_of rest) gap)

-- gaps counted, and one more
abbrev pub count_of : List ℕ → Gaps
count_of gaps = record { count = length gaps; smallest = smallest_of gaps }

abbrev pub with_gap : Gaps → ℕ → Gaps
with_gap g gap = record { count = g.count + 1; smallest = Some (lesser g.smallest gap) }

-- the smaller of two numbers, where there are two
abbrev pub smaller : Option ℕ → Option ℕ → Option ℕ
smaller (Some one) (Some other) = Some (min one other)
smaller None other = other
smaller (Some one) None = Some one

-- gaps counted, and so many more, of which at most one is smaller than all before
abbrev pub with_more : Gaps → ℕ → Option ℕ → Gaps
with_more g more narrowed = record { count = g.count + more; smallest = smaller g.smallest narrowed }

-- the gap that an event can have made smaller: the one ahead of a train that a tick moves
abbrev pub narrowed : State → Event → Option ℕ
narrowed t (Tick zero wish speed) = None
narrowed t (Tick (suc ahead) wish speed) = Some (gap t ahead)
narrowed t _ = None

-- t is the line after an event that could be in s
pub record After (s : State) (e : Event) (t : State) : Type 0 where
  pub can_be : can_be s e ≡ true
  pub is : t ≡ after_event s e

-- every gap between neighbours is among some gaps
abbrev pub AllAmong : State → List ℕ → Type 0
AllAmong s gaps = (ahead : ℕ) → suc ahead < length s.trains → Among (gap s ahead) gaps
