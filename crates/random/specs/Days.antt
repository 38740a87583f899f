-- What a random day is. Assumes nothing: these are definitions.
use Rattle.std.specs.Prelude.{◌≡◌, ℕ, ◌≤◌, ◌⊎◌, false, List, [], length, Ok, Result}
use Rattle.std.specs.List.{AllByRecursion}
use Rattle.braking.specs.declared.refusal.Refusal.{Refusal}
use Rattle.line.specs.Initial.{new_line}
use Rattle.safety.specs.declared.event.Event.{Event}
use Rattle.safety.specs.State.{State}
use Rattle.safety.specs.Events as events
use Rattle.scenario.specs.declared.entry.HeadLine.{HeadLine}
use Rattle.scenario.specs.Heads.{brakes_of, controllers_of, trains_of}
use Rattle.scenario.specs.Lines.{HeadFits, EventFits}
use Rattle.scenario.specs.Laws.{NoDoubles}
use Rattle.random.specs.declared.day.Extent.{Extent}
use Rattle.random.specs.declared.day.Day.{Day}

-- the line that is made of a head, or why no day can begin so
abbrev pub new_line_of : List HeadLine → Result State Refusal
new_line_of head = new_line (brakes_of head) (trains_of head) (controllers_of head)

-- a day can begin so, it has no more trains and controllers than were wanted, and it can be written
pub record Begins (extent : Extent) (head : List HeadLine) : Type 0 where
  pub first : State
  pub made : new_line_of head ≡ Ok first
  pub trains : length (trains_of head) ≤ extent.trains
  pub controllers : controllers_of head ≤ extent.controllers
  pub fits : AllByRecursion HeadFits head
  pub once : NoDoubles [] head

-- so many events that can follow one another on a line, and can be written; fewer only where no event more can be
pub record Follow (count : ℕ) (s : State) (es : List Event) : Type 0 where
  pub can_be : events.CanBe s es
  pub fits : AllByRecursion EventFits es
  pub whole : (length es ≡ count) ⊎ ((event : Event) → events.can_be (events.after_events s es) event ≡ false)

-- a day begins, and events follow
pub record IsDay (extent : Extent) (day : Day) : Type 0 where
  pub begins : Begins extent day.head.items
  pub follow : Follow extent.events begins.first day.events.items
