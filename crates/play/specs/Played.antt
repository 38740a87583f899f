-- What it is to play a text. Assumes nothing: these are definitions.
use Rattle.std.specs.Prelude.{◌≡◌, ℕ, ◌<◌, ◌≤◌, ◌^◌, List, [], length, take, Ok}
use Rattle.line.specs.declared.gaps.Gaps.{Gaps}
use Rattle.line.specs.Initial.{new_line}
use Rattle.line.specs.Runs.{Counted, gaps_of}
use Rattle.safety.specs.declared.event.Event.{Event}
use Rattle.safety.specs.State.{State}
use Rattle.safety.specs.Events.{CanBe, after_events}
use Rattle.safety.specs.Promises.{AllPromised}
use Rattle.scenario.specs.declared.entry.HeadLine.{HeadLine}
use Rattle.scenario.specs.Heads.{brakes_of, controllers_of, trains_of}
use Rattle.scenario.specs.Texts.{HeadRead, EventsRead}
use Rattle.text.specs.Lines.{Said, said}

-- some of a text was played: its head makes a line; some events of it, in order, were done on that line, each of which could
-- be, and `rest` is left of the text; the gaps are those that were looked at after each of them
pub record PlayedTo (text : List ℕ) (head : List HeadLine) (rest : List Said) (now : State) (gaps : Gaps) : Type 0 where
  pub middle : List Said
  pub lines : List ℕ
  pub events : List Event
  pub first : State
  pub head_read : HeadRead [] (said text) head middle
  pub events_read : EventsRead middle lines events rest
  pub made : new_line (brakes_of head) (trains_of head) (controllers_of head) ≡ Ok first
  pub can_be : CanBe first events
  pub is : now ≡ after_events first events
  pub counted : length (gaps_of first events) < 2 ^ 128 → Counted gaps (gaps_of first events)

-- all of it was, and after each of its events everything held that is promised of a line
pub record Played (text : List ℕ) (gaps : Gaps) : Type 0 where
  pub head : List HeadLine
  pub now : State
  pub all : PlayedTo text head [] now gaps
  pub promised : (n : ℕ) → n ≤ length all.events → AllPromised (after_events all.first (take n all.events))
