-- Where the events of a text end. Assumes nothing: these are definitions.
use Rattle.std.specs.Prelude.{◌≡◌, ◌≢◌, ℕ, ◌<◌, List, [], ◌∷◌, length, Some, None, Option}
use Rattle.safety.specs.declared.event.Event.{Event}
use Rattle.scenario.specs.declared.entry.HeadLine.{HeadLine}
use Rattle.scenario.specs.declared.lines.Stop.{Stop}
use Rattle.scenario.specs.declared.lines.Stop.TheVariants.{End, Unreadable}
use Rattle.scenario.specs.Lines.{event_words, EventFits}
use Rattle.scenario.specs.Texts.{HeadRead, EventsRead}
use Rattle.text.specs.Lines.{Said, said}

-- why there is no next event: nothing more is said; or the next line, of this number, is how no event is written
abbrev pub Ends : Stop → List Said → Type 0
Ends End rest = rest ≡ []
Ends (Unreadable line) [] = ⊥
Ends (Unreadable line) (next ∷ rest) = (next.line ≡ line) × ((event : Event) → EventFits event → next.words ≢ event_words event)

-- why reading stopped: there are as many events as wanted, or there are fewer and there is no next one
abbrev pub Stopped : Option Stop → (limit : ℕ) → List Event → (rest : List Said) → Type 0
Stopped None limit events rest = length events ≡ limit
Stopped (Some stop) limit events rest = (length events < limit) × Ends stop rest

-- a text that was read: the lines of its head, its events with the numbers of their lines, and where they end
pub record IsRead (text : List ℕ) (head : List HeadLine) (lines : List ℕ) (events : List Event) (stop : Stop) : Type 0 where
  pub middle : List Said
  pub rest : List Said
  pub head_read : HeadRead [] (said text) head middle
  pub events_read : EventsRead middle lines events rest
  pub ends : Ends stop rest
