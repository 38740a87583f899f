-- How a scenario is written. Assumes nothing: these are definitions.
use Rattle.std.specs.Prelude.{ℕ, List, ◌++◌}
use Rattle.std.specs.List.{flat_map}
use Rattle.safety.specs.declared.event.Event.{Event}
use Rattle.scenario.specs.declared.entry.HeadLine.{HeadLine}
use Rattle.scenario.specs.Lines.{event_words, head_words}
use Rattle.text.specs.Written.{line_text}

abbrev pub head_text : List HeadLine → List ℕ
head_text = flat_map (λ line. line_text (head_words line))

abbrev pub events_text : List Event → List ℕ
events_text = flat_map (λ event. line_text (event_words event))

abbrev pub scenario_text : List HeadLine → List Event → List ℕ
scenario_text head events = head_text head ++ events_text events
