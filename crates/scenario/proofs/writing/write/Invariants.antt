use Rattle.std.proofs.Common.{◌≡◌, ◌++◌, drop, string_bytes}
use Rattle.scenario.specs.Written.{head_text, events_text, scenario_text}
use Rattle.scenario.proofs.writing.write.Given as goal

-- what is written, with what is left to write, is all that is to be written
abbrev pub invariant-loop-line : goal.invariant-loop-line
invariant-loop-line l = string_bytes l.out ++ head_text (drop l.line-index l.head) ≡ string_bytes l.fn.out ++ head_text l.head

abbrev pub invariant-loop-event : goal.invariant-loop-event
invariant-loop-event l = string_bytes l.out ++ events_text (drop l.event-index l.events) ≡ string_bytes l.fn.out ++ scenario_text l.head l.events
