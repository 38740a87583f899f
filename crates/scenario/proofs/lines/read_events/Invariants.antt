use Rattle.std.proofs.Common.{◌≡◌, length, ◌-◌, ◌≤◌}
use Rattle.scenario.specs.Texts.{EventsRead}
use Rattle.text.specs.Lines.{GoneOn, left, line_after}
use Rattle.scenario.proofs.lines.read_events.Given as goal

-- these events were read, and not too many
abbrev pub invariant-loop-events : goal.invariant-loop-events
invariant-loop-events l =
    record {
      read : EventsRead (left l.fn.reader) l.lines.items l.events.items (left l.reader);
      next : l.reader.line ≡ line_after l.fn.reader.line l.lines.items;
      gone : GoneOn l.fn.reader l.reader;
      few : length l.events.items ≤ l.limit;
    }

abbrev pub decreases-loop-events : goal.decreases-loop-events
decreases-loop-events l = l.limit - length l.events.items
