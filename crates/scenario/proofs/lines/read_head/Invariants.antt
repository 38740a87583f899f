use Rattle.std.proofs.Common.{◌≡◌, List, [], ◌++◌, drop, length}
use Rattle.scenario.specs.declared.entry.HeadLine.{HeadLine}
use Rattle.scenario.specs.Texts.{HeadRead}
use Rattle.text.specs.Lines.{GoneOn, Said, left, line_past}
use Rattle.scenario.proofs.lines.read_head.Given as goal

-- whatever lines of the head come after these, they come after these in the text too
abbrev pub invariant-loop-line : goal.invariant-loop-line
invariant-loop-line l =
    record {
      read : (more : List HeadLine) (rest : List Said) →
          HeadRead l.lines.items (left l.reader) more rest → HeadRead [] (left l.fn.reader) (l.lines.items ++ more) rest;
      next : l.reader.line ≡ line_past l.fn.reader.line (length l.lines.items) (left l.fn.reader);
      rest : left l.reader ≡ drop (length l.lines.items) (left l.fn.reader);
      gone : GoneOn l.fn.reader l.reader;
    }

abbrev pub decreases-loop-line : goal.decreases-loop-line
decreases-loop-line l = length l.reader.rest.now
