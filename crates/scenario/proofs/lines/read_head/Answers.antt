use Rattle.std.proofs.Common.{[], length, rules}
use Rattle.std.proofs.lemmas.List.{append-nil}
use Rattle.text.proofs.GoingOn.{dropped_on, gone_again, past_on}
use Rattle.scenario.proofs.Readings.{head_on}
use Rattle.scenario.proofs.lines.read_head.Goals as goal

-- no line comes after these
pub returns-clause-read : goal.returns-clause-read
returns-clause-read c = rw append-nil at (c.loop-line.invariant.read [] _ (rw c.deref.ensures.value at c.in_default.ensures.none))

-- one line more
pub loop-line-preserved : goal.loop-line-preserved
loop-line-preserved c =
    record {
      read = head_on _ _ _ c.loop-line.lines.items _ _ c.in-Some.line c.deref.ensures.value (search rules) c.loop-line.invariant.read c.in-Some.ensures.some;
      next = past_on _ (length c.loop-line.lines.items) _ _ _ _ _ c.in-Some.ensures.next.0 c.loop-line.invariant.next c.loop-line.invariant.rest (search rules);
      rest = dropped_on (length c.loop-line.lines.items) _ _ _ _ c.in-Some.ensures.next.1 c.loop-line.invariant.rest (search rules);
      gone = gone_again c.args.reader.now c.loop-line.reader c.next_head_line.new.reader c.loop-line.invariant.gone c.in-Some.ensures.gone;
    }
