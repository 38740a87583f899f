use Rattle.std.proofs.Common.{◌≡◌, ℕ, ◌*◌, ◌≤◌, ◌++◌, take}
use Rattle.braking.specs.Limits.{trains_max}
use Rattle.safety.specs.Events.{CanBe, after_events}
use Rattle.safety.specs.Promises.{AllPromised}
use Rattle.line.specs.Inside.{count_of}
use Rattle.line.specs.Runs.{Counted, gaps_of, seen_of}
use Rattle.line.specs.Steps.{state}
use Rattle.line.proofs.line.Line.run.Given as goal

abbrev pub invariant-loop-done : goal.invariant-loop-done
invariant-loop-done l = record {
  can_be : CanBe (state l.fn.self.parts) (take l.done l.events);
  is : state l.self.parts ≡ after_events (state l.fn.self.parts) (take l.done l.events);
  promised : (n : ℕ) → n ≤ l.done → AllPromised (after_events (state l.fn.self.parts) (take n l.events));
  seen : l.seen.items ≡ l.fn.seen.items ++ seen_of (state l.fn.self.parts) (take l.done l.events);
  gaps : l.gaps ≡ count_of (gaps_of (state l.fn.self.parts) (take l.done l.events));
  right : Counted l.gaps (gaps_of (state l.fn.self.parts) (take l.done l.events));
  few : l.gaps.count ≤ trains_max * l.done;
}
