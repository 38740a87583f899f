-- What the invariant keeps is what is promised. Assumes nothing.
use Rattle.std.proofs.Common.{suc, arith}
use Rattle.std.proofs.lemmas.Bool.Decides.{nat_tests}
use Rattle.onboard.proofs.Trains.{sound_answers}
use Rattle.safety.specs.State.{State, train_at}
use Rattle.safety.specs.Promises.{AllPromised, PromisesKept}
use Rattle.safety.proofs.Safe.{Safe, initial_events_safe}
use Rattle.safety.proofs.Fresh.{safe_fresh}

pub safe_promised : (s : State) → Safe s → AllPromised s
safe_promised s a = record {
  apart = λ i. omega (arith, a.apart i, a.each (suc i));
  ends = a.apart;
  limit = λ i. (a.each i).in_range.end;
  could_stop = λ i. omega (arith, a.each i);
  knows_front = λ i. (a.each i).known;
  knows_rear = λ c. (a.heard_true c).each;
  answers = λ i. sound_answers (train_at s i) (a.each i);
  brakes_if_needed = λ i wish h. grind (arith, nat_tests, h);
  fresh = λ c i. safe_fresh s c i a;
}

pub promises_kept : PromisesKept
promises_kept s es b c = safe_promised _ (initial_events_safe s es b c)
