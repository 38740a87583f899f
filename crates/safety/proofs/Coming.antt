-- States that have come of an initial one, by events that can be. Assumes nothing.
use Rattle.std.proofs.Common.{◌≡◌, ℕ, zero, suc, ◌≤◌, true, List, [], ◌∷◌, ◌++◌, take, Ok, Err, Result, sym, refl, subst, ap, ◌∙◌, arith}
use Rattle.std.proofs.Math.Logic.{∥∥₁_map}
use Rattle.std.proofs.lemmas.Bool.Decides.{nat_tests}
use Rattle.std.proofs.lemmas.Grind.{not_there}
use Rattle.braking.specs.declared.refusal.Refusal.{Refusal}
use Rattle.onboard.specs.declared.train.Train.{Train}
use Rattle.message.specs.declared.message.Message.{Message}
use Rattle.message.specs.declared.message.Message.TheVariants as messages
use Rattle.message.specs.Bytes.{received}
use Rattle.safety.specs.declared.event.Event.{Event}
use Rattle.safety.specs.State.{State, message_at}
use Rattle.safety.specs.Events.{can_be, after_event, after_events, CanBe, Came}
use Rattle.safety.specs.Promises.{AllPromised}
use Rattle.safety.proofs.Safe.{Safe, Truthful, initial_events_safe}
use Rattle.safety.proofs.Always.{safe_promised}

-- one event more
pub can_be_more : (s : State) (es : List Event) (e : Event) → CanBe s es → can_be (after_events s es) e ≡ true → CanBe s (es ++ e ∷ [])
can_be_more s [] e c h = (h, tt)
can_be_more s (d ∷ es) e c h = (c.0, can_be_more (after_event s d) es e c.1 h)

pub after_more : (s : State) (es : List Event) (e : Event) → after_events s (es ++ e ∷ []) ≡ after_event (after_events s es) e
after_more s [] e = refl
after_more s (d ∷ es) e = after_more (after_event s d) es e

pub came_more : (s : State) (e : Event) → can_be s e ≡ true → Came s → Came (after_event s e)
came_more s e h c = record {
  first = c.first;
  events = c.events ++ e ∷ [];
  initial = c.initial;
  can_be = can_be_more c.first c.events e c.can_be (subst (λ (n : State). can_be n e ≡ true) c.is h);
  is = ap (λ (n : State). after_event n e) c.is ∙ sym (after_more c.first c.events e);
}

came_of : (s : State) → Came s → Safe s
came_of s c = subst Safe (sym c.is) (initial_events_safe c.first c.events c.initial c.can_be)

-- what is so of every state that has come is so of one of which it is only known that it has
truthful_of : (trains : List Train) (m : Result Message Refusal) → ∥ Truthful trains m ∥₁ → Truthful trains m
truthful_of trains (Ok (messages.Report train place)) t = grind (arith, not_there t)
truthful_of trains (Ok (messages.Grant train place)) t = λ ahead e. grind (arith, not_there t, e)
truthful_of trains (Err why) t = tt

pub came_safe : (s : State) → ∥ Came s ∥₁ → Safe s
came_safe s t = record {
  few = grind (arith, not_there t, came_of s);
  numbered = λ i l. grind (arith, not_there t, came_of s);
  each = λ i. grind (arith, nat_tests, not_there t, came_of s);
  apart = λ i. grind (arith, not_there t, came_of s);
  heard_true = λ c. record {
    whole = grind (arith, not_there t, came_of s);
    in_range = record { places = λ i. grind (arith, not_there t, came_of s) };
    each = λ i. grind (arith, not_there t, came_of s);
  };
  sent_true = λ m. truthful_of s.trains (received (message_at s m)) (∥∥₁_map t (λ c. (came_of s c).sent_true m));
}

-- and so is what is promised
came_promised : (s : State) → ∥ Came s ∥₁ → AllPromised s
came_promised s t = safe_promised s (came_safe s t)

came_events : (s : State) (es : List Event) → CanBe s es → Came s → Came (after_events s es)
came_events s [] c h = h
came_events s (e ∷ es) c h = came_events (after_event s e) es c.1 (came_more s e c.0 h)

-- the first events of a list that can be
can_be_first : (s : State) (es : List Event) (n m : ℕ) → n ≤ m → CanBe s (take m es) → CanBe s (take n es)
can_be_first s es zero m l c = tt
can_be_first s [] (suc n) m l c = tt
can_be_first s (e ∷ es) (suc n) zero l c = absurd (omega arith)
can_be_first s (e ∷ es) (suc n) (suc m) l c = (c.0, can_be_first (after_event s e) es n m (omega arith) c.1)

-- what is promised after each of them
pub all_promised : (s : State) (es : List Event) (done : ℕ) → ∥ Came s ∥₁ → CanBe s (take done es) → (n : ℕ) → n ≤ done →
    AllPromised (after_events s (take n es))
all_promised s es done came c n l = came_promised _ (∥∥₁_map came (came_events s (take n es) (can_be_first s es n done l c)))
