-- An invariant of lines: initial states have it, and every event that can be keeps it. Assumes nothing.
use Rattle.std.proofs.Common.{◌≡◌, ℕ, zero, suc, ◌-◌, ◌<◌, ◌≤◌, true, List, [], ◌∷◌, ◌++◌, length, Ok, Err, Result, slice_index_or, slice_set, replicate, refl, sym, subst, arith, get_or, length-set, get_or-set_other, get_or-set_same}
use Rattle.std.proofs.Math.Logic.{inl, inr}
use Rattle.std.proofs.lemmas.Bool.{cases_eq, and_parts}
use Rattle.std.proofs.lemmas.Bool.Decides.{nat_tests}
use Rattle.std.proofs.lemmas.List.{get_or_past, get_or-replicate, length-replicate}
use Rattle.braking.specs.declared.refusal.Refusal.{Refusal}
use Rattle.braking.specs.Limits.{trains_max}
use Rattle.braking.specs.Refusals.{kept}
use Rattle.onboard.specs.declared.train.Train.{Train}
use Rattle.onboard.specs.Train as onboard
use Rattle.onboard.proofs.Trains.{sound_stays, standing_sound}
use Rattle.message.specs.declared.message.Message.{Message}
use Rattle.message.specs.declared.message.Message.TheVariants as messages
use Rattle.message.specs.Bytes.{received}
use Rattle.controller.specs.declared.controller.Controller.{Controller}
use Rattle.controller.specs.Steps.{known, silent}
use Rattle.controller.specs.Hearings.{Whole, InRange}
use Rattle.controller.proofs.Hearings.{silent_in_range, silent_knows_nothing}
use Rattle.radio.specs.Ends.{after_hearing}
use Rattle.radio.proofs.Passed.{report_heard, tell_heard, grant_heard}
use Rattle.safety.specs.declared.event.Event.{Event}
use Rattle.safety.specs.declared.event.Event.TheVariants.{Tick, Mark, Report, Hear, Tell, Grant, Take, Restart}
use Rattle.safety.specs.State.{State, no_train, train_at, controller_at, message_at, Initial}
use Rattle.safety.specs.Events.{can_be, with_train, with_controller, with_sent, at_train, after_take, after_event, after_events, may_be_taken, CanBe}

-- the train of a number
abbrev pub train_in : List Train → ℕ → Train
train_in trains i = slice_index_or trains i no_train

-- what bytes say of the line, if they are a message, is true
abbrev pub Truthful : List Train → Result Message Refusal → Type 0
Truthful trains (Ok (messages.Report train place)) = onboard.RearPast (train_in trains train) place
Truthful trains (Ok (messages.Grant train place)) = (ahead : ℕ) → train ≡ suc ahead → onboard.RearPast (train_in trains ahead) place
Truthful trains (Err why) = Unit {0}

-- a controller as it should be: what it has heard is true
pub record Knows (trains : List Train) (c : Controller) : Type 0 where
  pub whole : Whole c
  pub in_range : InRange c
  pub each : (i : ℕ) → onboard.RearPast (train_in trains i) (known c i)

-- THE INVARIANT
pub record Safe (s : State) : Type 0 where
  pub few : length s.trains ≤ trains_max
  pub numbered : (i : ℕ) → i < length s.trains → (train_at s i).unit.train ≡ i
  pub each : (i : ℕ) → onboard.Sound (train_at s i)
  pub apart : (i : ℕ) → onboard.RearPast (train_at s i) (train_at s (suc i)).unit.end
  pub heard_true : (c : ℕ) → Knows s.trains (controller_at s c)
  pub sent_true : (m : ℕ) → Truthful s.trains (received (message_at s m))

-- what holds at every number still holds after another element is put somewhere, if it holds of that
changed : {A : Type 0} (xs : List A) (i : ℕ) (x d : A) (P : ℕ → A → Type 0) → i < length xs → P i x →
    ((j : ℕ) → P j (get_or xs j d)) → (j : ℕ) → P j (get_or (slice_set xs i x) j d)
changed xs i x d P l here others j = elim (cases_eq j i) [
  | inl e ↦ subst (λ (m : ℕ). P m (get_or (slice_set xs i x) m d)) (sym e) (subst (P i) (sym (get_or-set_same xs i x d l)) here)
  | inr n ↦ subst (P j) (sym (get_or-set_other xs i j x d n)) (others j)
]

-- and after one more at the end
added : {A : Type 0} (xs : List A) (x d : A) (P : A → Type 0) → P x →
    ((j : ℕ) → P (get_or xs j d)) → (j : ℕ) → P (get_or (xs ++ x ∷ []) j d)
added [] x d P here others zero = here
added [] x d P here others (suc j) = others j
added (y ∷ ys) x d P here others zero = others zero
added (y ∷ ys) x d P here others (suc j) = added ys x d P here (λ k. others (suc k)) j

-- a train that goes on: not back, and with its length and its number
record Onward (t u : Train) : Type 0 where
  pub front : t.front ≤ u.front
  pub length : u.unit.length ≡ t.unit.length
  pub number : u.unit.train ≡ t.unit.train

-- what was true of the rears of trains that went on is still true
true_stays : (ts us : List Train) (m : Result Message Refusal) → ((i : ℕ) → Onward (train_in ts i) (train_in us i)) →
    Truthful ts m → Truthful us m
true_stays ts us (Ok (messages.Report train place)) on h = omega (arith, on train)
true_stays ts us (Ok (messages.Grant train place)) on h = λ ahead e. omega (arith, on ahead, h ahead e)
true_stays ts us (Err why) on h = tt

-- the end of a train is behind the rear of the one ahead
behind : (s : State) → Safe s → (i ahead : ℕ) → i ≡ suc ahead → onboard.RearPast (train_at s ahead) (train_at s i).unit.end
behind s a i ahead e = subst (λ (n : ℕ). onboard.RearPast (train_at s ahead) (train_at s n).unit.end) (sym e) (a.apart ahead)

-- ANY CHANGE OF ONE TRAIN: it goes on, is sound, and its end is still behind the rear of the train ahead
set_train : (s : State) (i : ℕ) (t : Train) → Safe s → i < length s.trains → Onward (train_at s i) t → onboard.Sound t →
    ((ahead : ℕ) → i ≡ suc ahead → onboard.RearPast (train_at s ahead) t.unit.end) → Safe (with_train s i t)
set_train s i t a l on sound end =
    let onward = changed s.trains i t no_train (λ j u. Onward (train_at s j) u) l on (λ j. omega arith) in
    let ends = changed s.trains i t no_train (λ j u. (ahead : ℕ) → j ≡ suc ahead → onboard.RearPast (train_at s ahead) u.unit.end) l end (behind s a) in
    record {
      few = grind (arith, length-set, a.few);
      numbered = λ j m. grind (arith, length-set, a.numbered j, onward j);
      each = changed s.trains i t no_train (λ j u. onboard.Sound u) l sound a.each;
      apart = λ j. grind (arith, onward j, ends (suc j) j);
      heard_true = λ c. record {
        whole = (a.heard_true c).whole;
        in_range = (a.heard_true c).in_range;
        each = λ j. grind (arith, onward j, (a.heard_true c).each j);
      };
      sent_true = λ m. true_stays s.trains (slice_set s.trains i t) _ onward (a.sent_true m);
    }

goes_on : (t : Train) (e : onboard.Event) → Onward t (onboard.after t e)
goes_on t (onboard.tick wish speed) = grind (arith, nat_tests)
goes_on t onboard.mark = grind (arith, nat_tests)
goes_on t (onboard.take grant) = grind (arith, nat_tests)

train_safe : (s : State) (i : ℕ) (e : onboard.Event) → Safe s → i < length s.trains → onboard.Possible (train_at s i) e →
    ((ahead : ℕ) → i ≡ suc ahead → onboard.RearPast (train_at s ahead) (onboard.after (train_at s i) e).unit.end) → Safe (at_train s i e)
train_safe s i e a l p end = set_train s i _ a l (goes_on _ e) (sound_stays _ e (a.each i) p) end

-- a controller is put in place of another
controller_safe : (s : State) (i : ℕ) (c : Controller) → Safe s → i < length s.controllers → Knows s.trains c → Safe (with_controller s i c)
controller_safe s i c a l k = record {
  few = a.few;
  numbered = a.numbered;
  each = a.each;
  apart = a.apart;
  heard_true = changed s.controllers i c silent (λ j d. Knows s.trains d) l k a.heard_true;
  sent_true = a.sent_true;
}

-- a message is sent
sent_safe : (s : State) (bytes : Result (List ℕ) Refusal) → Safe s →
    ((sent : List ℕ) → bytes ≡ Ok sent → Truthful s.trains (received sent)) → Safe (with_sent s bytes)
sent_safe s (Err why) a t = a
sent_safe s (Ok sent) a t = record {
  few = a.few;
  numbered = a.numbered;
  each = a.each;
  apart = a.apart;
  heard_true = a.heard_true;
  sent_true = added s.sent sent [] (λ bytes. Truthful s.trains (received bytes)) (t sent refl) a.sent_true;
}

-- hearing what is true
hear_knows : (trains : List Train) (c : Controller) (bytes : List ℕ) → Knows trains c → Truthful trains (received bytes) →
    Knows trains (kept c (after_hearing c bytes))
hear_knows trains c bytes k t = record {
  whole = grind (arith, nat_tests, length-set, k.whole);
  in_range = record { places = λ i. grind (arith, nat_tests, get_or-set_same, get_or-set_other, k.in_range, k.whole) };
  each = λ i. grind (arith, nat_tests, get_or-set_same, get_or-set_other, k.each i, k.whole);
}

-- of any number of controllers, since a list of them would be computed
pub all_silent : (n i : ℕ) → get_or (replicate n silent) i silent ≡ silent
all_silent n i = grind (arith, get_or_past, get_or-replicate, length-replicate)

-- who heard nothing holds nothing false
silent_knows : (s : State) → ((i : ℕ) → onboard.Sound (train_at s i)) → Knows s.trains silent
silent_knows s sound = record {
  whole = silent_in_range.0;
  in_range = silent_in_range.1;
  each = λ i. omega (arith, sound i, silent_knows_nothing i);
}

take_safe : (s : State) (m : Result Message Refusal) → Safe s → Truthful s.trains m → may_be_taken s m ≡ true → Safe (after_take s m)
take_safe s (Ok (messages.Report train place)) a t c = a
take_safe s (Ok (messages.Grant train place)) a t c =
    train_safe s train (onboard.take (record { train = train; place = place })) a (grind (arith, nat_tests)) tt
    (λ ahead e. grind (arith, nat_tests, t ahead e, behind s a train ahead e))
take_safe s (Err why) a t c = a

-- ANY EVENT, a clause for each
event_safe : (s : State) (e : Event) → Safe s → can_be s e ≡ true → Safe (after_event s e)
event_safe s (Tick train wish speed) a c =
    train_safe s train (onboard.tick wish speed) a (grind (arith, nat_tests)) (grind (arith, nat_tests))
    (λ ahead e. grind (arith, nat_tests, behind s a train ahead e))
event_safe s (Mark train) a c =
    train_safe s train onboard.mark a (grind (arith, nat_tests)) tt (λ ahead e. grind (arith, nat_tests, behind s a train ahead e))
event_safe s (Report train) a c =
    let u = (train_at s train).unit in
    let own : u.train ≡ train = a.numbered train (grind (arith, nat_tests)) in
    sent_safe s _ a (λ bytes e. subst (Truthful s.trains) (sym (report_heard u bytes e))
    (subst (λ (i : ℕ). onboard.RearPast (train_in s.trains i) (u.low - u.length)) (sym own) (omega (arith, a.each train))))
event_safe s (Hear controller message) a c =
    controller_safe s controller _ a (grind (arith, nat_tests)) (hear_knows s.trains _ (message_at s message) (a.heard_true controller) (a.sent_true message))
event_safe s (Tell controller train) a c =
    sent_safe s _ a (λ bytes e. subst (Truthful s.trains) (sym (tell_heard _ train bytes e)) ((a.heard_true controller).each train))
event_safe s (Grant controller train) a c =
    sent_safe s _ a (λ bytes e. subst (Truthful s.trains) (sym (grant_heard _ train bytes e))
    (λ ahead q. let here : train ≡ ahead = omega arith in subst (λ (i : ℕ). onboard.RearPast (train_in s.trains ahead) (known (controller_at s controller) i)) (sym here) ((a.heard_true controller).each ahead)))
event_safe s (Take message) a c = take_safe s (received (message_at s message)) a (a.sent_true message) ((and_parts _ _ c).1)
event_safe s (Restart controller) a c = controller_safe s controller silent a (grind (arith, nat_tests)) (silent_knows s a.each)

-- a state that is initial
initial_safe : (s : State) → Initial s → Safe s
initial_safe s b =
    let sound : (i : ℕ) → onboard.Sound (train_at s i) =
    λ i. standing_sound (train_at s i) (b.stands i).speed (b.stands i).brakes (b.stands i).on_line (b.stands i).low (b.stands i).high (b.stands i).end (b.stands i).limit in
    record {
      few = grind (arith, nat_tests, b.counts);
      numbered = b.numbered;
      each = sound;
      apart = b.apart;
      heard_true = λ c. subst (Knows s.trains) (sym (b.silent c)) (silent_knows s sound);
      sent_true = λ m. subst (λ (sent : List (List ℕ)). Truthful s.trains (received (get_or sent m []))) (sym b.nothing_sent) tt;
    }

-- ANY LIST OF EVENTS
pub events_safe : (s : State) (es : List Event) → Safe s → CanBe s es → Safe (after_events s es)
events_safe s [] a c = a
events_safe s (e ∷ es) a c = events_safe (after_event s e) es (event_safe s e a c.0) c.1

pub initial_events_safe : (s : State) (es : List Event) → Initial s → CanBe s es → Safe (after_events s es)
initial_events_safe s es b c = events_safe s es (initial_safe s b) c
