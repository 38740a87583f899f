-- A report is passed on, at any moment, and the end of the train behind is as far as it lets. Assumes nothing.
use Rattle.std.proofs.Common.{◌≡◌, ℕ, ◌+◌, ◌-◌, ◌≤◌, true, List, [], ◌∷◌, length, Ok, Result, sym, subst, ap, ◌∙◌, arith, length-set, length-append, get_or-set_same}
use Rattle.std.proofs.Math.Seq.{get_or-append_seam}
use Rattle.std.proofs.lemmas.Bool.Decides.{nat_tests}
use Rattle.braking.specs.declared.refusal.Refusal.{Refusal}
use Rattle.braking.specs.Refusals.{kept, and_then}
use Rattle.onboard.specs.declared.train.Train.{Train}
use Rattle.onboard.specs.Train as onboard
use Rattle.message.specs.declared.message.Message.{Message}
use Rattle.message.specs.declared.message.Message.TheVariants as messages
use Rattle.message.specs.Bytes.{received}
use Rattle.controller.specs.declared.controller.Controller.{Controller}
use Rattle.controller.specs.Steps.{known}
use Rattle.radio.specs.Ends.{after_hearing, taken, grant_bytes}
use Rattle.radio.specs.Laws.{PassedOn}
use Rattle.radio.proofs.Passed.{fresh_end, grant_heard}
use Rattle.safety.specs.declared.event.Event.{Event}
use Rattle.safety.specs.declared.event.Event.TheVariants.{Report, Hear, Grant, Take}
use Rattle.safety.specs.State.{State, no_train, train_at, controller_at, message_at}
use Rattle.safety.specs.Events.{can_be, after_event, after_events, after_take, with_sent, with_controller, has_train, has_controller, CanBe}
use Rattle.safety.specs.Promises.{Fresh, passed_on}
use Rattle.safety.proofs.Safe.{Safe}

-- the message that was sent last
last_sent : (s : State) (bytes : List ℕ) → message_at (with_sent s (Ok bytes)) (length s.sent) ≡ bytes
last_sent s bytes = get_or-append_seam s.sent bytes [] []

-- a first event, by what it makes of the line
first_can_be : (s next : State) (e : Event) (es : List Event) → can_be s e ≡ true → after_event s e ≡ next → CanBe next es →
    CanBe s (e ∷ es)
first_can_be s next e es c q later = (c, subst (λ (n : State). CanBe n es) (sym q) later)

-- what is passed on by bytes is passed on by events
passed_fresh : (s : State) (controller train : ℕ) → has_controller s controller ≡ true → has_train s (train + 1) ≡ true →
    (train_at s train).unit.train ≡ train → PassedOn (train_at s train).unit (train_at s (train + 1)).unit (controller_at s controller) →
    Fresh s controller train
passed_fresh s controller train hc ht own on =
    let from = (train_at s train).unit.low - (train_at s train).unit.length in
    let behind = (train_at s (train + 1)).unit in
    let heard = kept (controller_at s controller) (after_hearing (controller_at s controller) on.report) in
    let reported = with_sent s (Ok on.report) in
    let hearing = with_controller reported controller heard in
    let granted = with_sent hearing (Ok on.grant) in
    let hear = Hear controller (length s.sent) in
    let grant = Grant controller train in
    let take = Take (length s.sent + 1) in
    let says = messages.Grant (train + 1) (known heard train) in
    let grants : grant_bytes heard train ≡ Ok on.grant = subst (λ (i : ℕ). grant_bytes heard i ≡ Ok on.grant) own on.grants in
    let here : controller_at hearing controller ≡ heard = get_or-set_same s.controllers controller heard _ (grind (arith, nat_tests)) in
    let number : length s.sent + 1 ≡ length hearing.sent = grind (arith, length-append) in
    let comes : received (message_at granted (length s.sent + 1)) ≡ Ok says =
    ap (λ (n : ℕ). received (message_at granted n)) number ∙ ap received (last_sent hearing on.grant) ∙ grant_heard heard train on.grant grants in
    let q1 : after_event s (Report train) ≡ reported = ap (with_sent s) on.reports in
    let q2 : after_event reported hear ≡ hearing =
    ap (λ (bytes : List ℕ). with_controller reported controller (kept (controller_at s controller) (after_hearing (controller_at s controller) bytes))) (last_sent s on.report) in
    let q3 : after_event hearing grant ≡ granted = ap (with_sent hearing) (ap (λ (c : Controller). grant_bytes c train) here ∙ grants) in
    let q4 : after_event granted take ≡ after_take granted (Ok says) = ap (after_take granted) comes in
    let all : after_events s (passed_on s controller train) ≡ after_take granted (Ok says) =
    ap (λ (n : State). after_events n (hear ∷ grant ∷ take ∷ [])) q1 ∙ ap (λ (n : State). after_events n (grant ∷ take ∷ [])) q2
    ∙ ap (λ (n : State). after_event n take) q3 ∙ q4 in
    let last = subst (λ (m : Result Message Refusal). from ≤ (kept behind (and_then m (taken behind))).end) (grant_heard heard train on.grant grants) on.fresh in
    let there = get_or-set_same s.trains (train + 1) (onboard.after (train_at s (train + 1)) (onboard.take (record { train = train + 1; place = known heard train }))) no_train (grind (arith, nat_tests)) in
    record {
      can_be = first_can_be s reported (Report train) (hear ∷ grant ∷ take ∷ []) (grind (arith, nat_tests)) q1
          (first_can_be reported hearing hear (grant ∷ take ∷ []) (grind (arith, nat_tests, length-append)) q2
          (first_can_be hearing granted grant (take ∷ []) (grind (arith, nat_tests, length-set)) q3
          (first_can_be granted (after_take granted (Ok says)) take [] (grind (arith, nat_tests, length-append)) q4 tt)));
      end = subst (λ (n : State). from ≤ (train_at n (train + 1)).unit.end) (sym all) (subst (λ (t : Train). from ≤ t.unit.end) (sym there) last);
    }

pub safe_fresh : (s : State) (controller train : ℕ) → Safe s → has_controller s controller ≡ true →
    has_train s (train + 1) ≡ true → Fresh s controller train
safe_fresh s controller train a hc ht =
    let own : (train_at s train).unit.train ≡ train = grind (arith, nat_tests, a.numbered train) in
    let next : (train_at s (train + 1)).unit.train ≡ train + 1 = grind (arith, nat_tests, a.numbered (train + 1)) in
    let k = a.heard_true controller in
    passed_fresh s controller train hc ht own
    (fresh_end _ _ _ (omega (arith, a.each train)) (omega arith) (grind (arith, nat_tests, a.few)) k.whole (k.in_range.places _))
