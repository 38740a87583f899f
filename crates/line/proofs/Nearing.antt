-- No train goes back, so an event makes no gap smaller but the one ahead of a train that a tick moves. Assumes nothing.
use Rattle.std.proofs.Common.{◌≡◌, ℕ, zero, suc, ◌+◌, ◌-◌, ◌<◌, ◌≤◌, true, List, [], ◌∷◌, ◌++◌, length, take, min, None, Some, Option, Ok, Err, Result, cond, refl, sym, ap, subst, arith, length-append, length-set, get_or-set_other, get_or-set_same}
use Rattle.std.proofs.Math.Logic.{inl, inr}
use native.Mathlib.Decide.{dec_le}
use Rattle.std.specs.Prelude.{◌==◌}
use Rattle.std.proofs.lemmas.Bool.{cases_eq, and_parts}
use Rattle.std.proofs.lemmas.Bool.Decides.{nat_tests}
use Rattle.std.proofs.lemmas.List.{length-take}
use Rattle.braking.specs.declared.refusal.Refusal.{Refusal}
use Rattle.message.specs.declared.message.Message.{Message}
use Rattle.message.specs.declared.message.Message.TheVariants as messages
use Rattle.message.specs.Bytes.{received}
use Rattle.controller.specs.Hearings.{Among}
use Rattle.safety.specs.declared.event.Event.{Event}
use Rattle.safety.specs.declared.event.Event.TheVariants.{Tick, Mark, Report, Hear, Tell, Grant, Take, Restart}
use Rattle.safety.specs.State.{State, train_at, message_at}
use Rattle.safety.specs.Events.{can_be, after_event, after_events, after_take, with_sent, may_be_taken}
use Rattle.line.specs.declared.gaps.Gaps.{Gaps}
use Rattle.line.specs.Runs.{Smallest, gap, gaps_behind, every_gap, gaps_of}
use Rattle.line.specs.Inside.{After, AllAmong, count_of, smaller, narrowed, with_more}
use Rattle.line.proofs.Counting.{among_first, among_next, least_of_both, count_right, count_is}

-- by how far an event moves the front of a train
abbrev moved : Event → ℕ → ℕ
moved (Tick train wish speed) i = cond (train == i) speed 0
moved _ i = 0

-- the front of a train comes by so much, and the train stays as long as it was
record Comes (s t : State) (i by : ℕ) : Type 0 where
  pub front : (train_at t i).front ≡ (train_at s i).front + by
  pub length : (train_at t i).unit.length ≡ (train_at s i).unit.length

sent_comes : (s : State) (bytes : Result (List ℕ) Refusal) (i : ℕ) → Comes s (with_sent s bytes) i 0
sent_comes s (Ok bytes) i = omega arith
sent_comes s (Err why) i = omega arith

take_comes : (s : State) (m : Result Message Refusal) (i : ℕ) → may_be_taken s m ≡ true → Comes s (after_take s m) i 0
take_comes s (Ok (messages.Report train place)) i c = omega arith
take_comes s (Ok (messages.Grant train place)) i c = grind (arith, nat_tests, get_or-set_other, get_or-set_same)
take_comes s (Err why) i c = omega arith

comes : (s : State) (e : Event) (i : ℕ) → can_be s e ≡ true → Comes s (after_event s e) i (moved e i)
comes s (Tick train wish speed) i c = grind (arith, nat_tests, get_or-set_other, get_or-set_same)
comes s (Mark train) i c = grind (arith, nat_tests, get_or-set_other, get_or-set_same)
comes s (Report train) i c = sent_comes s _ i
comes s (Hear controller message) i c = omega arith
comes s (Tell controller train) i c = sent_comes s _ i
comes s (Grant controller train) i c = sent_comes s _ i
comes s (Take message) i c = take_comes s (received (message_at s message)) i ((and_parts _ _ c).1)
comes s (Restart controller) i c = omega arith

-- there are as many trains as before
as_many_sent : (s : State) (bytes : Result (List ℕ) Refusal) → length (with_sent s bytes).trains ≡ length s.trains
as_many_sent s (Ok bytes) = refl
as_many_sent s (Err why) = refl

as_many_taken : (s : State) (m : Result Message Refusal) → length (after_take s m).trains ≡ length s.trains
as_many_taken s (Ok (messages.Report train place)) = refl
as_many_taken s (Ok (messages.Grant train place)) = grind (arith, length-set)
as_many_taken s (Err why) = refl

as_many : (s : State) (e : Event) → can_be s e ≡ true → length (after_event s e).trains ≡ length s.trains
as_many s (Tick train wish speed) c = grind (arith, length-set)
as_many s (Mark train) c = grind (arith, length-set)
as_many s (Report train) c = as_many_sent s _
as_many s (Hear controller message) c = refl
as_many s (Tell controller train) c = as_many_sent s _
as_many s (Grant controller train) c = as_many_sent s _
as_many s (Take message) c = as_many_taken s (received (message_at s message))
as_many s (Restart controller) c = refl

-- no gap is smaller than it was but, it may be, the one behind a train that has another behind it
record NarrowsAt (s t : State) (narrow : ℕ) : Type 0 where
  pub ahead : ℕ
  pub there : suc ahead < length s.trains
  pub is : narrow ≡ gap t ahead
  pub others : (j : ℕ) → (j ≡ ahead → ⊥) → gap s j ≤ gap t j

abbrev Narrows : State → State → Option ℕ → Type 0
Narrows s t None = (j : ℕ) → gap s j ≤ gap t j
Narrows s t (Some narrow) = NarrowsAt s t narrow

-- the gap ahead of a train that stays where it is
still : (s : State) (e : Event) (j : ℕ) → can_be s e ≡ true → moved e (suc j) ≡ 0 → gap s j ≤ gap (after_event s e) j
still s e j c m = omega (arith, comes s e j c, comes s e (suc j) c)

narrows : (s : State) (e : Event) → can_be s e ≡ true → Narrows s (after_event s e) (narrowed (after_event s e) e)
narrows s (Tick zero wish speed) c = λ j. still s (Tick zero wish speed) j c (grind (arith, nat_tests))
narrows s (Tick (suc ahead) wish speed) c =
    record { ahead = ahead; there = grind (arith, nat_tests); is = refl; others = λ j n. still s (Tick (suc ahead) wish speed) j c (grind (arith, nat_tests)) }
narrows s (Mark train) c = λ j. still s (Mark train) j c refl
narrows s (Report train) c = λ j. still s (Report train) j c refl
narrows s (Hear controller message) c = λ j. still s (Hear controller message) j c refl
narrows s (Tell controller train) c = λ j. still s (Tell controller train) j c refl
narrows s (Grant controller train) c = λ j. still s (Grant controller train) j c refl
narrows s (Take message) c = λ j. still s (Take message) j c refl
narrows s (Restart controller) c = λ j. still s (Restart controller) j c refl

-- the gaps behind the first n trains
gap_among : (s : State) (n ahead : ℕ) → ahead < n → Among (gap s ahead) (gaps_behind s n)
gap_among s zero ahead l = absurd (omega arith)
gap_among s (suc n) ahead l = elim (dec_le (suc ahead) n) [
  | yes b ↦ among_first _ (gaps_behind s n) _ (gap_among s n ahead b)
  | no b ↦ let e : ahead ≡ n = omega arith in among_next _ (gaps_behind s n) _ (inl (ap (gap s) e))
]

none_less : (s : State) (n least : ℕ) → ((ahead : ℕ) → ahead < n → least ≤ gap s ahead) → (m : ℕ) → Among m (gaps_behind s n) → least ≤ m
none_less s zero least h m among = absurd among
none_less s (suc n) least h m among =
    least_of_both least (gaps_behind s n) (gap s n ∷ []) (none_less s n least (λ i l. h i (omega arith)))
    (λ k only. elim only [ inl e ↦ omega (arith, h n (omega arith), e) | inr none ↦ absurd none ]) m among

length-gaps_behind : (s : State) (n : ℕ) → length (gaps_behind s n) ≡ n
length-gaps_behind s zero = refl
length-gaps_behind s (suc n) = omega (arith, length-append (gaps_behind s n) (gap s n ∷ []), length-gaps_behind s n)

-- the smallest of some gaps and of those behind n trains, none of which is smaller than it but, it may be, this one
smallest_with : (t : State) (n least narrow : ℕ) (before : List ℕ) → Smallest (Some least) before → Among narrow (gaps_behind t n) →
    ((j : ℕ) → j < n → min least narrow ≤ gap t j) → Smallest (Some (min least narrow)) (before ++ gaps_behind t n)
smallest_with t n least narrow before h among all = elim (dec_le least narrow) [
  | yes l ↦ let e : min least narrow ≡ least = omega arith in
      rw e (among_first least before _ h.0, least_of_both least before _ h.1 (none_less t n least (λ j m. omega (arith, all j m))))
  | no l ↦ let e : min least narrow ≡ narrow = omega arith in
      rw e (among_next narrow before _ among, least_of_both narrow before _ (λ m among. omega (arith, h.1 m among)) (none_less t n narrow (λ j m. omega (arith, all j m))))
]

smallest_next : (s t : State) (n : ℕ) (least maybe_narrow : Option ℕ) (before : List ℕ) → n ≡ length s.trains - 1 → AllAmong s before →
    Narrows s t maybe_narrow → Smallest least before → Smallest (smaller least maybe_narrow) (before ++ gaps_behind t n)
smallest_next s t zero None None [] e all near h = refl
smallest_next s t (suc n) None None [] e all near h = absurd (all 0 (omega arith))
smallest_next s t n None (Some narrow) [] e all near h = absurd (all near.ahead near.there)
smallest_next s t n None maybe_narrow (first ∷ before) e all near h = absurd (grind (arith, h))
smallest_next s t n (Some least) None before e all near h =
    (among_first least before _ h.0, least_of_both least before _ h.1 (none_less t n least (λ j m. omega (arith, near j, h.1 (gap s j) (all j (omega arith))))))
smallest_next s t n (Some least) (Some narrow) before e all near h =
    smallest_with t n least narrow before h (subst (λ (g : ℕ). Among g (gaps_behind t n)) (sym near.is) (gap_among t n near.ahead (omega (arith, near.there))))
    (λ j m. elim (cases_eq j near.ahead) [
      | inl same ↦ omega (arith, near.is, ap (gap t) same)
      | inr other ↦ omega (arith, near.others j other, h.1 (gap s j) (all j (omega arith)))
    ])

-- ONE EVENT MORE: as many gaps more as there are, and the smallest is still it, or the one that became smaller
pub next_count : (s : State) (e : Event) (t : State) (g : Gaps) (before : List ℕ) → After s e t → AllAmong s before → g ≡ count_of before →
    with_more g (length t.trains - 1) (narrowed t e) ≡ count_of (before ++ every_gap t)
next_count s e t g before after all counted =
    let many : length t.trains ≡ length s.trains = omega (arith, ap (λ (n : State). length n.trains) after.is, as_many s e after.can_be) in
    let near = subst (λ (n : State). Narrows s n (narrowed n e)) (sym after.is) (narrows s e after.can_be) in
    let h = count_right g before counted in
    count_is _ _ (record {
      count = omega (arith, h.count, length-append before (every_gap t), length-gaps_behind t (length t.trains - 1));
      smallest = smallest_next s t (length t.trains - 1) g.smallest (narrowed t e) before (omega (arith, many)) all near h.smallest;
    })

-- after the first event every gap of the line now was looked at
all_among : (s : State) (es : List Event) → 0 < length es → AllAmong (after_events s es) (gaps_of s es)
all_among s [] l = absurd (omega arith)
all_among s (e ∷ []) l = λ ahead m. among_first _ (every_gap (after_event s e)) [] (gap_among (after_event s e) (length (after_event s e).trains - 1) ahead (omega arith))
all_among s (e ∷ d ∷ es) l = λ ahead m. among_next _ (every_gap (after_event s e)) _ (all_among (after_event s e) (d ∷ es) (omega arith) ahead m)

pub looked_at : (s now : State) (es : List Event) (done : ℕ) → done < length es → (done ≡ 0 → ⊥) → now ≡ after_events s (take done es) →
    AllAmong now (gaps_of s (take done es))
looked_at s now es done l some is =
    subst (λ (n : State). AllAmong n (gaps_of s (take done es))) (sym is) (all_among s (take done es) (omega (arith, length-take done es, some)))
