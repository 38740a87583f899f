-- A step and a run of a line that has come of an initial state. Assumes nothing.
use Rattle.std.proofs.Common.{◌≡◌, ℕ, ◌+◌, ◌<◌, ◌≤◌, true, false, List, [], ◌∷◌, ◌++◌, length, take, Some, Ok, Err, Result, sym, subst, ap, ◌∙◌, arith, get_or, append_assoc}
use Rattle.std.proofs.Math.Logic.{∥∥₁_map}
use Rattle.std.proofs.lemmas.List.{append-nil, take_more}
use Rattle.std.proofs.lemmas.Option.{slice_get-get_or}
use Rattle.braking.specs.Limits.{trains_max}
use Rattle.safety.specs.declared.event.Event.{Event}
use Rattle.safety.specs.State.{State}
use Rattle.safety.specs.Events.{can_be, after_event, after_events, CanBe, Came}
use Rattle.safety.proofs.Coming.{can_be_more, after_more, came_more, came_safe}
use Rattle.line.specs.declared.seen.Seen.{Seen}
use Rattle.line.specs.declared.step_error.StepError.{StepError}
use Rattle.line.specs.declared.step_error.StepError.TheVariants.{Impossible, NoMemory}
use Rattle.line.specs.Steps.{Stepped}
use Rattle.line.specs.Inside.{Recorded, InLimits, seen_of_one}
use Rattle.line.specs.Runs.{Ended, NoRoom, in_turn, seen_of, every_gap, gaps_of}

pub came_in_limits : (s : State) → ∥ Came s ∥₁ → (i : ℕ) → InLimits s i
came_in_limits s t i = omega (arith, (came_safe s t).each i)

-- a step leaves a line that has come
pub came_stepped : {A : Type 0} (r : Result A StepError) (e : Event) (full : Type 0) (s t : State) → ∥ Came s ∥₁ →
    Stepped r e full s t → ∥ Came t ∥₁
came_stepped (Ok done) e full s t c h = subst (λ (n : State). ∥ Came n ∥₁) (sym h.1) (∥∥₁_map c (came_more s e h.0))
came_stepped (Err Impossible) e full s t c h = subst (λ (n : State). ∥ Came n ∥₁) (sym h.1) c
came_stepped (Err NoMemory) e full s t c h = subst (λ (n : State). ∥ Came n ∥₁) (sym h.3) c

pub came_few : (s : State) → ∥ Came s ∥₁ → length s.trains ≤ trains_max
came_few s t = (came_safe s t).few

-- where a run stops
pub stopped : (stop : StepError) (es : List Event) (d : Event) (done : ℕ) (full seen_full : Type 0) (s t : State) (before after : List Seen) →
    done < length es →
    Recorded (Err stop) (get_or es done d) full seen_full s t before after → Ended (Some stop) done full seen_full es t
stopped Impossible es d done full seen_full s t before after l h =
    (get_or es done d, slice_get-get_or es done d l, subst (λ (n : State). can_be n (get_or es done d) ≡ false) (sym h.1) h.0)
stopped NoMemory es d done full seen_full s t before after l h =
    (get_or es done d, slice_get-get_or es done d l, subst (λ (n : State). NoRoom full seen_full n (get_or es done d)) (sym h.1) h.0)

pub left : (stop : StepError) (e : Event) (full seen_full : Type 0) (s t : State) (before after : List Seen) →
    Recorded (Err stop) e full seen_full s t before after → t ≡ s
left Impossible e full seen_full s t before after h = h.1
left NoMemory e full seen_full s t before after h = h.1

-- what one event more shows
in_turn_more : {A : Type 0} (show : State → Event → List A) (s : State) (es : List Event) (e : Event) →
    in_turn show s (es ++ e ∷ []) ≡ in_turn show s es ++ show (after_events s es) e
in_turn_more show s [] e = append-nil (show s e)
in_turn_more show s (d ∷ es) e =
    ap (λ (more : List _). show s d ++ more) (in_turn_more show (after_event s d) es e)
    ∙ sym (append_assoc (show s d) (in_turn show (after_event s d) es) (show (after_events (after_event s d) es) e))

-- A TURN OF A RUN: what its loop keeps after one event more
pub record Further (s : State) (es : List Event) (done : ℕ) (first : List Seen) (t : State) (after : List Seen) : Type 0 where
  pub can_be : CanBe s (take (done + 1) es)
  pub is : t ≡ after_events s (take (done + 1) es)
  pub seen : after ≡ first ++ seen_of s (take (done + 1) es)
  pub gaps : gaps_of s (take done es) ++ every_gap t ≡ gaps_of s (take (done + 1) es)

pub further : (s now t : State) (es : List Event) (d : Event) (done : ℕ) (first before after : List Seen) → done < length es →
    CanBe s (take done es) → now ≡ after_events s (take done es) → before ≡ first ++ seen_of s (take done es) →
    Recorded (Ok tt) (get_or es done d) (Unit {0}) (Unit {0}) now t before after → Further s es done first t after
further s now t es d done first before after l c is seen h =
    let e = get_or es done d in
    let firsts = take done es in
    let more : take (done + 1) es ≡ firsts ++ e ∷ [] = take_more es done d l in
    let next : t ≡ after_event (after_events s firsts) e = h.1 ∙ ap (λ (n : State). after_event n e) is in
    record {
      can_be = subst (CanBe s) (sym more) (can_be_more s firsts e c (subst (λ (n : State). can_be n e ≡ true) is h.0));
      is = next ∙ sym (after_more s firsts e) ∙ ap (after_events s) (sym more);
      seen = h.2 ∙ ap (λ (old : List Seen). old ++ seen_of_one now e) seen ∙ append_assoc first (seen_of s firsts) (seen_of_one now e)
          ∙ ap (λ (n : State). first ++ (seen_of s firsts ++ seen_of_one n e)) is
          ∙ ap (λ (new : List Seen). first ++ new) (sym (in_turn_more seen_of_one s firsts e) ∙ ap (seen_of s) (sym more));
      gaps = ap (λ (n : State). gaps_of s firsts ++ every_gap n) next ∙ sym (in_turn_more (λ n d. every_gap (after_event n d)) s firsts e) ∙ ap (gaps_of s) (sym more);
    }
