-- Events that can follow one another on a line, and one more. Assumes nothing.
use Rattle.std.proofs.Common.{◌≡◌, ℕ, ◌+◌, true, List, [], ◌∷◌, ◌++◌, length, arith, refl, ap, sym, subst, Ok, ◌∙◌}
use Rattle.std.specs.List.{AllByRecursion}
use Rattle.safety.specs.declared.event.Event.{Event}
use Rattle.safety.specs.State.{State}
use Rattle.safety.specs.Events.{CanBe, after_event, after_events, can_be}
use Rattle.safety.proofs.Coming.{after_more, can_be_more}
use Rattle.scenario.specs.Lines.{EventFits}
use Rattle.random.specs.declared.day.Extent.{Extent}
use Rattle.random.specs.declared.day.Day.{Day}
use Rattle.random.specs.Days.{Begins, Follow, IsDay, new_line_of}

-- so many events were done
pub record Done (n : ℕ) (s : State) (es : List Event) (now : State) : Type 0 where
  pub follow : CanBe s es
  pub fits : AllByRecursion EventFits es
  pub is : now ≡ after_events s es
  pub count : length es ≡ n

fits_more : (es : List Event) (e : Event) → AllByRecursion EventFits es → EventFits e → AllByRecursion EventFits (es ++ e ∷ [])
fits_more [] e fits fit = (fit, tt)
fits_more (d ∷ es) e fits fit = (fits.0, fits_more es e fits.1 fit)

length_more : (es : List Event) (e : Event) → length (es ++ e ∷ []) ≡ length es + 1
length_more [] e = refl
length_more (d ∷ es) e = omega (arith, length_more es e)

pub one_more_event : (count : ℕ) (s now next : State) (es : List Event) (e : Event) → Done count s es now → can_be now e ≡ true → EventFits e → next ≡ after_event now e →
    Done (count + 1) s (es ++ e ∷ []) next
one_more_event count s now next es e done can fit is = record {
  follow = can_be_more s es e done.follow (rw (sym done.is) can);
  fits = fits_more es e done.fits fit;
  is = is ∙ ap (λ now. after_event now e) done.is ∙ sym (after_more s es e);
  count = length_more es e ∙ ap (λ n. n + 1) done.count;
}

-- a day begins with the line that its head makes, and events follow on that line
pub day_of : (extent : Extent) (day : Day) (s : State) → Begins extent day.head.items →
    new_line_of day.head.items ≡ Ok s → Follow extent.events s day.events.items → IsDay extent day
day_of extent day s begins made follow =
    let same : s ≡ begins.first = cc (made, begins.made) in
    record { begins = begins; follow = subst (λ first. Follow extent.events first day.events.items) same follow }
