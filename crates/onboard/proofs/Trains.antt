-- What happens to a train keeps it sound. Assumes nothing.
use Rattle.std.proofs.Common.{ℕ, zero, suc, ◌+◌, ◌-◌, ◌<◌, ◌≤◌, refl, arith}
use native.Mathlib.Decide.{dec_le}
use Rattle.std.proofs.lemmas.Bool.Decides.{nat_tests}
use Rattle.braking.specs.Distance.{distance, distance_in}
use Rattle.braking.proofs.Distances.{distance_low, less_speed, braking_leaves}
use Rattle.onboard.specs.declared.unit.Onboard.{Onboard}
use Rattle.onboard.specs.Steps.{high_after}
use Rattle.onboard.specs.Train.{tick, fastest, CanStop}
use Rattle.onboard.specs.Laws.{CanStopStays, StandingSound, SoundStays, SoundAnswers}
use Rattle.onboard.specs.Day.{WorkedDay}

-- a tick that can be, and braking after it, end within the end
tick_stops : (u : Onboard) (wish speed : ℕ) → 0 < u.brakes.brake → CanStop u → speed ≤ fastest u wish →
    high_after u speed + distance u.brakes speed ≤ u.end
tick_stops u wish zero hb s p = grind (arith, nat_tests, distance_low u.brakes 0)
tick_stops u wish (suc v) hb s p =
    elim (dec_le (suc v) (u.speed - u.brakes.brake)) [
      | yes l ↦ let h = braking_leaves u.brakes u.speed (suc v) hb (omega arith) l in grind (arith, nat_tests)
      | no l ↦
          let w : suc v ≤ wish = grind (arith, nat_tests) in
          let h = less_speed u.brakes (suc v) wish hb w in
          grind (arith, nat_tests)
    ]

pub can_stop_stays : CanStopStays
can_stop_stays t (tick wish speed) next k s p ok = grind (arith, nat_tests, tick_stops t.unit wish speed)
can_stop_stays t e next k s p ok = grind (arith, nat_tests)

pub sound_answers : SoundAnswers
sound_answers t s = record {
  wishes = λ wish w. grind (arith, nat_tests);
  ticks = λ wish speed p. grind (arith, nat_tests, tick_stops t.unit wish speed);
  marks = grind (arith, nat_tests);
  reports = grind (arith, nat_tests);
}

pub standing_sound : StandingSound
standing_sound t stands brakes whole low high end limit =
    grind (arith, nat_tests, distance_low t.unit.brakes t.unit.speed)

pub sound_stays : SoundStays
sound_stays t (tick wish speed) s p = grind (arith, nat_tests, tick_stops t.unit wish speed)
sound_stays t e s p = grind (arith, nat_tests)

pub worked_day : WorkedDay
unfolding distance distance_in
worked_day = (refl, (refl, (refl, (refl, (refl, (refl, (refl, tt)))))))
