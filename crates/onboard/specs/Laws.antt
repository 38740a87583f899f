-- What is promised of every unit. Each is a statement, and stands on the contract of a function.
use Rattle.std.specs.Prelude.{◌≡◌, ℕ, ◌+◌, ◌-◌, ◌≤◌, cond, Ok}
use Rattle.braking.specs.Refusals.{done}
use Rattle.braking.specs.Limits.{brakes_checked, speed_max, place_max}
use Rattle.onboard.specs.declared.train.Train.{Train}
use Rattle.onboard.specs.declared.unit.Onboard.{Onboard}
use Rattle.onboard.specs.declared.word.Word.TheVariants.{Drive, Brake}
use Rattle.onboard.specs.Rule.{Needed}
use Rattle.onboard.specs.Steps.{unit_lets, asked, tick_blur, after_tick, reported}
use Rattle.onboard.specs.Train.{Event, tick, mark, Possible, front_after, unit_after, after, Known, CanStop, RearPast, Sound}

-- no unit brakes without need
abbrev pub BrakesOnlyIfNeeded : Type 0
BrakesOnlyIfNeeded = (u : Onboard) (wish : ℕ) → asked u wish ≡ Ok Brake → Needed u.brakes u.high u.end wish

-- what a unit knows stays true, whatever speed a tick has, unless the unit refuses the step
abbrev pub KnownStays : Type 0
KnownStays =
    (t : Train) (e : Event) (next : Onboard) → Known t.front t.unit →
    unit_after t e ≡ Ok next → Known (front_after t e) next

-- and so it does where the odometry errs by up to the blur: the unit is told the speed, and the front came by something near it
abbrev pub KnownWithinBlur : Type 0
KnownWithinBlur =
    (u next : Onboard) (front came speed : ℕ) → Known front u →
    speed ≤ came + tick_blur u.brakes speed → came ≤ speed + tick_blur u.brakes speed →
    after_tick u speed ≡ Ok next → Known (front + came) next

-- a train that could stop within its end still could after what can happen, unless the unit refuses the step
-- (that the front is known matters at a mark, where the high place becomes the front)
abbrev pub CanStopStays : Type 0
CanStopStays =
    (t : Train) (e : Event) (next : Onboard) → Known t.front t.unit → CanStop t.unit → Possible t e →
    unit_after t e ≡ Ok next → CanStop next

-- a train that stands is sound if all of it is on the line, its brakes are in range, and low, front, high, end and the farthest place are in this order
abbrev pub StandingSound : Type 0
StandingSound =
    (t : Train) → t.unit.speed ≡ 0 → brakes_checked t.unit.brakes ≡ Ok tt → t.unit.length ≤ t.front →
    t.unit.low ≤ t.front → t.front ≤ t.unit.high → t.unit.high ≤ t.unit.end → t.unit.end ≤ place_max →
    Sound t

-- a sound train stays sound
abbrev pub SoundStays : Type 0
SoundStays = (t : Train) (e : Event) → Sound t → Possible t e → Sound (after t e)

-- the unit of a sound train refuses no wish in range, no tick that can be, no mark and no report
pub record Answers (t : Train) : Type 0 where
  pub wishes : (wish : ℕ) → wish ≤ speed_max → asked t.unit wish ≡ Ok (cond (unit_lets t.unit wish) Drive Brake)
  pub ticks : (wish speed : ℕ) → Possible t (tick wish speed) → done (unit_after t (tick wish speed)) ≡ Ok tt
  pub marks : done (unit_after t mark) ≡ Ok tt
  pub reports : reported t.unit ≡ Ok (t.unit.low - t.unit.length)

abbrev pub SoundAnswers : Type 0
SoundAnswers = (t : Train) → Sound t → Answers t

-- what the unit of a sound train reports of the rear is true
abbrev pub ReportTrue : Type 0
ReportTrue = (t : Train) (place : ℕ) → Sound t → reported t.unit ≡ Ok place → RearPast t place

-- no train goes back: what was once true of its rear stays true, whatever happens to it
abbrev pub RearPastStays : Type 0
RearPastStays = (t : Train) (e : Event) (place : ℕ) → RearPast t place → RearPast (after t e) place
