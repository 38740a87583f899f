-- A train in truth, what happens to it, and what should hold of it. These are definitions. They take it for granted that a
-- train has the length, the brakes and, after a tick, the speed that its unit is told, and that a mark tells the true place.
use Rattle.std.specs.Prelude.{◌≡◌, ℕ, ◌+◌, ◌-◌, ◌≤◌, Ok, Err, Result}
use Rattle.braking.specs.declared.refusal.Refusal.{Refusal}
use Rattle.braking.specs.Refusals.{kept}
use Rattle.braking.specs.Limits.{brakes_checked, speed_max, place_max}
use Rattle.braking.specs.Distance.{distance}
use Rattle.onboard.specs.declared.train.Train.{Train}
use Rattle.onboard.specs.declared.unit.Onboard.{Onboard}
use Rattle.onboard.specs.declared.unit.Grant.{Grant}
use Rattle.onboard.specs.declared.word.Word.{Word}
use Rattle.onboard.specs.declared.word.Word.TheVariants.{Drive, Brake}
use Rattle.onboard.specs.Steps.{asked, after_tick, after_mark, after_take}

-- what happens to one train: a tick with the driver's wish and the speed that the train then has, a mark that it passes, a grant that comes to it
pub data Event : Type 0 where
  tick : (wish speed : ℕ) → Event
  mark : Event
  take : Grant → Event

-- how fast the answer lets a train be, with this wish and what braking leaves at most: a refused wish is not let
abbrev pub allowed : Result Word Refusal → (wish left : ℕ) → ℕ
allowed (Ok Drive) wish left = wish
allowed (Ok Brake) wish left = left
allowed (Err why) wish left = left

-- the highest speed that a tick can have
abbrev pub fastest : Onboard → ℕ → ℕ
fastest u wish = allowed (asked u wish) wish (u.speed - u.brakes.brake)

-- what can happen: any wish, and then any speed up to the highest; any mark; any grant
abbrev pub Possible : Train → Event → Type 0
Possible t (tick wish speed) = speed ≤ fastest t.unit wish
Possible t mark = Unit {0}
Possible t (take grant) = Unit {0}

-- the front afterwards: only a tick moves it, by the speed
abbrev pub front_after : Train → Event → ℕ
front_after t (tick wish speed) = t.front + speed
front_after t mark = t.front
front_after t (take grant) = t.front

-- what the unit's step makes of the unit: a tick tells it the speed, and a mark the true place of the front
abbrev pub unit_after : Train → Event → Result Onboard Refusal
unit_after t (tick wish speed) = after_tick t.unit speed
unit_after t mark = after_mark t.unit t.front
unit_after t (take grant) = after_take t.unit grant

-- the train afterwards
abbrev pub after : Train → Event → Train
after t e = record { front = front_after t e; unit = kept t.unit (unit_after t e) }

-- what the unit knows of the front is true
pub record Known (front : ℕ) (u : Onboard) : Type 0 where
  pub low : u.low ≤ front
  pub high : front ≤ u.high

-- the train could stop within its end, even if its front is at the high place
pub record CanStop (u : Onboard) : Type 0 where
  pub within : u.high + distance u.brakes u.speed ≤ u.end

-- brakes, speed and end are in their ranges
pub record InRange (u : Onboard) : Type 0 where
  pub brakes : brakes_checked u.brakes ≡ Ok tt
  pub speed : u.speed ≤ speed_max
  pub end : u.end ≤ place_max

-- the rear, which is the front less the length, is at the place or past it
pub record RearPast (t : Train) (place : ℕ) : Type 0 where
  pub clear : place + t.unit.length ≤ t.front

-- a train as it should be: all of it is on the line, its unit's brakes, speed and end are in range, what the unit knows is true, and it could stop within its end
pub record Sound (t : Train) : Type 0 where
  pub on_line : RearPast t 0
  pub in_range : InRange t.unit
  pub known : Known t.front t.unit
  pub can_stop : CanStop t.unit
