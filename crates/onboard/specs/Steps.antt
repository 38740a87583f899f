-- What each step makes of a unit, and what it answers. Assumes nothing: these are definitions.
use Rattle.std.specs.Prelude.{ℕ, ◌+◌, ◌-◌, Bool, cond, max, Ok, Result, ◌==◌}
use Rattle.braking.specs.declared.brakes.Brakes.{Brakes}
use Rattle.braking.specs.declared.refusal.Refusal.{Refusal}
use Rattle.braking.specs.declared.refusal.Refusal.TheVariants.{OtherTrain}
use Rattle.braking.specs.Refusals.{check, ◌then◌}
use Rattle.braking.specs.Limits.{brakes_checked, speed_checked, place_checked}
use Rattle.onboard.specs.declared.unit.Onboard.{Onboard}
use Rattle.onboard.specs.declared.unit.Grant.{Grant}
use Rattle.onboard.specs.declared.word.Word.{Word}
use Rattle.onboard.specs.Rule.{lets, word_on}

-- whether the unit lets its driver have the wish, and what it answers; it looks at the speed that is wished, and not at its own
abbrev pub unit_lets : Onboard → ℕ → Bool
unit_lets u wish = lets u.brakes u.high u.end wish

abbrev pub asked : Onboard → ℕ → Result Word Refusal
asked u wish = word_on u.brakes u.high u.end wish

-- how much worse a tick makes the knowledge of the place, either way: by the blur if it moves
abbrev pub tick_blur : Brakes → ℕ → ℕ
tick_blur b speed = cond (speed == 0) 0 b.blur

-- where the front is at least and at most after a tick at the speed; low does not go below 0
abbrev pub low_after : Onboard → ℕ → ℕ
low_after u speed = (u.low + speed) - tick_blur u.brakes speed

abbrev pub high_after : Onboard → ℕ → ℕ
high_after u speed = u.high + speed + tick_blur u.brakes speed

-- after a tick in which the front came by the speed
abbrev pub after_tick : Onboard → ℕ → Result Onboard Refusal
after_tick u speed =
    brakes_checked u.brakes then speed_checked speed then place_checked (high_after u speed) then place_checked u.low then
    Ok (record { train = u.train; brakes = u.brakes; length = u.length; speed = speed; low = low_after u speed; high = high_after u speed; end = u.end })

-- at a mark, which tells the place of the front
abbrev pub after_mark : Onboard → ℕ → Result Onboard Refusal
after_mark u place =
    place_checked place then
    Ok (record { train = u.train; brakes = u.brakes; length = u.length; speed = u.speed; low = place; high = place; end = u.end })

-- a report: the place that the rear is not behind
abbrev pub reported : Onboard → Result ℕ Refusal
reported u = place_checked u.low then Ok (u.low - u.length)

-- with a grant, which only the train that it is for takes: the end becomes the grant's place, if that is farther
abbrev pub after_take : Onboard → Grant → Result Onboard Refusal
after_take u grant =
    place_checked grant.place then check (grant.train == u.train) (OtherTrain grant.train) then
    Ok (record { train = u.train; brakes = u.brakes; length = u.length; speed = u.speed; low = u.low; high = u.high; end = max u.end grant.place })
