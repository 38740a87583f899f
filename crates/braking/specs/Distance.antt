-- The braking distance. Assumes nothing: these are definitions.
use Rattle.std.specs.Prelude.{ℕ, zero, suc, ◌+◌, ◌-◌, ◌*◌, cond, Ok, Result, nat_le}
use Rattle.braking.specs.declared.brakes.Brakes.{Brakes}
use Rattle.braking.specs.declared.refusal.Refusal.{Refusal}
use Rattle.braking.specs.Refusals.{◌then◌}
use Rattle.braking.specs.Limits.{brakes_checked, speed_checked, speed_max, blur_max}

-- what the next n ticks of braking from speed v take: nothing if v is at most the brake;
-- else the speed that is left, the blur, and what the ticks after it take
unfoldable pub distance_in : ℕ → Brakes → ℕ → ℕ
distance_in zero b v = 0
distance_in (suc n) b v = cond (nat_le v b.brake) 0 ((v - b.brake) + b.blur + distance_in n b (v - b.brake))

-- the braking distance from speed v, what braking takes at most after this tick.
-- v ticks are enough, since each takes off at least 1: the law Rule says it with no count of ticks
unfoldable pub distance : Brakes → ℕ → ℕ
distance b v = distance_in v b v

-- no distance is longer, 101,000,000: as many ticks as the highest speed has units, each of at most that speed and the largest blur
abbrev pub distance_max : ℕ
distance_max = speed_max * (speed_max + blur_max)

-- the distance, or why there is none to tell: the brakes are looked at before the speed
abbrev pub distance_checked : Brakes → ℕ → Result ℕ Refusal
distance_checked b v = brakes_checked b then speed_checked v then Ok (distance b v)
