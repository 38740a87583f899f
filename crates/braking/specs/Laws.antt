-- What is promised of the braking distance, for all brakes but 0. Each is a statement, and stands on the contract of a function.
use Rattle.std.specs.Prelude.{◌≡◌, ℕ, ◌+◌, ◌-◌, ◌<◌, ◌≤◌, cond, List, [], ◌∷◌, map, ◌==◌}
use Rattle.braking.specs.declared.brakes.Brakes.{Brakes}
use Rattle.braking.specs.Distance.{distance}

-- the rule of the distance with these brakes: 0 up to the brake; above it the speed that is left, the blur, and the distance from that speed
abbrev pub Ruled : Brakes → Type 0
Ruled b =
    ((v : ℕ) → v ≤ b.brake → distance b v ≡ 0)
    × ((v : ℕ) → b.brake < v → distance b v ≡ (v - b.brake) + b.blur + distance b (v - b.brake))

-- the rule holds with all brakes but 0
abbrev pub Rule : Type 0
Rule = (b : Brakes) → 0 < b.brake → Ruled b

-- less speed takes no more distance
abbrev pub LessSpeed : Type 0
LessSpeed = (b : Brakes) (v w : ℕ) → 0 < b.brake → v ≤ w → distance b v ≤ distance b w

-- a speed above 0 that braking leaves, its blur and the distance from it are within the distance that there was
abbrev pub BrakingLeaves : Type 0
BrakingLeaves =
    (b : Brakes) (v w : ℕ) → 0 < b.brake → 0 < w → w ≤ v - b.brake → w + b.blur + distance b w ≤ distance b v

-- speeds that ticks of braking from v can leave one after another: each at most the one before less the brake
abbrev pub Braking : Brakes → ℕ → List ℕ → Type 0
Braking b v [] = Unit {0}
Braking b v (w ∷ ws) = (w ≤ v - b.brake) × Braking b w ws

-- how far these ticks take the front at most, by what the unit can know: each that moves adds its blur
abbrev pub travelled : Brakes → List ℕ → ℕ
travelled b [] = 0
travelled b (w ∷ ws) = cond (w == 0) 0 (w + b.blur) + travelled b ws

-- the distance is the most that any braking takes, and some braking takes it whole
abbrev pub Most : Type 0
Most =
    (b : Brakes) (v : ℕ) → 0 < b.brake →
    ((ws : List ℕ) → Braking b v ws → travelled b ws ≤ distance b v) × ((ws : List ℕ) × Braking b v ws × (travelled b ws ≡ distance b v))

-- with brake 3 and blur 1, the distances from speed 0 to 12
abbrev pub WorkedExample : Type 0
WorkedExample =
    map (distance (record { brake = 3; blur = 1 })) (0 ∷ 1 ∷ 2 ∷ 3 ∷ 4 ∷ 5 ∷ 6 ∷ 7 ∷ 8 ∷ 9 ∷ 10 ∷ 11 ∷ 12 ∷ [])
    ≡ 0 ∷ 0 ∷ 0 ∷ 0 ∷ 2 ∷ 3 ∷ 4 ∷ 7 ∷ 9 ∷ 11 ∷ 15 ∷ 18 ∷ 21 ∷ []
