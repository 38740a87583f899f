-- Laws of the braking distance, and the formula for it. Assumes nothing.
use Rattle.std.proofs.Common.{◌≡◌, ℕ, zero, suc, ◌+◌, ◌-◌, ◌*◌, ◌/◌, ◌<◌, ◌≤◌, List, [], ◌∷◌, refl, ap, arith}
use Rattle.std.proofs.lemmas.Bool.Decides.{nat_tests}
use Rattle.braking.specs.declared.brakes.Brakes.{Brakes}
use Rattle.braking.specs.Distance.{distance_in, distance, distance_max}
use Rattle.braking.specs.Limits.{speed_max, blur_max}
use Rattle.braking.specs.Laws.{Rule, LessSpeed, BrakingLeaves, Braking, travelled, Most, WorkedExample}

in_low : (n : ℕ) (b : Brakes) (v : ℕ) → v ≤ b.brake → distance_in n b v ≡ 0
unfolding distance_in
in_low n b v h = grind (arith, nat_tests)

-- a lower speed takes no more, in any number of ticks, than a higher one in as many as suffice
grows : (n m : ℕ) (b : Brakes) (v w : ℕ) → 0 < b.brake → v ≤ w → w ≤ m → distance_in n b v ≤ distance_in m b w
unfolding distance_in
grows (suc n) (suc m) b v w hb h hm = grind (arith, nat_tests, grows n m b (v - b.brake) (w - b.brake) hb)
grows n m b v w hb h hm = grind (arith, in_low)

pub distance_low : (b : Brakes) (v : ℕ) → v ≤ b.brake → distance b v ≡ 0
unfolding distance
distance_low b v h = in_low v b v h

-- of two numbers of ticks that suffice, neither takes more than the other
pub rule : Rule
unfolding distance distance_in
rule b hb =
    let no_more = λ (n m v : ℕ). grows n m b v v hb in
    (distance_low b, λ v h. grind (arith, nat_tests, no_more (v - 1) (v - b.brake) (v - b.brake), no_more (v - b.brake) (v - 1) (v - b.brake)))

pub less_speed : LessSpeed
unfolding distance
less_speed b v w hb h = grows v w b v w hb h (omega arith)

pub braking_leaves : BrakingLeaves
braking_leaves b v w hb hw h = grind (arith, rule b hb, less_speed b w (v - b.brake) hb)

within : (b : Brakes) (v : ℕ) → 0 < b.brake → (ws : List ℕ) → Braking b v ws → travelled b ws ≤ distance b v
within b v hb [] h = omega arith
within b v hb (w ∷ ws) h = grind (arith, nat_tests, within b w hb ws h.1, distance_low b 0, braking_leaves b v w hb)

-- braking by the brake in each tick takes the whole distance
whole : (n : ℕ) (b : Brakes) (v : ℕ) → (ws : List ℕ) × Braking b v ws × (travelled b ws ≡ distance_in n b v)
unfolding distance_in
whole zero b v = ([], tt, refl)
whole (suc n) b v =
    let r = whole n b (v - b.brake) in
    ((v - b.brake) ∷ r.0, (omega arith, r.1), grind (arith, nat_tests, r.2, in_low n b 0))

pub most : Most
unfolding distance
most b v hb = (within b v hb, whole v b v)

bounded : (n : ℕ) (b : Brakes) (v : ℕ) → b.blur ≤ blur_max → v ≤ speed_max → distance_in n b v ≤ n * (speed_max + blur_max)
unfolding distance_in
bounded zero b v hu hv = omega arith
bounded (suc n) b v hu hv = grind (arith, nat_tests, bounded n b (v - b.brake) hu)

-- no distance is longer than the bound
pub distance_bound : (b : Brakes) (v : ℕ) → b.blur ≤ blur_max → v ≤ speed_max → distance b v ≤ distance_max
unfolding distance
distance_bound b v hu hv = omega (arith, bounded v b v hu hv)

pub worked_example : WorkedExample
unfolding distance distance_in
worked_example = refl

-- Speeds that fall by the brake add up to their number times the mean of the first and the last: one more of them, at the
-- front, adds just itself.
series : (n brake last : ℕ) → suc (suc n) * (last + suc n * brake + last) / 2 ≡ last + suc n * brake + suc n * (last + n * brake + last) / 2
series n brake last = omega arith

-- where just n ticks of braking end above 0, the distance is the sum of the speeds after them, and n blurs
of_ticks : (b : Brakes) (v n : ℕ) → 0 < b.brake → n * b.brake ≤ v - 1 → v ≤ n * b.brake + b.brake →
    n * (v - b.brake + (v - n * b.brake)) / 2 + n * b.blur ≡ distance b v
of_ticks b v zero hb low high = omega (arith, distance_low b v (omega arith))
of_ticks b v (suc zero) hb low high = omega (arith, (rule b hb).1 v (omega arith), distance_low b (v - b.brake) (omega arith))
of_ticks b v (suc (suc n)) hb low high =
    let w = v - b.brake in
    let last = v - suc (suc n) * b.brake in
    let before = of_ticks b w (suc n) hb (omega arith) (omega arith) in
    let speeds : suc n * (w - b.brake + (w - suc n * b.brake)) ≡ suc n * (last + n * b.brake + last) = ap (λ x. suc n * x) (omega arith) in
    let more : suc (suc n) * (w + last) ≡ suc (suc n) * (last + suc n * b.brake + last) = ap (λ x. suc (suc n) * x) (omega arith) in
    omega (arith, before, speeds, more, series n b.brake last, (rule b hb).1 v (omega arith))

-- the braking distance at once: a division tells how many ticks these are
pub at_once : (b : Brakes) (v : ℕ) → 0 < b.brake → let n = (v - 1) / b.brake in
    n * (v - b.brake + (v - n * b.brake)) / 2 + n * b.blur ≡ distance b v
at_once b v hb = of_ticks b v ((v - 1) / b.brake) hb (omega arith) (omega arith)
