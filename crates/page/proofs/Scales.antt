-- Where on the page a value is after so many steps.
use Rattle.std.proofs.Common.{◌≡◌, ℕ, ◌+◌, ◌-◌, ◌≤◌, refl, arith}
use native.Mathlib.Decide.{dec_le}
use Rattle.std.proofs.lemmas.Bool.Decides.{nat_tests}
use Rattle.page.specs.declared.scale.Scale.{Scale}
use Rattle.page.specs.Laws.{FillsTheFrame, InsideTheFrame}
use Rattle.page.specs.Page.{foot, left, right, top}
use Rattle.page.specs.Scales.{above, across, height, share}
use Rattle.page.proofs.Shares.{share_small, share_rises, share_whole, share_none}

pub height_rises : (s : Scale) (value higher : ℕ) → value ≤ higher → height s higher ≤ height s value
height_rises s value higher more =
    omega (
      arith,
      share_rises (value - s.lowest) (higher - s.lowest) (s.cut - s.lowest) (foot - top - above s) (omega (arith, more)),
      share_rises (value - s.cut) (higher - s.cut) (s.highest - s.cut) (above s) (omega (arith, more)),
    )

pub across_right : (s : Scale) (steps more : ℕ) → steps ≤ more → across s steps ≤ across s more
across_right s steps more later = omega (arith, share_rises steps more s.steps (right - left) later)

above_small : (s : Scale) → above s ≤ 600
above_small s = grind arith

pub inside : InsideTheFrame
inside s steps value =
    let one : share steps s.steps (right - left) ≤ right - left = share_small steps s.steps (right - left) in
    let two : share (value - s.lowest) (s.cut - s.lowest) (foot - top - above s) ≤ foot - top - above s =
    share_small (value - s.lowest) (s.cut - s.lowest) (foot - top - above s) in
    let three : share (value - s.cut) (s.highest - s.cut) (above s) ≤ above s =
    share_small (value - s.cut) (s.highest - s.cut) (above s) in
    (omega arith, omega (arith, one), omega (arith, two, three, above_small s), omega arith)

top_share : (s : Scale) → share (s.highest - s.cut) (s.highest - s.cut) (above s) ≡ above s
top_share s = elim (dec_le (s.cut + 1) s.highest) [
  | yes l ↦ share_whole (s.highest - s.cut) (s.highest - s.cut) (above s) (omega (arith, l)) (omega arith)
  | no l ↦ let none : above s ≡ 0 = grind (arith, nat_tests, l) in
      omega (arith, none, share_small (s.highest - s.cut) (s.highest - s.cut) (above s))
]

pub fills : FillsTheFrame
fills s wide high some = (
  omega (
    arith,
    share_none (s.lowest - s.lowest) (s.cut - s.lowest) (foot - top - above s) (omega arith),
    share_none (s.lowest - s.cut) (s.highest - s.cut) (above s) (omega (arith, wide)),
  ),
  omega (
    arith,
    above_small s,
    top_share s,
    share_whole (s.highest - s.lowest) (s.cut - s.lowest) (foot - top - above s) (omega (arith, wide)) (omega (arith, high)),
  ),
  omega (arith, share_none 0 s.steps (right - left) refl),
  omega (arith, share_whole s.steps s.steps (right - left) some (omega arith)),
)
