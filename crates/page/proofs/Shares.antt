-- Parts of a whole, as lengths on the page.
use Rattle.std.proofs.Common.{◌≡◌, ℕ, ◌*◌, ◌<◌, ◌≤◌, min, max, le_trans, arith}
use Rattle.std.proofs.Math.Nat.{div-le_of_le-mul, div-mul-le_self, mul-div_right, zero-div, mul-le-mul_right}
use Rattle.std.proofs.lemmas.Nat.{le-div}
use Rattle.page.specs.Scales.{share}

pub share_small : (part whole span : ℕ) → share part whole span ≤ span
share_small part whole span = div-le_of_le-mul (max whole 1) (mul-le-mul_right span (omega arith))

pub share_rises : (part more whole span : ℕ) → part ≤ more → share part whole span ≤ share more whole span
share_rises part more whole span farther =
    le-div (share part whole span) (min more whole * span) (max whole 1) (omega arith)
    (le_trans (div-mul-le_self (min part whole * span) (max whole 1)) (mul-le-mul_right span (omega (arith, farther))))

pub share_whole : (part whole span : ℕ) → 0 < whole → whole ≤ part → share part whole span ≡ span
share_whole part whole span some all =
    let one : min part whole ≡ whole = omega (arith, all) in
    let other : max whole 1 ≡ whole = omega (arith, some) in
    rw (one, other) (mul-div_right span some)

pub share_none : (part whole span : ℕ) → part ≡ 0 → share part whole span ≡ 0
share_none part whole span none =
    let zero : min part whole * span ≡ 0 = grind (arith, none) in
    rw zero (zero-div (max whole 1))
