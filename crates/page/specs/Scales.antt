-- Where on the page a value is after so many steps. Assumes nothing: these are definitions.
use Rattle.std.specs.Prelude.{ℕ, ◌+◌, ◌-◌, ◌*◌, ◌/◌, min, max, nat_lt, ◌&&◌, if◌then◌else◌}
use Rattle.page.specs.declared.scale.Scale.{Scale}
use Rattle.page.specs.Page.{left, right, top, foot}

-- a part of a whole, as a length on the page out of `span`; more than the whole is the whole
abbrev pub share : (part whole span : ℕ) → ℕ
share part whole span = min part whole * span / max whole 1

-- after so many steps
abbrev pub across : Scale → ℕ → ℕ
across s steps = left + share steps s.steps (right - left)

-- how much of the height is left for values above the cut
abbrev pub above : Scale → ℕ
above s = if nat_lt s.cut s.highest then 600 else 0

-- how far a value is above the foot of the frame
abbrev pub rise : Scale → ℕ → ℕ
rise s value =
    share (value - s.lowest) (s.cut - s.lowest) (foot - top - above s) +
    share (value - s.cut) (s.highest - s.cut) (above s)

abbrev pub height : Scale → ℕ → ℕ
height s value = foot - rise s value

-- the values are cut a bit above the usual ones where the highest is much farther up than they go
abbrev pub cut_of : (lowest usual highest : ℕ) → ℕ
cut_of lowest usual highest =
    let used = usual - lowest in
    if nat_lt 0 used && nat_lt (used + used / 2) (highest - lowest) then usual + used / 20 else highest

abbrev pub scale_of : (steps lowest usual highest : ℕ) → Scale
scale_of steps lowest usual highest =
    record { steps = max steps 1; lowest = lowest; cut = cut_of lowest usual highest; highest = highest }
