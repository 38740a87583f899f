-- The theorems on scales. Assumes nothing: these are definitions.
use Rattle.std.specs.Prelude.{◌≡◌, ℕ, ◌<◌, ◌≤◌}
use Rattle.page.specs.declared.scale.Scale.{Scale}
use Rattle.page.specs.Page.{Inside, foot, left, right, top}
use Rattle.page.specs.Scales.{across, height}

-- a value that is higher is not lower on the page (heights count downwards)
abbrev pub HeightRises : Type 0
HeightRises = (s : Scale) (value higher : ℕ) → value ≤ higher → height s higher ≤ height s value

-- what comes later is not farther to the left
abbrev pub StepsGoRight : Type 0
StepsGoRight = (s : Scale) (steps more : ℕ) → steps ≤ more → across s steps ≤ across s more

-- the lowest value is at the foot of the frame and the highest at its top, and the steps go from the left to the right
abbrev pub FillsTheFrame : Type 0
FillsTheFrame = (s : Scale) → s.lowest < s.cut → s.cut ≤ s.highest → 0 < s.steps →
    (height s s.lowest ≡ foot) × (height s s.highest ≡ top) × (across s 0 ≡ left) × (across s s.steps ≡ right)

-- whatever is drawn is inside the frame
abbrev pub InsideTheFrame : Type 0
InsideTheFrame = (s : Scale) (steps value : ℕ) → Inside (across s steps) (height s value)
