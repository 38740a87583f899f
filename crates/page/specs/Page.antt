-- The page, and what lies inside its frame. Assumes nothing: these are definitions.
use Rattle.std.specs.Prelude.{ℕ, ◌≤◌}

-- how large the page is
abbrev pub page_width : ℕ
page_width = 16000

abbrev pub page_height : ℕ
page_height = 11300

-- the points of a graph lie between these, in tenths of a pixel, to the right and downwards
abbrev pub left : ℕ
left = 1250

abbrev pub right : ℕ
right = 14150

abbrev pub top : ℕ
top = 1500

abbrev pub foot : ℕ
foot = 8900

-- and the frame is so far outside of them
abbrev pub margin : ℕ
margin = 100

-- inside the frame, and so far from it that a glyph at the point is inside too
abbrev pub Inside : (x y : ℕ) → Type 0
Inside x y = (left ≤ x) × (x ≤ right) × (top ≤ y) × (y ≤ foot)
