-- The gaps of a picture. Assumes nothing: these are definitions.
use Rattle.std.specs.Prelude.{◌≡◌, ℕ, ◌+◌, ◌-◌, ◌<◌, ◌≤◌, List, length, None, Some, Option, slice_get, nat_lt, if◌then◌else◌}
use Rattle.onboard.specs.declared.train.Train.{Train}
use Rattle.picture.specs.declared.nearest.Gap.{Gap}

abbrev pub gap_between : Gap → ℕ
gap_between gap = gap.rear - gap.front

-- the gap between two trains: from the rear of the one ahead, which has this number, down to the front of the one behind
abbrev pub gap_of : ℕ → Train → Train → Gap
gap_of ahead train behind = record { ahead = ahead; rear = train.front - train.unit.length; front = behind.front }

-- the smaller of the smallest gap so far and the next, and the one so far where they are the same
abbrev pub smaller_gap : Option Gap → Gap → Gap
smaller_gap None next = next
smaller_gap (Some gap) next = if nat_lt (gap_between next) (gap_between gap) then next else gap

-- the gap is between two trains that follow one another
pub record Neighbours (trains : List Train) (gap : Gap) : Type 0 where
  pub train : Train
  pub behind : Train
  pub ahead : slice_get trains gap.ahead ≡ Some train
  pub next : slice_get trains (gap.ahead + 1) ≡ Some behind
  pub is : gap ≡ gap_of gap.ahead train behind

-- of all gaps between neighbours it is the smallest, and of several the foremost
pub record Closest (trains : List Train) (gap : Gap) : Type 0 where
  pub there : Neighbours trains gap
  pub smallest : (other : Gap) → Neighbours trains other → gap_between gap ≤ gap_between other
  pub foremost : (other : Gap) → Neighbours trains other → other.ahead < gap.ahead → gap_between gap < gap_between other

-- the smallest gap, if there are two trains
abbrev pub SmallestGap : List Train → Option Gap → Type 0
SmallestGap trains None = length trains < 2
SmallestGap trains (Some gap) = Closest trains gap
