-- The lines of one train. Assumes nothing: these are definitions.
use Rattle.std.specs.Prelude.{◌≡◌, ℕ, Bool, true, false, ◌-◌, ◌<◌, ◌≤◌, min, List, [], ◌∷◌, ◌++◌, length, None, Some, Option, get_or, set, slice_get}
use Rattle.onboard.specs.declared.train.Train.{Train}
use Rattle.page.specs.declared.point.Point.{Point}
use Rattle.page.specs.declared.scale.Scale.{Scale}
use Rattle.picture.specs.declared.track.Lines.{Lines}
use Rattle.picture.specs.declared.track.Since.{Since}
use Rattle.picture.specs.declared.track.Track.{Track}
use Rattle.page.specs.Scales.{across, height}

-- a line goes on to where a place is after so many events
pub record GoesOn (s : Scale) (events place : ℕ) (before after : List Point) : Type 0 where
  pub next : Point
  pub across : next.x ≡ across s events
  pub height : next.y ≡ height s place
  pub goes_on : after ≡ before ++ next ∷ []

-- the last point of a line, if it has one
abbrev pub last_of : List Point → Option Point
last_of points = slice_get points (length points - 1)

-- where a line turns on its way to the next point: below or above that, level with the last point, if there is one
abbrev pub turned : (next : Point) → (last : Option Point) → (turns : List Point) → Type 0
turned next None turns = turns ≡ []
turned next (Some last) turns = (turn : Point) × (turn.x ≡ next.x) × (turn.y ≡ last.y) × (turns ≡ turn ∷ [])

-- a line goes on level, and then straight up or down to where a place is after so many events
pub record StepsOn (s : Scale) (events place : ℕ) (before after : List Point) : Type 0 where
  pub next : Point
  pub across : next.x ≡ across s events
  pub height : next.y ≡ height s place
  pub turns : List Point
  pub turned : turned next (last_of before) turns
  pub goes_on : after ≡ (before ++ turns) ++ next ∷ []

-- the lines of a train go on to where it is in truth, to what its unit knows of that, and to how far it may go
pub record Followed (s : Scale) (events : ℕ) (train : Train) (before after : Lines) : Type 0 where
  pub front : GoesOn s events train.front before.fronts.items after.fronts.items
  pub rear : GoesOn s events (train.front - train.unit.length) before.rears.items after.rears.items
  pub low : GoesOn s events train.unit.low before.lows.items after.lows.items
  pub high : GoesOn s events train.unit.high before.highs.items after.highs.items
  pub end : StepsOn s events train.unit.end before.ends.items after.ends.items

-- where something happened since, a place is marked after so many events
abbrev pub MarkedIf : (happened : Bool) (s : Scale) (events place : ℕ) (before after : List Point) → Type 0
MarkedIf true s events place before after = GoesOn s events place before after
MarkedIf false s events place before after = after ≡ before

-- the lines of a train go on, and its front is marked where its unit braked since they last did, or it passed a mark
pub record Drawn (s : Scale) (events : ℕ) (train : Train) (since : Since) (before after : Track) : Type 0 where
  pub lines : Followed s events train before.lines after.lines
  pub braked : MarkedIf since.braked s events train.front before.braked.items after.braked.items
  pub marked : MarkedIf since.marked s events train.front before.marked.items after.marked.items

-- neither braked nor passed a mark
abbrev pub nothing : Since
nothing = record { braked = false; marked = false }

-- what happened to the train of that number since its lines went on; nothing where there is no such train
abbrev pub since_at : List Since → ℕ → Since
since_at since n = get_or since n nothing

-- nothing happened to any train
abbrev pub NothingSince : List Since → Type 0
NothingSince since = (n : ℕ) → since_at since n ≡ nothing

-- what happened to that train is drawn, and counts no more
abbrev pub forgotten : List Since → ℕ → List Since
forgotten since n = set since n nothing

-- each train is drawn on to where it is with what happened to it since, and then nothing is left of that; the track of a train
-- has its number, and what has no train or no track is as it was
pub record AllDrawn (s : Scale) (events : ℕ) (trains : List Train) (since left : List Since) (before after : List Track) :
    Type 0 where
  pub count : length after ≡ length before
  pub each : (n : ℕ) (train : Train) (track : Track) →
      slice_get trains n ≡ Some train → slice_get before n ≡ Some track →
      (next : Track) × (slice_get after n ≡ Some next) × Drawn s events train (since_at since n) track next
  pub counted : length left ≡ length since
  pub forgotten : (n : ℕ) → n < min (length before) (length trains) → since_at left n ≡ nothing
  pub rest : (n : ℕ) → min (length before) (length trains) ≤ n →
      (slice_get after n ≡ slice_get before n) × (since_at left n ≡ since_at since n)

-- nothing of a train was drawn yet
pub record NoLines (lines : Lines) : Type 0 where
  pub fronts : lines.fronts.items ≡ []
  pub rears : lines.rears.items ≡ []
  pub lows : lines.lows.items ≡ []
  pub highs : lines.highs.items ≡ []
  pub ends : lines.ends.items ≡ []

-- so many tracks without lines
pub record NoneDrawn (count : ℕ) (tracks : List Track) : Type 0 where
  pub number : length tracks ≡ count
  pub each : (n : ℕ) (track : Track) → slice_get tracks n ≡ Some track → NoLines track.lines
