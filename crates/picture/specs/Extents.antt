-- What a picture of a day has to hold. Assumes nothing: these are definitions.
use Rattle.std.specs.Prelude.{◌+◌, ◌-◌, ◌^◌, min, max, List, [], ◌∷◌}
use Rattle.onboard.specs.declared.train.Train.{Train}
use Rattle.page.specs.declared.scale.Scale.{Scale}
use Rattle.page.specs.Scales.{scale_of}
use Rattle.picture.specs.declared.extent.Extent.{Extent}

abbrev pub nothing : Extent
nothing = record { events = 0; lowest = 2 ^ 64 - 1; farthest = 0; highest = 0 }

-- the rear of one train more, its high and its end
abbrev pub with_train : Extent → Train → Extent
with_train e train = record {
  events = e.events;
  lowest = min e.lowest (train.front - train.unit.length);
  farthest = max e.farthest train.unit.high;
  highest = max e.highest train.unit.end;
}

abbrev pub with_trains : Extent → List Train → Extent
with_trains e [] = e
with_trains e (train ∷ trains) = with_trains (with_train e train) trains

-- the scale of a picture that holds it
abbrev pub scale_for : Extent → Scale
scale_for e = scale_of e.events e.lowest e.farthest e.highest

-- events are counted up to 2 ^ 64 - 1
abbrev pub one_event : Extent → Extent
one_event e = record e { events = min (e.events + 1) (2 ^ 64 - 1) }
