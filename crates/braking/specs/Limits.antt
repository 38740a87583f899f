-- The limit of every number, and what the check of each answers. Assumes nothing: these are definitions.
use Rattle.std.specs.Prelude.{ℕ, ◌&&◌, nat_le}
use Rattle.braking.specs.declared.brakes.Brakes.{Brakes}
use Rattle.braking.specs.declared.refusal.Refusal.TheVariants.{BrakeRange, BlurRange, SpeedTooHigh, PlaceTooFar, TrainTooHigh, TooManyTrains, TooManyControllers}
use Rattle.braking.specs.Refusals.{Checked, check, ◌then◌}

-- the farthest place, in decimetres from the foot of the line
abbrev pub place_max : ℕ
place_max = 1000000000

-- the highest speed, in decimetres a tick
abbrev pub speed_max : ℕ
speed_max = 10000

-- the weakest brake, the strongest, and the largest blur
abbrev pub brake_min : ℕ
brake_min = 1

abbrev pub brake_max : ℕ
brake_max = 100

abbrev pub blur_max : ℕ
blur_max = 100

-- the last train's number, how many trains there may be, and how many controllers
abbrev pub train_max : ℕ
train_max = 63

abbrev pub trains_max : ℕ
trains_max = 64

abbrev pub controllers_max : ℕ
controllers_max = 8

-- the brake is looked at before the blur
abbrev pub brakes_checked : Brakes → Checked
brakes_checked b = check (nat_le brake_min b.brake && nat_le b.brake brake_max) BrakeRange then check (nat_le b.blur blur_max) BlurRange

abbrev pub speed_checked : ℕ → Checked
speed_checked speed = check (nat_le speed speed_max) SpeedTooHigh

abbrev pub place_checked : ℕ → Checked
place_checked place = check (nat_le place place_max) PlaceTooFar

abbrev pub train_checked : ℕ → Checked
train_checked train = check (nat_le train train_max) TrainTooHigh

-- the trains are counted before the controllers
abbrev pub counts_checked : ℕ → ℕ → Checked
counts_checked trains controllers = check (nat_le trains trains_max) TooManyTrains then check (nat_le controllers controllers_max) TooManyControllers
