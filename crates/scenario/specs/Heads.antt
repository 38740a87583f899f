-- How a day begins, by the lines of a head. Assumes nothing: these are definitions.
use Rattle.std.specs.Prelude.{ℕ, List, Some, None, Option}
use Rattle.std.specs.List.{fold, filter_map}
use Rattle.braking.specs.declared.brakes.Brakes.{Brakes}
use Rattle.onboard.specs.declared.initial_train.InitialTrain.{InitialTrain}
use Rattle.scenario.specs.declared.entry.HeadLine.{HeadLine}
use Rattle.scenario.specs.declared.entry.HeadLine.TheVariants as heads

-- the brakes that are given; where none is, a brake and a blur that no train can have
abbrev pub with_brakes : Brakes → HeadLine → Brakes
with_brakes brakes (heads.Brake brake) = record brakes { brake = brake }
with_brakes brakes (heads.Blur blur) = record brakes { blur = blur }
with_brakes brakes _ = brakes

abbrev pub brakes_of : List HeadLine → Brakes
brakes_of = fold with_brakes (record { brake = 0; blur = 101 })

-- how many controllers there are; 8 where it is not given
abbrev pub with_controllers : ℕ → HeadLine → ℕ
with_controllers controllers (heads.Controllers given) = given
with_controllers controllers _ = controllers

abbrev pub controllers_of : List HeadLine → ℕ
controllers_of = fold with_controllers 8

-- the trains, in the order in which they are given
abbrev pub train_of : HeadLine → Option InitialTrain
train_of (heads.Train standing) = Some standing
train_of _ = None

abbrev pub trains_of : List HeadLine → List InitialTrain
trains_of = filter_map train_of
