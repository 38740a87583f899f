-- A line: its trains, its controllers and all that was ever sent; and how a day begins. Assumes nothing: these are
-- definitions.
use Rattle.std.specs.Prelude.{◌≡◌, ℕ, suc, ◌<◌, ◌≤◌, List, [], length, Ok, slice_index_or}
use Rattle.braking.specs.Limits.{brakes_checked, counts_checked, place_max}
use Rattle.onboard.specs.declared.train.Train.{Train}
use Rattle.onboard.specs.Train.{RearPast}
use Rattle.controller.specs.declared.controller.Controller.{Controller}
use Rattle.controller.specs.Steps.{silent}

-- the trains by number, 0 the foremost: the train behind train i is train i + 1. Of each, where its front is in truth, and
-- its unit. The controllers by number, with what each has heard. And the bytes of every message, in the order in which they
-- were sent
pub record State : Type 0 where
  pub trains : List Train
  pub controllers : List Controller
  pub sent : List (List ℕ)

-- at numbers that no train of the line has, a train of no length that stands at the foot of the line: so that what is said of
-- every number is said of every train. That the last train is ahead of such a one says that all of it is on the line
abbrev pub no_train : Train
no_train = record { front = 0; unit = record { train = 0; brakes = record { brake = 1; blur = 0 }; length = 0; speed = 0; low = 0; high = 0; end = 0 } }

-- a train, a controller and a message by number; where there is none, a train as above, a controller that has heard nothing,
-- no bytes
abbrev pub train_at : State → ℕ → Train
train_at s train = slice_index_or s.trains train no_train

abbrev pub controller_at : State → ℕ → Controller
controller_at s controller = slice_index_or s.controllers controller silent

abbrev pub message_at : State → ℕ → List ℕ
message_at s message = slice_index_or s.sent message []

-- a train stands with all of it on the line, brakes in range, and low, front, high, end and the farthest place in this order
pub record Stands (t : Train) : Type 0 where
  pub speed : t.unit.speed ≡ 0
  pub brakes : brakes_checked t.unit.brakes ≡ Ok tt
  pub on_line : t.unit.length ≤ t.front
  pub low : t.unit.low ≤ t.front
  pub high : t.front ≤ t.unit.high
  pub end : t.unit.high ≤ t.unit.end
  pub limit : t.unit.end ≤ place_max

-- an initial state, as a day begins with: not too many trains and controllers; each unit has its train's number; all trains
-- stand; the end of each is not past the rear of the train ahead; nothing was heard, and nothing was sent
pub record Initial (s : State) : Type 0 where
  pub counts : counts_checked (length s.trains) (length s.controllers) ≡ Ok tt
  pub numbered : (train : ℕ) → train < length s.trains → (train_at s train).unit.train ≡ train
  pub stands : (train : ℕ) → Stands (train_at s train)
  pub apart : (train : ℕ) → RearPast (train_at s train) (train_at s (suc train)).unit.end
  pub silent : (controller : ℕ) → controller_at s controller ≡ silent
  pub nothing_sent : s.sent ≡ []
