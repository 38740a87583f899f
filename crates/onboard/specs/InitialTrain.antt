-- A train as it stands when its day begins. Assumes nothing: these are definitions.
use Rattle.std.specs.Prelude.{ℕ, Bool, ◌&&◌, nat_le}
use Rattle.braking.specs.declared.brakes.Brakes.{Brakes}
use Rattle.onboard.specs.declared.initial_train.InitialTrain.{InitialTrain}
use Rattle.onboard.specs.declared.train.Train.{Train}

-- a train fits behind a limit: all of it is on the line, and low, front, high, end and the limit are in this order
abbrev pub fits : (limit : ℕ) → InitialTrain → Bool
fits limit t = nat_le t.length t.front && (nat_le t.low t.front && (nat_le t.front t.high && (nat_le t.high t.end && nat_le t.end limit)))

-- the train of that number, standing
abbrev pub train_of : Brakes → (number : ℕ) → InitialTrain → Train
train_of b number t = record { front = t.front; unit = record { train = number; brakes = b; length = t.length; speed = 0; low = t.low; high = t.high; end = t.end } }
