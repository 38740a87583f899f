-- The line that a day begins with, or why it cannot. Assumes nothing: these are definitions.
use Rattle.std.specs.Prelude.{◌≡◌, ℕ, suc, ◌+◌, ◌-◌, ◌<◌, List, [], ◌∷◌, length, take, replicate, IsOk, Ok, Err, Result}
use Rattle.braking.specs.declared.brakes.Brakes.{Brakes}
use Rattle.braking.specs.declared.refusal.Refusal.{Refusal}
use Rattle.braking.specs.declared.refusal.Refusal.TheVariants.{NotInitial}
use Rattle.braking.specs.Limits.{brakes_checked, counts_checked, place_max}
use Rattle.braking.specs.Refusals.{Checked, check, ◌then◌}
use Rattle.onboard.specs.InitialTrain.{fits, train_of}
use Rattle.onboard.specs.declared.train.Train.{Train}
use Rattle.controller.specs.Steps.{silent}
use Rattle.safety.specs.State.{State, Initial}
use Rattle.onboard.specs.declared.initial_train.InitialTrain.{InitialTrain}
use Rattle.line.specs.declared.new_error.NewError.{NewError}
use Rattle.line.specs.declared.new_error.NewError.TheVariants.{Refused, NoMemory}

-- whether trains fit one behind the other, the first of them having the number and the limit: the limit of each one after it
-- is the rear of the one ahead. If not, the first that does not fit is refused
abbrev pub trains_checked : (limit number : ℕ) → List InitialTrain → Checked
trains_checked limit number [] = Ok tt
trains_checked limit number (t ∷ ts) = check (fits limit t) (NotInitial number) then trains_checked (t.front - t.length) (number + 1) ts

-- trains as they stand on the line, the first of them having the number
abbrev pub trains_of : Brakes → (number : ℕ) → List InitialTrain → List Train
trains_of b number [] = []
trains_of b number (t ∷ ts) = train_of b number t ∷ trains_of b (number + 1) ts

-- the line that is made of brakes, trains and a number of controllers: nothing was heard, and nothing sent
abbrev pub line_of : Brakes → List InitialTrain → (controllers : ℕ) → State
line_of b ts controllers = record { trains = trains_of b 0 ts; controllers = replicate controllers silent; sent = [] }

-- that line, or why no day can begin with it: brakes, counts and trains are looked at in this order
abbrev pub new_line : Brakes → List InitialTrain → (controllers : ℕ) → Result State Refusal
new_line b ts controllers =
    brakes_checked b then counts_checked (length ts) controllers then trains_checked place_max 0 ts then
    Ok (line_of b ts controllers)

-- what making a line answers; there may be no memory for it, but only where it would not be refused
abbrev pub Made : {A : Type 0} → (A → State) → Result A NewError → Brakes → List InitialTrain → (controllers : ℕ) → Type 0
Made state_of (Ok made) b ts controllers = new_line b ts controllers ≡ Ok (state_of made)
Made state_of (Err (Refused why)) b ts controllers = new_line b ts controllers ≡ Err why
Made state_of (Err NoMemory) b ts controllers = IsOk (new_line b ts controllers)

-- a train is the first with which it is no initial state: the trains ahead of it make one, with it they do not, nor do all
-- of them
pub record FirstWrong (b : Brakes) (ts : List InitialTrain) (controllers train : ℕ) : Type 0 where
  pub there : train < length ts
  pub ahead : Initial (line_of b (take train ts) controllers)
  pub with_it : Initial (line_of b (take (suc train) ts) controllers) → ⊥
  pub all : Initial (line_of b ts controllers) → ⊥
