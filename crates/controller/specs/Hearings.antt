-- A controller after any list of hearings. Assumes nothing: these are definitions.
use Rattle.std.specs.Prelude.{◌≡◌, ℕ, ◌≤◌, ◌⊎◌, List, [], ◌∷◌, length, Ok}
use Rattle.braking.specs.Refusals.{kept}
use Rattle.braking.specs.Limits.{place_max, trains_max}
use Rattle.message.specs.declared.message.Message.{Message}
use Rattle.message.specs.declared.message.Message.TheVariants.{Report}
use Rattle.message.specs.Messages.{message_checked}
use Rattle.controller.specs.declared.controller.Controller.{Controller}
use Rattle.controller.specs.Steps.{known, after_hear}

-- the controller after it heard the messages, one after another
abbrev pub after_hearings : Controller → List Message → Controller
after_hearings c [] = c
after_hearings c (m ∷ ms) = after_hearings (kept c (after_hear c m)) ms

-- it is one of the list
abbrev pub Among : {A : Type 0} → A → List A → Type 0
Among x [] = ⊥
Among x (y ∷ ys) = (x ≡ y) ⊎ Among x ys

-- one of the messages reports the place of the train, and there can be such a report
pub record Reported (ms : List Message) (train place : ℕ) : Type 0 where
  pub among : Among (Report train place) ms
  pub can_be : message_checked (Report train place) ≡ Ok tt

-- of the place at the start and all places that the messages report of the train, this is the farthest
pub record Farthest (start train : ℕ) (ms : List Message) (place : ℕ) : Type 0 where
  pub from_start : start ≤ place
  pub from_each : (reported : ℕ) → Reported ms train reported → reported ≤ place
  pub one_of_them : (place ≡ start) ⊎ Reported ms train place

-- it has a place for each train: the type of a controller sees to it
pub record Whole (c : Controller) : Type 0 where
  pub places : length c.heard ≡ trains_max

-- no place that it knows is past the farthest that there is: hearing keeps it so
pub record InRange (c : Controller) : Type 0 where
  pub places : (train : ℕ) → known c train ≤ place_max
