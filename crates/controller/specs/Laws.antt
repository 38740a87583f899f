-- What is promised of every controller. Each is a statement, and stands on the contract of a function.
use Rattle.std.specs.Prelude.{◌≡◌, ℕ, ◌+◌, ◌<◌, ◌≤◌, List, [], ◌∷◌, Ok}
use Rattle.braking.specs.Refusals.{kept, done}
use Rattle.braking.specs.Limits.{train_max}
use Rattle.message.specs.declared.message.Message.{Message}
use Rattle.message.specs.declared.message.Message.TheVariants.{Report, Grant}
use Rattle.message.specs.Messages.{kind_of, train_of, place_of}
use Rattle.message.specs.Numbers.{numbers_done, numbers_message, limited}
use Rattle.controller.specs.declared.controller.Controller.{Controller}
use Rattle.controller.specs.Steps.{known, silent, after_hear, told, granted}
use Rattle.controller.specs.Hearings.{after_hearings, Among, Farthest, Whole, InRange}

-- after any list of hearings, what is known of a train is the farthest place that it heard of it, or what was known before
abbrev pub FarthestKnown : Type 0
FarthestKnown =
    (c : Controller) (ms : List Message) (train : ℕ) → Whole c →
    Farthest (known c train) train ms (known (after_hearings c ms) train)

-- neither their order counts nor how often they came: two lists of the same messages leave the same controller
abbrev pub OrderFree : Type 0
OrderFree =
    (c : Controller) (ms ns : List Message) → Whole c →
    ((m : Message) → Among m ms → Among m ns) → ((m : Message) → Among m ns → Among m ms) →
    after_hearings c ms ≡ after_hearings c ns

-- a controller that has heard nothing, as a new one and one after a restart, knows 0 of every train
abbrev pub SilentKnowsNothing : Type 0
SilentKnowsNothing = (train : ℕ) → known silent train ≡ 0

-- it is whole and in range, and hearing keeps it so
abbrev pub SilentInRange : Type 0
SilentInRange = Whole silent × InRange silent

abbrev pub InRangeStays : Type 0
InRangeStays = (c : Controller) (m : Message) → Whole c → InRange c → Whole (kept c (after_hear c m)) × InRange (kept c (after_hear c m))

-- a controller in range tells of every train, and grants by every train that can have one behind it
pub record Answers (c : Controller) : Type 0 where
  pub tells : (train : ℕ) → train ≤ train_max → told c train ≡ Ok (Report train (known c train))
  pub grants : (train : ℕ) → train < train_max → granted c train ≡ Ok (Grant (train + 1) (known c train))

abbrev pub InRangeAnswers : Type 0
InRangeAnswers = (c : Controller) → InRange c → Answers c

-- the answers in bare numbers: 0 and what is said, or the first row of the list that applies
abbrev pub HearInNumbers : Type 0
HearInNumbers = (c : Controller) (m : Message) → numbers_done (done (after_hear c m)) ≡ limited (kind_of m) (train_of m) (place_of m) []

abbrev pub TellInNumbers : Type 0
TellInNumbers =
    (c : Controller) (train : ℕ) → numbers_message (told c train) ≡ limited 1 train (known c train) (1 ∷ train ∷ known c train ∷ [])

abbrev pub GrantInNumbers : Type 0
GrantInNumbers =
    (c : Controller) (train : ℕ) → numbers_message (granted c train) ≡ limited 2 (train + 1) (known c train) (2 ∷ (train + 1) ∷ known c train ∷ [])
