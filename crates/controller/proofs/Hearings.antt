-- What a controller knows after any list of hearings. Assumes nothing.
use Rattle.std.proofs.Common.{ℕ, ◌≡◌, List, [], ◌∷◌, replicate, refl, ap, arith, get_or, length-set, get_or-set_other, get_or-set_same}
use Rattle.std.proofs.lemmas.Bool.Decides.{nat_tests}
use Rattle.std.proofs.lemmas.List.{get_or-replicate, get_or_past, length-replicate}
use Rattle.std.proofs.lemmas.Grind.{same_number_lists}
use Rattle.braking.specs.Refusals.{kept}
use Rattle.braking.specs.Limits.{trains_max}
use Rattle.message.specs.declared.message.Message.{Message}
use Rattle.controller.specs.declared.controller.Controller.{Controller}
use Rattle.controller.specs.Steps.{after_hear}
use Rattle.controller.specs.Hearings.{after_hearings, Whole}
use Rattle.controller.specs.Laws.{FarthestKnown, OrderFree, SilentInRange, SilentKnowsNothing}

whole_after : (c : Controller) (ms : List Message) → Whole c → Whole (after_hearings c ms)
whole_after c [] w = w
whole_after c (m ∷ ms) w = whole_after (kept c (after_hear c m)) ms (grind (arith, nat_tests, length-set))

pub farthest_known : FarthestKnown
farthest_known c [] train w = grind arith
farthest_known c (m ∷ ms) train w =
    let later = farthest_known (kept c (after_hear c m)) ms train (whole_after c (m ∷ []) w) in
    grind (arith, nat_tests, get_or-set_same, get_or-set_other)

-- the farthest of the same places is the same, train by train
pub order_free : OrderFree
order_free c ms ns w sub sup = ap (λ (heard : List ℕ). record { heard = heard }) (grind (arith, same_number_lists, whole_after, farthest_known))

-- said of any number of zeros, since a list of 64 would be computed
zeros : (n train : ℕ) → ◌≡◌ {A = ℕ} (get_or (replicate n 0) train 0) 0
zeros n train = grind (arith, get_or_past, get_or-replicate, length-replicate)

pub silent_knows_nothing : SilentKnowsNothing
silent_knows_nothing train = zeros trains_max train

pub silent_in_range : SilentInRange
silent_in_range = (record { places = refl }, record { places = λ train. omega (arith, silent_knows_nothing train) })
