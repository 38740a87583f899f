-- The lines of a head of which a line can be made. Assumes nothing.
use Rattle.std.proofs.Common.{◌≡◌, ℕ, ◌+◌, ◌-◌, ◌≤◌, false, List, [], ◌∷◌, ◌++◌, length, map, Ok, arith, refl, ap}
use Rattle.std.specs.List.{AllByRecursion, fold, filter_map}
use Rattle.std.proofs.lemmas.Bool.Decides.{nat_tests}
use Rattle.braking.specs.declared.brakes.Brakes.{Brakes}
use Rattle.braking.specs.Limits.{brakes_checked, counts_checked, place_max}
use Rattle.onboard.specs.declared.initial_train.InitialTrain.{InitialTrain}
use Rattle.line.specs.Initial.{trains_checked, line_of, new_line}
use Rattle.scenario.specs.declared.entry.HeadLine.{HeadLine}
use Rattle.scenario.specs.declared.entry.HeadLine.TheVariants as heads
use Rattle.scenario.specs.Heads.{train_of, with_brakes, with_controllers}
use Rattle.scenario.specs.Lines.{HeadFits}
use Rattle.scenario.specs.Laws.{NoDoubles}
use Rattle.scenario.specs.Texts.{is_double}
use Rattle.random.specs.declared.day.Extent.{Extent}
use Rattle.random.specs.Days.{Begins}
use Rattle.random.proofs.Trains.{first_fits}

-- brake, blur, controllers, and then the trains by number
abbrev pub head_lines : (brake blur controllers : ℕ) → List InitialTrain → List HeadLine
head_lines brake blur controllers trains = heads.Brake brake ∷ heads.Blur blur ∷ heads.Controllers controllers ∷ map heads.Train trains

same_brakes : (brakes : Brakes) (ts : List InitialTrain) → fold with_brakes brakes (map heads.Train ts) ≡ brakes
same_brakes brakes [] = refl
same_brakes brakes (t ∷ ts) = same_brakes brakes ts

same_controllers : (n : ℕ) (ts : List InitialTrain) → fold with_controllers n (map heads.Train ts) ≡ n
same_controllers n [] = refl
same_controllers n (t ∷ ts) = same_controllers n ts

same_trains : (ts : List InitialTrain) → filter_map train_of (map heads.Train ts) ≡ ts
same_trains [] = refl
same_trains (t ∷ ts) = ap (λ us. t ∷ us) (same_trains ts)

trains_fit : (limit n : ℕ) (ts : List InitialTrain) → limit ≤ place_max → trains_checked limit n ts ≡ Ok tt → AllByRecursion HeadFits (map heads.Train ts)
trains_fit limit n [] l ok = tt
trains_fit limit n (t ∷ ts) l ok =
    let first = first_fits limit n t ts ok in
    (grind (arith, nat_tests, first.0), trains_fit (t.front - t.length) (n + 1) ts (grind (arith, nat_tests, first.0)) first.1)

no_train_twice : (before : List HeadLine) (t : InitialTrain) → is_double before (heads.Train t) ≡ false
no_train_twice [] t = refl
no_train_twice (heads.Brake brake ∷ before) t = no_train_twice before t
no_train_twice (heads.Blur blur ∷ before) t = no_train_twice before t
no_train_twice (heads.Controllers controllers ∷ before) t = no_train_twice before t
no_train_twice (heads.Train train ∷ before) t = no_train_twice before t

trains_once : (before : List HeadLine) (ts : List InitialTrain) → NoDoubles before (map heads.Train ts)
trains_once before [] = tt
trains_once before (t ∷ ts) = (no_train_twice before t, trains_once (before ++ heads.Train t ∷ []) ts)

can_be_made : (b : Brakes) (ts : List InitialTrain) (controllers : ℕ) → brakes_checked b ≡ Ok tt → counts_checked (length ts) controllers ≡ Ok tt →
    trains_checked place_max 0 ts ≡ Ok tt → new_line b ts controllers ≡ Ok (line_of b ts controllers)
can_be_made b ts controllers brakes counts trains = rw brakes (rw counts (rw trains refl))

pub head_begins : (extent : Extent) (brake blur controllers : ℕ) (ts : List InitialTrain) →
    1 ≤ brake → brake ≤ 100 → blur ≤ 100 →
    controllers ≤ 8 → controllers ≤ extent.controllers → length ts ≤ 64 → length ts ≤ extent.trains → trains_checked place_max 0 ts ≡ Ok tt →
    Begins extent (head_lines brake blur controllers ts)
head_begins extent brake blur controllers ts low high blurred few fewer trains less stand =
    let b : Brakes = record { brake = brake; blur = blur } in
    record {
      first = line_of b ts controllers;
      made = rw (same_brakes b ts) (rw (same_controllers controllers ts) (rw (same_trains ts)
          (can_be_made b ts controllers (grind (arith, nat_tests)) (grind (arith, nat_tests)) stand)));
      trains = rw (same_trains ts) less;
      controllers = rw (same_controllers controllers ts) fewer;
      fits = (omega arith, (omega arith, (omega arith, trains_fit place_max 0 ts (omega arith) stand)));
      once = (refl, (refl, (refl, trains_once _ ts)));
    }
