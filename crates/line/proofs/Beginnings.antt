-- A line that is made is in an initial state, and what is refused could be none. Assumes nothing.
use Rattle.std.proofs.Common.{◌≡◌, ℕ, zero, suc, ◌+◌, ◌-◌, ◌<◌, ◌≤◌, Bool, true, false, List, [], ◌∷◌, length, take, drop, replicate, Ok, Err, Result, get_or, refl, subst, sym, ap, ◌∙◌, arith}
use Rattle.std.proofs.lemmas.Bool.Decides.{nat_tests}
use Rattle.std.proofs.lemmas.Grind.{common_steps}
use Rattle.std.proofs.lemmas.List.{drop_more, length-take, length-replicate}
use Rattle.braking.specs.declared.brakes.Brakes.{Brakes}
use Rattle.braking.specs.declared.refusal.Refusal.TheVariants.{NotInitial}
use Rattle.braking.specs.Refusals.{check, ◌then◌}
use Rattle.braking.specs.Limits.{brakes_checked, counts_checked, place_max}
use Rattle.braking.proofs.Checks.{passed}
use Rattle.onboard.specs.Train.{RearPast}
use Rattle.controller.specs.Steps.{silent}
use Rattle.safety.specs.State.{State, Stands, Initial, no_train}
use Rattle.safety.specs.Events.{Came}
use Rattle.safety.proofs.Safe.{all_silent}
use Rattle.line.specs.declared.new_error.NewError.{NewError}
use Rattle.line.specs.declared.new_error.NewError.TheVariants.{Refused}
use Rattle.onboard.specs.declared.initial_train.InitialTrain.{InitialTrain}
use Rattle.line.specs.Initial.{FirstWrong, Made, trains_checked, trains_of, line_of, new_line}
use Rattle.onboard.specs.InitialTrain.{fits}

-- one train more fits
pub checked_more : (limit train : ℕ) (ts : List InitialTrain) (d : InitialTrain) → train < length ts → fits limit (get_or ts train d) ≡ true →
    trains_checked limit train (drop train ts) ≡ trains_checked ((get_or ts train d).front - (get_or ts train d).length) (train + 1) (drop (train + 1) ts)
checked_more limit train ts d l f = ap (trains_checked limit train) (drop_more ts train d l) ∙ grind (arith, nat_tests)

-- a list of trains that fit: the first does, and so do the others behind it
first_fits : (limit train : ℕ) (t : InitialTrain) (ts : List InitialTrain) → trains_checked limit train (t ∷ ts) ≡ Ok tt →
    (fits limit t ≡ true) × (trains_checked (t.front - t.length) (train + 1) ts ≡ Ok tt)
first_fits limit train t ts f = grind (arith, nat_tests)

all_stand : (b : Brakes) (limit train : ℕ) (ts : List InitialTrain) → brakes_checked b ≡ Ok tt → limit ≤ place_max →
    trains_checked limit train ts ≡ Ok tt →
    (i : ℕ) → Stands (get_or (trains_of b train ts) i no_train)
all_stand b limit train [] hb l f i = record { speed = refl; brakes = refl; on_line = omega arith; low = omega arith; high = omega arith; end = omega arith; limit = omega arith }
all_stand b limit train (t ∷ ts) hb l f zero = grind (arith, nat_tests, first_fits limit train t ts f)
all_stand b limit train (t ∷ ts) hb l f (suc i) =
    let fit = first_fits limit train t ts f in
    all_stand b (t.front - t.length) (train + 1) ts hb (grind (arith, nat_tests, fit)) fit.1 i

all_apart : (b : Brakes) (limit train : ℕ) (ts : List InitialTrain) → trains_checked limit train ts ≡ Ok tt →
    (i : ℕ) → RearPast (get_or (trains_of b train ts) i no_train) (get_or (trains_of b train ts) (suc i) no_train).unit.end
all_apart b limit train [] f i = record { clear = omega arith }
all_apart b limit train (t ∷ []) f zero = grind (arith, nat_tests, first_fits limit train t [] f)
all_apart b limit train (t ∷ u ∷ ts) f zero =
    let fit = first_fits limit train t (u ∷ ts) f in
    let next = first_fits (t.front - t.length) (train + 1) u ts fit.1 in
    grind (arith, nat_tests)
all_apart b limit train (t ∷ ts) f (suc i) = all_apart b (t.front - t.length) (train + 1) ts (first_fits limit train t ts f).1 i

all_numbered : (b : Brakes) (train : ℕ) (ts : List InitialTrain) (i : ℕ) → i < length (trains_of b train ts) →
    (get_or (trains_of b train ts) i no_train).unit.train ≡ train + i
all_numbered b train [] i l = absurd (omega arith)
all_numbered b train (t ∷ ts) zero l = omega arith
all_numbered b train (t ∷ ts) (suc i) l = omega (arith, all_numbered b (train + 1) ts i (omega arith))

length-trains_of : (b : Brakes) (train : ℕ) (ts : List InitialTrain) → length (trains_of b train ts) ≡ length ts
length-trains_of b train [] = refl
length-trains_of b train (t ∷ ts) = ap suc (length-trains_of b (train + 1) ts)

-- trains that fit make an initial state
checked_initial : (b : Brakes) (ts : List InitialTrain) (controllers : ℕ) → brakes_checked b ≡ Ok tt →
    counts_checked (length ts) controllers ≡ Ok tt →
    trains_checked place_max 0 ts ≡ Ok tt → Initial (line_of b ts controllers)
checked_initial b ts controllers hb hc f = record {
  counts = subst (λ (n : ℕ). counts_checked n (length (replicate controllers silent)) ≡ Ok tt) (sym (length-trains_of b 0 ts))
      (subst (λ (n : ℕ). counts_checked (length ts) n ≡ Ok tt) (sym (length-replicate controllers silent)) hc);
  numbered = λ i l. omega (arith, all_numbered b 0 ts i l);
  stands = all_stand b place_max 0 ts hb (omega arith) f;
  apart = all_apart b place_max 0 ts f;
  silent = all_silent controllers;
  nothing_sent = refl;
}

-- what has to pass for there to be a line
new_parts : (b : Brakes) (ts : List InitialTrain) (controllers : ℕ) (s : State) → new_line b ts controllers ≡ Ok s →
    (brakes_checked b ≡ Ok tt) × (counts_checked (length ts) controllers ≡ Ok tt) × (trains_checked place_max 0 ts ≡ Ok tt) × (line_of b ts controllers ≡ s)
new_parts b ts controllers s e =
    let first = passed (brakes_checked b) _ s e in
    let second = passed (counts_checked (length ts) controllers) _ s first.1 in
    let third = passed (trains_checked place_max 0 ts) (Ok (line_of b ts controllers)) s second.1 in
    (first.0, second.0, third.0, grind (arith, third.1))

came_initial : (s : State) → Initial s → Came s
came_initial s i = record { first = s; events = []; initial = i; can_be = tt; is = refl }

pub new_initial : (b : Brakes) (ts : List InitialTrain) (controllers : ℕ) (s : State) → new_line b ts controllers ≡ Ok s → Initial s
new_initial b ts controllers s e =
    let parts = new_parts b ts controllers s e in
    subst Initial parts.3 (checked_initial b ts controllers parts.0 parts.1 parts.2)

pub new_came : (b : Brakes) (ts : List InitialTrain) (controllers : ℕ) (s : State) → new_line b ts controllers ≡ Ok s → ∥ Came s ∥₁
new_came b ts controllers s e = grind (arith, common_steps, came_initial s (new_initial b ts controllers s e))

-- and an initial state has trains that fit
initial_checked : (b : Brakes) (limit train : ℕ) (ts : List InitialTrain) → ((i : ℕ) → Stands (get_or (trains_of b train ts) i no_train)) →
    ((i : ℕ) → RearPast (get_or (trains_of b train ts) i no_train) (get_or (trains_of b train ts) (suc i) no_train).unit.end) →
    (get_or (trains_of b train ts) 0 no_train).unit.end ≤ limit → trains_checked limit train ts ≡ Ok tt
initial_checked b limit train [] stands apart first = refl
initial_checked b limit train (t ∷ ts) stands apart first =
    let rest = initial_checked b (t.front - t.length) (train + 1) ts (λ i. stands (suc i)) (λ i. apart (suc i)) (omega (arith, apart 0)) in
    grind (arith, nat_tests, stands 0)

line_checked : (b : Brakes) (ts : List InitialTrain) (controllers : ℕ) → Initial (line_of b ts controllers) →
    trains_checked place_max 0 ts ≡ Ok tt
line_checked b ts controllers i = initial_checked b place_max 0 ts i.stands i.apart (i.stands 0).limit

-- where a train is refused, the trains ahead of it fit, and with it they do not
record WrongAt (limit first train : ℕ) (ts : List InitialTrain) : Type 0 where
  pub ahead : ℕ
  pub number : train ≡ first + ahead
  pub there : ahead < length ts
  pub fit : trains_checked limit first (take ahead ts) ≡ Ok tt
  pub with_it : trains_checked limit first (take (suc ahead) ts) ≡ Err (NotInitial train)

wrong_first : (limit first train : ℕ) (t : InitialTrain) (ts : List InitialTrain) (fit : Bool) → fits limit t ≡ fit →
    (check fit (NotInitial first) then trains_checked (t.front - t.length) (first + 1) ts) ≡ Err (NotInitial train) →
    (trains_checked (t.front - t.length) (first + 1) ts ≡ Err (NotInitial train) → WrongAt (t.front - t.length) (first + 1) train ts) →
    WrongAt limit first train (t ∷ ts)
wrong_first limit first train t ts true q e rest =
    let w = rest e in
    record {
      ahead = suc w.ahead;
      number = omega (arith, w.number);
      there = omega (arith, w.there);
      fit = grind (arith, q, w.fit);
      with_it = grind (arith, q, w.with_it);
    }
wrong_first limit first train t ts false q e rest = record { ahead = 0; number = grind (arith, e); there = omega arith; fit = refl; with_it = grind (arith, q, e) }

wrong_at : (limit first train : ℕ) (ts : List InitialTrain) → trains_checked limit first ts ≡ Err (NotInitial train) →
    WrongAt limit first train ts
wrong_at limit first train [] e = grind (arith, e)
wrong_at limit first train (t ∷ ts) e = wrong_first limit first train t ts (fits limit t) refl e (wrong_at (t.front - t.length) (first + 1) train ts)

refused_parts : (b : Brakes) (ts : List InitialTrain) (controllers train : ℕ) → new_line b ts controllers ≡ Err (NotInitial train) →
    (brakes_checked b ≡ Ok tt) × (counts_checked (length ts) controllers ≡ Ok tt) × (trains_checked place_max 0 ts ≡ Err (NotInitial train))
refused_parts b ts controllers train e = grind (arith, e)

pub refused_first : (b : Brakes) (ts : List InitialTrain) (controllers train : ℕ) →
    new_line b ts controllers ≡ Err (NotInitial train) → FirstWrong b ts controllers train
refused_first b ts controllers train e =
    let parts = refused_parts b ts controllers train e in
    let w = wrong_at place_max 0 train ts parts.2 in
    let here : w.ahead ≡ train = omega (arith, w.number) in
    let fit = subst (λ (n : ℕ). trains_checked place_max 0 (take n ts) ≡ Ok tt) here w.fit in
    let wrong = subst (λ (n : ℕ). trains_checked place_max 0 (take (suc n) ts) ≡ Err (NotInitial train)) here w.with_it in
    record {
      there = omega (arith, w.number, w.there);
      ahead = checked_initial b (take train ts) controllers parts.0 (grind (arith, nat_tests, length-take, parts.1)) fit;
      with_it = λ i. grind (arith, line_checked b (take (suc train) ts) controllers i, wrong);
      all = λ i. grind (arith, line_checked b ts controllers i, parts.2);
    }

pub made_first : {A : Type 0} (state_of : A → State) (r : Result A NewError) (b : Brakes) (ts : List InitialTrain) (controllers train : ℕ) →
    Made state_of r b ts controllers → r ≡ Err (Refused (NotInitial train)) → FirstWrong b ts controllers train
made_first state_of r b ts controllers train m e = refused_first b ts controllers train (subst (λ (x : Result _ NewError). Made state_of x b ts controllers) e m)
