-- A day of two trains, worked out by hand. Assumes nothing: these are definitions.
use Rattle.std.specs.Prelude.{◌≡◌, ℕ, List, [], ◌∷◌, Some, None, Option, Ok, Result}
use Rattle.braking.specs.declared.brakes.Brakes.{Brakes}
use Rattle.braking.specs.declared.refusal.Refusal.{Refusal}
use Rattle.onboard.specs.declared.word.Word.{Word}
use Rattle.onboard.specs.declared.word.Word.TheVariants.{Drive, Brake}
use Rattle.onboard.specs.Steps.{asked}
use Rattle.onboard.specs.Train.{fastest}
use Rattle.controller.specs.Steps.{silent, with_report}
use Rattle.safety.specs.declared.event.Event.{Event}
use Rattle.safety.specs.declared.event.Event.TheVariants.{Tick, Report, Hear, Grant, Take}
use Rattle.safety.specs.State.{State, train_at, Initial}
use Rattle.safety.specs.Events.{after_event, CanBe}

-- the unit's answer to its driver at an event; only in a tick the driver wishes anything
abbrev pub word_at : State → Event → Option (Result Word Refusal)
word_at s (Tick train wish speed) = Some (asked (train_at s train).unit wish)
word_at s _ = None

-- the word at each event of a list, and the state after it
abbrev pub course : State → List Event → List (Option (Result Word Refusal) × State)
course s [] = []
course s (e ∷ es) = (word_at s e, after_event s e) ∷ course (after_event s e) es

-- each tick has the highest speed that it can
abbrev pub Fastest : State → Event → Type 0
Fastest s (Tick train wish speed) = speed ≡ fastest (train_at s train).unit wish
Fastest s _ = Unit {0}

abbrev pub AtTheFastest : State → List Event → Type 0
AtTheFastest s [] = Unit {0}
AtTheFastest s (e ∷ es) = Fastest s e × AtTheFastest (after_event s e) es

-- what changes of a train during this day
pub record Places : Type 0 where
  pub front : ℕ
  pub speed : ℕ
  pub low : ℕ
  pub high : ℕ
  pub end : ℕ

abbrev pub at : (front speed low high end : ℕ) → Places
at front speed low high end = record { front = front; speed = speed; low = low; high = high; end = end }

-- with brake 3 and blur 1
abbrev pub brakes : Brakes
brakes = record { brake = 3; blur = 1 }

-- a line of two trains, the first of length 100 and the second of length 80, and of eight controllers, of which number 2 knows
-- a place of train 0, and the others nothing
abbrev pub line_at : (first second : Places) → (known : ℕ) → (sent : List (List ℕ)) → State
line_at first second known sent = record {
  trains =
      record { front = first.front; unit = record { train = 0; brakes = brakes; length = 100; speed = first.speed; low = first.low; high = first.high; end = first.end } }
      ∷ record { front = second.front; unit = record { train = 1; brakes = brakes; length = 80; speed = second.speed; low = second.low; high = second.high; end = second.end } }
      ∷ [];
  controllers = silent ∷ silent ∷ with_report silent 0 known ∷ silent ∷ silent ∷ silent ∷ silent ∷ silent ∷ [];
  sent = sent;
}

-- as the day begins, and what happens
abbrev pub morning : State
morning = line_at (at 500 0 500 500 2000) (at 380 0 380 380 398) 0 []

abbrev pub its_day : List Event
its_day =
    Tick 1 5 5 ∷ Tick 1 7 2 ∷ Tick 1 4 4 ∷ Tick 0 20 20 ∷ Tick 0 20 20
    ∷ Report 0 ∷ Hear 2 0 ∷ Grant 2 0 ∷ Take 1
    ∷ Tick 1 4 4 ∷ Tick 1 8 8 ∷ Tick 1 12 5 ∷ []

-- the report that the rear of train 0 is not behind 438, and the grant that train 1 may go to 438, in their bytes
abbrev pub report_438 : List ℕ
report_438 = 1 ∷ 0 ∷ 0 ∷ 0 ∷ 182 ∷ 1 ∷ 0 ∷ 0 ∷ 134 ∷ 164 ∷ 83 ∷ 144 ∷ []

abbrev pub grant_438 : List ℕ
grant_438 = 2 ∷ 1 ∷ 0 ∷ 0 ∷ 182 ∷ 1 ∷ 0 ∷ 0 ∷ 209 ∷ 168 ∷ 171 ∷ 184 ∷ []

-- the course of the day: from an initial state, by events that can be, each tick at the highest speed that it can have
pub record WorkedDay : Type 0 where
  pub initial : Initial morning
  pub can_be : CanBe morning its_day
  pub at_the_fastest : AtTheFastest morning its_day
  pub course : course morning its_day
      ≡ (Some (Ok Drive), line_at (at 500 0 500 500 2000) (at 385 5 384 386 398) 0 [])
      ∷ (Some (Ok Brake), line_at (at 500 0 500 500 2000) (at 387 2 385 389 398) 0 [])
      ∷ (Some (Ok Drive), line_at (at 500 0 500 500 2000) (at 391 4 388 394 398) 0 [])
      ∷ (Some (Ok Drive), line_at (at 520 20 519 521 2000) (at 391 4 388 394 398) 0 [])
      ∷ (Some (Ok Drive), line_at (at 540 20 538 542 2000) (at 391 4 388 394 398) 0 [])
      ∷ (None, line_at (at 540 20 538 542 2000) (at 391 4 388 394 398) 0 (report_438 ∷ []))
      ∷ (None, line_at (at 540 20 538 542 2000) (at 391 4 388 394 398) 438 (report_438 ∷ []))
      ∷ (None, line_at (at 540 20 538 542 2000) (at 391 4 388 394 398) 438 (report_438 ∷ grant_438 ∷ []))
      ∷ (None, line_at (at 540 20 538 542 2000) (at 391 4 388 394 438) 438 (report_438 ∷ grant_438 ∷ []))
      ∷ (Some (Ok Drive), line_at (at 540 20 538 542 2000) (at 395 4 391 399 438) 438 (report_438 ∷ grant_438 ∷ []))
      ∷ (Some (Ok Drive), line_at (at 540 20 538 542 2000) (at 403 8 398 408 438) 438 (report_438 ∷ grant_438 ∷ []))
      ∷ (Some (Ok Brake), line_at (at 540 20 538 542 2000) (at 408 5 402 414 438) 438 (report_438 ∷ grant_438 ∷ []))
      ∷ []
