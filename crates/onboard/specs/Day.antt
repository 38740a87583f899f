-- A day of a train, worked out by hand. Assumes nothing: these are definitions.
use Rattle.std.specs.Prelude.{◌≡◌, ℕ, List, [], ◌∷◌, Some, None, Option, Ok, Result}
use Rattle.braking.specs.declared.refusal.Refusal.{Refusal}
use Rattle.onboard.specs.declared.train.Train.{Train}
use Rattle.onboard.specs.declared.word.Word.{Word}
use Rattle.onboard.specs.declared.word.Word.TheVariants.{Drive, Brake}
use Rattle.onboard.specs.Steps.{asked}
use Rattle.onboard.specs.Train.{Event, tick, mark, take, fastest, after}

-- the unit's answer to its driver at an event; only in a tick the driver wishes anything
abbrev pub word_at : Train → Event → Option (Result Word Refusal)
word_at t (tick wish speed) = Some (asked t.unit wish)
word_at t mark = None
word_at t (take grant) = None

-- what is seen of an event: the word, and then front, speed, low, high and end after it
pub record Seen : Type 0 where
  pub word : Option (Result Word Refusal)
  pub front : ℕ
  pub speed : ℕ
  pub low : ℕ
  pub high : ℕ
  pub end : ℕ

-- a row of the table at the end of this file
abbrev pub row : Option (Result Word Refusal) → (front speed low high end : ℕ) → Seen
row word front speed low high end = record { word = word; front = front; speed = speed; low = low; high = high; end = end }

-- the row of one event
abbrev pub seen_at : Train → Event → Seen
seen_at t e = row (word_at t e) (after t e).front (after t e).unit.speed (after t e).unit.low (after t e).unit.high (after t e).unit.end

-- what is seen of a list of events, one after another
abbrev pub seen : Train → List Event → List Seen
seen t [] = []
seen t (e ∷ es) = seen_at t e ∷ seen (after t e) es

-- each tick has the highest speed that it can
abbrev pub AtTheFastest : Train → List Event → Type 0
AtTheFastest t [] = Unit {0}
AtTheFastest t (tick wish speed ∷ es) = (speed ≡ fastest t.unit wish) × AtTheFastest (after t (tick wish speed)) es
AtTheFastest t (mark ∷ es) = AtTheFastest (after t mark) es
AtTheFastest t (take grant ∷ es) = AtTheFastest (after t (take grant)) es

-- the second train of a line with brake 3 and blur 1, as its day begins, and what happens to it
abbrev pub second_train : Train
second_train = record { front = 380; unit = record { train = 1; brakes = record { brake = 3; blur = 1 }; length = 80; speed = 0; low = 380; high = 380; end = 398 } }

abbrev pub its_day : List Event
its_day = tick 5 5 ∷ tick 7 2 ∷ tick 4 4 ∷ take (record { train = 1; place = 438 }) ∷ tick 4 4 ∷ tick 8 8 ∷ tick 12 5 ∷ []

-- what is seen of its day
abbrev pub WorkedDay : Type 0
WorkedDay =
    (seen second_train its_day
    ≡ row (Some (Ok Drive)) 385 5 384 386 398
    ∷ row (Some (Ok Brake)) 387 2 385 389 398
    ∷ row (Some (Ok Drive)) 391 4 388 394 398
    ∷ row None 391 4 388 394 438
    ∷ row (Some (Ok Drive)) 395 4 391 399 438
    ∷ row (Some (Ok Drive)) 403 8 398 408 438
    ∷ row (Some (Ok Brake)) 408 5 402 414 438
    ∷ [])
    × AtTheFastest second_train its_day
