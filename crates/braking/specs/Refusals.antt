-- The list of refusals, how checks that follow one another answer, and what a step that may refuse leaves. Assumes nothing:
-- these are definitions.
use Rattle.std.specs.Prelude.{ℕ, Bool, true, false, Ok, Err, Result}
use Rattle.braking.specs.declared.refusal.Refusal.{Refusal}
use Rattle.braking.specs.declared.refusal.Refusal.TheVariants.{BrakeRange, BlurRange, SpeedTooHigh, PlaceTooFar, MessageLength, MessageCheck, FirstByte, ThirdByte, FourthByte, TrainTooHigh, GrantToForemost, OtherTrain, TooManyTrains, TooManyControllers, NotInitial, Impossible}

-- each reason's number in the list, and its place, counted from 0: which of two numbers, which byte of a message,
-- how many bytes, which train, which line
abbrev pub listed : Refusal → ℕ × ℕ
listed BrakeRange = (1, 0)
listed BlurRange = (1, 1)
listed SpeedTooHigh = (2, 0)
listed PlaceTooFar = (3, 0)
listed (MessageLength length) = (4, length)
listed MessageCheck = (4, 8)
listed FirstByte = (5, 0)
listed ThirdByte = (5, 2)
listed FourthByte = (5, 3)
listed TrainTooHigh = (6, 1)
listed GrantToForemost = (6, 1)
listed (OtherTrain train) = (7, train)
listed TooManyTrains = (8, 0)
listed TooManyControllers = (8, 1)
listed (NotInitial train) = (9, train)
listed (Impossible line) = (10, line)

-- what a check answers: nothing to say, or why it refuses
abbrev pub Checked : Type 0
Checked = Result (Unit {0}) Refusal

-- a check passes where its test holds, and else refuses
abbrev pub check : Bool → Refusal → Checked
check true why = Ok tt
check false why = Err why

-- a check, and then what follows it: the first refusal is the answer
infixr 20 ◌then◌
abbrev pub ◌then◌ : {A : Type 0} → Checked → Result A Refusal → Result A Refusal
◌then◌ (Ok x) rest = rest
◌then◌ (Err why) rest = Err why

-- an answer, and then what is made of it: a refusal is passed on
abbrev pub and_then : {A B : Type 0} → Result A Refusal → (A → Result B Refusal) → Result B Refusal
and_then (Ok x) rest = rest x
and_then (Err why) rest = Err why

-- the state after a step: what the step makes of it, or as it was where the step refuses
abbrev pub kept : {A : Type 0} → A → Result A Refusal → A
kept s (Ok next) = next
kept s (Err why) = s

-- what such a step answers: done, or why it refuses
abbrev pub done : {A : Type 0} → Result A Refusal → Checked
done (Ok next) = Ok tt
done (Err why) = Err why
