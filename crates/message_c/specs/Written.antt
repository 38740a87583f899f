-- What is asked to be written, and what is written, as the caller's struct has it. Assumes nothing: these are definitions.
use Rattle.std.specs.Prelude.{ℕ, cond, List, [], ◌∷◌, Ok, Err, Result, ◌==◌}
use Rattle.braking.specs.declared.refusal.Refusal.{Refusal}
use Rattle.braking.specs.declared.refusal.Refusal.TheVariants.{FirstByte}
use Rattle.braking.specs.Refusals.{listed}
use Rattle.message.specs.declared.message.Message.{Message}
use Rattle.message.specs.declared.message.Message.TheVariants.{Report, Grant}
use Rattle.message.specs.Numbers.{written_numbers}
use Rattle.message_c.specs.declared.writing.WrittenMessage.{WrittenMessage}

-- the message that a kind, a train and a place are; a kind that is neither 1 nor 2 is refused as that first byte is
abbrev pub message_of : (kind train place : ℕ) → Result Message Refusal
message_of kind train place =
    cond (kind == 1) (Ok (Report train place))
    (cond (kind == 2) (Ok (Grant train place))
    (Err FirstByte))

-- 12 bytes with no refusal; or a refusal's number and place, and twelve zeros
abbrev pub written_as : Result (List ℕ) Refusal → WrittenMessage
written_as (Ok bytes) = record { refusal_number = 0; refusal_place = 0; bytes = bytes }
written_as (Err why) = record { refusal_number = (listed why).0; refusal_place = (listed why).1; bytes = 0 ∷ 0 ∷ 0 ∷ 0 ∷ 0 ∷ 0 ∷ 0 ∷ 0 ∷ 0 ∷ 0 ∷ 0 ∷ 0 ∷ [] }

-- what a struct says, as an answer in numbers: 0 and then the bytes; or a refusal's number and its place
abbrev pub written_answer : WrittenMessage → ℕ × List ℕ
written_answer written =
    cond (written.refusal_number == 0) (0, written.bytes)
    (written.refusal_number, written.refusal_place ∷ [])

-- for a kind, a train and a place: row 5 for the kind, or the first row that applies to that message, or its bytes
abbrev pub write_numbers : (kind train place : ℕ) → ℕ × List ℕ
write_numbers kind train place =
    cond (kind == 1) (written_numbers (Report train place))
    (cond (kind == 2) (written_numbers (Grant train place))
    (5, 0 ∷ []))
