-- What is read, as the caller's struct has it. Assumes nothing: these are definitions.
use Rattle.std.specs.Prelude.{ℕ, cond, List, [], ◌∷◌, Ok, Err, Result, ◌==◌}
use Rattle.braking.specs.declared.refusal.Refusal.{Refusal}
use Rattle.braking.specs.Refusals.{listed}
use Rattle.message.specs.declared.message.Message.{Message}
use Rattle.message.specs.Messages.{kind_of, train_of, place_of}
use Rattle.message_c.specs.declared.reading.ReadMessage.{ReadMessage}

-- a message with no refusal; or a refusal's number and place, and 0 for kind, train and place
abbrev pub read_as : Result Message Refusal → ReadMessage
read_as (Ok m) = record { refusal_number = 0; refusal_place = 0; kind = kind_of m; train = train_of m; place = place_of m }
read_as (Err why) = record { refusal_number = (listed why).0; refusal_place = (listed why).1; kind = 0; train = 0; place = 0 }

-- what a struct says, as an answer in numbers: 0 and then kind, train and place; or a refusal's number and its place
abbrev pub read_answer : ReadMessage → ℕ × List ℕ
read_answer read =
    cond (read.refusal_number == 0) (0, read.kind ∷ read.train ∷ read.place ∷ [])
    (read.refusal_number, read.refusal_place ∷ [])
