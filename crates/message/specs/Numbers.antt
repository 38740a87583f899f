-- What is read, written and answered, in the numbers of the format and of the list of refusals alone. Assumes nothing: these are definitions.
use Rattle.std.specs.Prelude.{ℕ, cond, not, ◌&&◌, ◌||◌, List, [], ◌∷◌, length, take, Ok, Err, Result, ◌==◌, nat_lt, slice_index}
use Rattle.braking.specs.declared.refusal.Refusal.{Refusal}
use Rattle.braking.specs.Refusals.{Checked, listed}
use Rattle.braking.specs.Limits.{train_max, place_max}
use Rattle.crc.specs.Crc.{crc32_of}
use Rattle.message.specs.declared.message.Message.{Message}
use Rattle.message.specs.Messages.{kind_of, train_of, place_of}
use Rattle.message.specs.Bytes.{number_at, body, with_check}

-- an answer in numbers: 0 and then what it says; or a refusal's number in the list, and its place
abbrev pub in_numbers : {A : Type 0} → (A → List ℕ) → Result A Refusal → ℕ × List ℕ
in_numbers says (Ok x) = (0, says x)
in_numbers says (Err why) = ((listed why).0, (listed why).1 ∷ [])

-- that of a step that is done or refused
abbrev pub numbers_done : Checked → ℕ × List ℕ
numbers_done = in_numbers (λ x. [])

-- of a message, heard or to be sent: its kind, its train and its place
abbrev pub numbers_message : Result Message Refusal → ℕ × List ℕ
numbers_message = in_numbers (λ m. kind_of m ∷ train_of m ∷ place_of m ∷ [])

-- and of bytes
abbrev pub numbers_written : Result (List ℕ) Refusal → ℕ × List ℕ
numbers_written = in_numbers (λ bytes. bytes)

-- rows 6 and 3 of the list, for a kind, a train and a place; if neither applies, 0 and what there is to say
abbrev pub limited : (kind train place : ℕ) → List ℕ → ℕ × List ℕ
limited kind train place said =
    cond (nat_lt train_max train || (kind == 2 && train == 0)) (6, 1 ∷ [])
    (cond (nat_lt place_max place) (3, 0 ∷ [])
    (0, said))

-- for a message, the first row that applies, or its bytes
abbrev pub written_numbers : Message → ℕ × List ℕ
written_numbers m = limited (kind_of m) (train_of m) (place_of m) (with_check (body m))

-- for bytes, the first row that applies, 4 and 5 before 6 and 3, or kind, train and place
abbrev pub read_numbers : List ℕ → ℕ × List ℕ
read_numbers bytes =
    cond (not (length bytes == 12)) (4, length bytes ∷ [])
    (cond (not (number_at bytes 8 == crc32_of (take 8 bytes))) (4, 8 ∷ [])
    (cond (not (slice_index bytes 0 == 1 || slice_index bytes 0 == 2)) (5, 0 ∷ [])
    (cond (not (slice_index bytes 2 == 0)) (5, 2 ∷ [])
    (cond (not (slice_index bytes 3 == 0)) (5, 3 ∷ [])
    (limited (slice_index bytes 0) (slice_index bytes 1) (number_at bytes 4) (slice_index bytes 0 ∷ slice_index bytes 1 ∷ number_at bytes 4 ∷ []))))))
