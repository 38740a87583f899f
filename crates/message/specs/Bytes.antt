-- A message as 12 bytes: its kind, its train, 0, 0, its place in four bytes, and the check of these eight in four bytes.
-- Assumes nothing: these are definitions.
use Rattle.std.specs.Prelude.{ℕ, ◌+◌, ◌*◌, ◌/◌, ◌%◌, cond, ◌||◌, List, [], ◌∷◌, ◌++◌, length, take, Ok, Result, ◌==◌, slice_index}
use Rattle.braking.specs.declared.refusal.Refusal.{Refusal}
use Rattle.braking.specs.declared.refusal.Refusal.TheVariants.{MessageLength, MessageCheck, FirstByte, ThirdByte, FourthByte}
use Rattle.braking.specs.Refusals.{check, ◌then◌}
use Rattle.crc.specs.Crc.{crc32_of}
use Rattle.message.specs.declared.message.Message.{Message}
use Rattle.message.specs.declared.message.Message.TheVariants.{Report, Grant}
use Rattle.message.specs.Messages.{kind_of, train_of, place_of, message_checked}

-- a number in four bytes, low byte first
abbrev pub four_bytes : ℕ → List ℕ
four_bytes n = (n % 256) ∷ (n / 256 % 256) ∷ (n / 65536 % 256) ∷ (n / 16777216 % 256) ∷ []

-- the number that the four bytes from an index on are, low byte first
abbrev pub number_at : List ℕ → ℕ → ℕ
number_at bytes at = slice_index bytes at + slice_index bytes (at + 1) * 256 + slice_index bytes (at + 2) * 65536 + slice_index bytes (at + 3) * 16777216

-- the first eight bytes
abbrev pub body : Message → List ℕ
body m = kind_of m ∷ train_of m ∷ 0 ∷ 0 ∷ four_bytes (place_of m)

-- bytes, and their check after them
abbrev pub with_check : List ℕ → List ℕ
with_check bytes = bytes ++ four_bytes (crc32_of bytes)

-- the bytes of a message, or why there is no such message
abbrev pub written : Message → Result (List ℕ) Refusal
written m = message_checked m then Ok (with_check (body m))

-- the message in bytes whose first byte is 1 or 2
abbrev pub message_in : List ℕ → Message
message_in bytes = cond (slice_index bytes 0 == 1) (Report (slice_index bytes 1) (number_at bytes 4)) (Grant (slice_index bytes 1) (number_at bytes 4))

-- the message that is heard in bytes, or the first reason why they are turned away
abbrev pub received : List ℕ → Result Message Refusal
received bytes =
    check (length bytes == 12) (MessageLength (length bytes)) then
    check (number_at bytes 8 == crc32_of (take 8 bytes)) MessageCheck then
    check (slice_index bytes 0 == 1 || slice_index bytes 0 == 2) FirstByte then
    check (slice_index bytes 2 == 0) ThirdByte then
    check (slice_index bytes 3 == 0) FourthByte then
    message_checked (message_in bytes) then
    Ok (message_in bytes)
