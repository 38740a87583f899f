-- What is promised of the definitions of reading and writing, beyond the contracts of read and write.
-- It is a statement, and stands on the contract of a function.
use Rattle.std.specs.Prelude.{◌≡◌, ℕ, List, Ok}
use Rattle.crc.specs.Crc.{AllBytes}
use Rattle.message.specs.declared.message.Message.{Message}
use Rattle.message.specs.Bytes.{received}

-- no two strings of bytes are heard as one message
abbrev pub NoTwo : Type 0
NoTwo = (a b : List ℕ) (m : Message) → AllBytes a → AllBytes b → received a ≡ Ok m → received b ≡ Ok m → a ≡ b
