-- What is written is read back, and only what is written is read. Assumes nothing.
use Rattle.std.proofs.Common.{◌≡◌, ℕ, ◌+◌, ◌^◌, ◌<◌, List, [], ◌∷◌, IfOk, Ok, Result, slice_index, sym, refl, arith}
use Rattle.std.proofs.lemmas.List.FromFn.{fill_by_all}
use Rattle.std.proofs.lemmas.Bool.Decides.{nat_tests}
use Rattle.braking.specs.declared.refusal.Refusal.{Refusal}
use Rattle.crc.specs.Crc.{AllBytes, crc32_of}
use Rattle.crc.proofs.Range.{none, one_more, crc32_lt}
use Rattle.message.specs.declared.message.Message.{Message}
use Rattle.message.specs.Messages.{message_checked}
use Rattle.message.specs.Bytes.{four_bytes, number_at, body, written, received}

-- a message that can be fits eight bytes, and its check four
pub body_fits : (m : Message) → message_checked m ≡ Ok tt → AllBytes (body m)
body_fits m h = search (arith, nat_tests, one_more, none)

pub check_fits : (m : Message) → message_checked m ≡ Ok tt → crc32_of (body m) < 2 ^ 32
check_fits m h = crc32_lt (body m) (body_fits m h)

-- what writing answers is read back
pub made_heard : (m : Message) (r : Result (List ℕ) Refusal) → r ≡ written m → IfOk r (λ bytes. received bytes ≡ Ok m)
made_heard m r e = grind (arith, nat_tests, check_fits m)

pub read_back : (m : Message) (bytes : List ℕ) → written m ≡ Ok bytes → received bytes ≡ Ok m
read_back m bytes e = made_heard m (Ok bytes) (sym e)

-- only a message that can be is heard
pub heard_can_be : (bytes : List ℕ) (m : Message) → received bytes ≡ Ok m → message_checked m ≡ Ok tt
heard_can_be bytes m e = grind (arith, nat_tests)

-- four bytes are what the number that they are is written as
bytes_back : (bytes : List ℕ) (at : ℕ) → AllBytes bytes →
    four_bytes (number_at bytes at) ≡ slice_index bytes at ∷ slice_index bytes (at + 1) ∷ slice_index bytes (at + 2) ∷ slice_index bytes (at + 3) ∷ []
bytes_back bytes at h = grind (arith, h.each)

pub only_written : (bytes : List ℕ) → AllBytes bytes → (m : Message) → received bytes ≡ Ok m → written m ≡ Ok bytes
only_written bytes h m e =
    let twelve = fill_by_all (slice_index bytes) bytes 12 0 (grind (arith, nat_tests)) (λ i l. refl) in
    grind (arith, nat_tests, bytes_back bytes 4 h, bytes_back bytes 8 h)
