-- Few changed bits are found by the check. Assumes nothing.
use Rattle.std.proofs.Common.{◌≡◌, ◌≢◌, ℕ, ◌+◌, ◌*◌, ◌^◌, List, [], ◌∷◌, length, take, IfOk, Ok, Err, slice_index, refl, sym, ap, ap₂, subst, ◌∙◌, length-take, arith}
use Rattle.std.specs.Prelude.{count_ones}
use Rattle.std.specs.Int.Bits.{bit_xor, xor_self}
use Rattle.std.proofs.lemmas.List.FromFn.{fill_by_all}
use Rattle.std.proofs.lemmas.Bool.Decides.{nat_tests}
use Rattle.std.proofs.lemmas.Nat.{ones-le, ones_cat, xor_block, xor_lt}
use Rattle.braking.specs.Refusals.{Checked, ◌then◌}
use Rattle.crc.specs.Crc.{AllBytes, all_ones, after_bits, crc32_of}
use Rattle.crc.proofs.Linear.{bits_xor}
use Rattle.crc.proofs.Numbers.{number, number_lt, left_of_checked}
use Rattle.crc.proofs.Range.{none, one_more, one_fewer, append_bytes, take_bytes}
use Rattle.detection.proofs.Few.{few_bits_found}
use Rattle.message.specs.declared.message.Message.{Message}
use Rattle.message.specs.Messages.{message_checked}
use Rattle.message.specs.Bytes.{four_bytes, number_at, body, with_check, written}
use Rattle.message.specs.Changes.{bits_changed, FewBitsChanged, FewChangesFound}
use Rattle.message.proofs.RoundTrip.{body_fits, check_fits}

-- two strings of bytes differ in as many bits as the numbers that they are
changed_number : (sent came : List ℕ) → length sent ≡ length came → AllBytes sent → AllBytes came → count_ones (bit_xor (number sent) (number came)) ≡ bits_changed sent came
unfolding number
changed_number [] [] l a b = omega (arith, ones-le 0 0 (omega arith))
changed_number [] (other ∷ came) l a b = absurd (omega arith)
changed_number (byte ∷ sent) [] l a b = absurd (omega arith)
changed_number (byte ∷ sent) (other ∷ came) l a b =
    let rest = changed_number sent came (omega arith) (one_fewer a) (one_fewer b) in
    ap count_ones (xor_block 8 (number sent) (number came) byte other (a.each 0) (b.each 0))
    ∙ ones_cat 8 (bit_xor (number sent) (number came)) (bit_xor byte other) (xor_lt 8 byte other (a.each 0) (b.each 0)) ∙ omega (arith, rest)

-- 12 bytes whose last four are the check of the others
record RightCheck (bytes : List ℕ) : Type 0 where
  all : AllBytes bytes
  twelve : length bytes ≡ 12
  right : number_at bytes 8 ≡ crc32_of (take 8 bytes)

check_above_body : (bytes : List ℕ) → length bytes ≡ 12 → number bytes ≡ number_at bytes 8 * 2 ^ 64 + number (take 8 bytes)
unfolding number
check_above_body bytes l =
    subst (λ b. number b ≡ number_at b 8 * 2 ^ 64 + number (take 8 b)) (sym (fill_by_all (slice_index bytes) bytes 12 0 l (λ i h. refl))) (omega arith)

left_of : (bytes : List ℕ) → RightCheck bytes → after_bits 64 (number bytes) ≡ bit_xor (after_bits 64 all_ones) all_ones
left_of bytes c =
    let eight : length (take 8 bytes) * 8 ≡ 64 = omega (arith, c.twelve, length-take 8 bytes) in
    ap (after_bits 64) (check_above_body bytes c.twelve ∙ ap (λ w. w * 2 ^ 64 + number (take 8 bytes)) c.right)
    ∙ left_of_checked 64 (take 8 bytes) (take_bytes 8 bytes c.all) eight

-- Two whose checks are right leave the same, so the bits in which they differ leave 0, and are none or more than seven.
not_right : (sent came : List ℕ) → RightCheck sent → FewBitsChanged sent came → number_at came 8 ≢ crc32_of (take 8 came)
not_right sent came c f right =
    let changed = bit_xor (number sent) (number came) in
    let bits = changed_number sent came (omega (arith, c.twelve, f.twelve)) c.all f.all in
    few_bits_found changed (xor_lt 96 (number sent) (number came) (number_lt 96 sent c.all (omega (arith, c.twelve))) (number_lt 96 came f.all (omega (arith, f.twelve)))) (omega (arith, bits, f.some)) (omega (arith, bits, f.few))
    (bits_xor 64 (number sent) (number came) ∙ ap₂ bit_xor (left_of sent c) (left_of came (record { all = f.all; twelve = f.twelve; right = right }))
    ∙ xor_self (bit_xor (after_bits 64 all_ones) all_ones))

changes_found : (sent : List ℕ) → RightCheck sent → FewChangesFound sent
changes_found sent c came f = let differs = not_right sent came c f in grind (arith, nat_tests, differs, f.twelve)

sent_right : (m : Message) → message_checked m ≡ Ok tt → RightCheck (with_check (body m))
sent_right m h =
    record {
      all = append_bytes (body m) (four_bytes (crc32_of (body m))) (body_fits m h) (search (arith, one_more, none));
      twelve = refl;
      right = grind (arith, check_fits m h);
    }

sent_found : (m : Message) (may_be : Checked) → message_checked m ≡ may_be → IfOk (may_be then Ok (with_check (body m))) FewChangesFound
sent_found m (Ok tt) h = changes_found (with_check (body m)) (sent_right m h)
sent_found m (Err why) h = tt

pub written_found : (m : Message) → IfOk (written m) FewChangesFound
written_found m = sent_found m (message_checked m) refl
