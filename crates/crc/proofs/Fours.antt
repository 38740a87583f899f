-- Four bytes at once by four tables are four bytes one after the other. Assumes nothing.
use Rattle.std.proofs.Common.{◌≡◌, ℕ, zero, suc, ◌+◌, ◌*◌, ◌/◌, ◌%◌, ◌^◌, ◌<◌, List, [], ◌∷◌, length, take, drop, fold, slice_index, refl, sym, ap, ap₂, ◌∙◌, arith}
use Rattle.std.specs.Int.{w32, from_le_bytes}
use Rattle.std.specs.Int.Bits.{bit_xor, xor_assoc, xor_shifted}
use Rattle.std.specs.Simd.{first_chunks}
use Rattle.std.proofs.lemmas.List.{drop-drop, take-append-drop}
use Rattle.std.proofs.lemmas.List.FromFn.{get_or-map-range_with_len}
use Rattle.std.proofs.lemmas.List.Sums.{fold-append}
use Rattle.std.proofs.lemmas.Nat.{mod_below, pow_pos, shr-shr, shr_split, xor_comm, xor_lt}
use Rattle.crc.specs.Crc.{after_bits, after_byte, after_bytes}
use Rattle.crc.specs.Table.{by_tables, four_entries, later_table}
use Rattle.crc.proofs.Linear.{bits_xor, bits_shift}
use Rattle.crc.proofs.Numbers.{bits_add, number, as_number}

same_number : (bytes : List ℕ) → length bytes ≡ 4 → from_le_bytes w32 bytes ≡ number bytes
unfolding number
same_number [] l = absurd (omega arith)
same_number (a ∷ []) l = absurd (omega arith)
same_number (a ∷ b ∷ []) l = absurd (omega arith)
same_number (a ∷ b ∷ c ∷ []) l = absurd (omega arith)
same_number (a ∷ b ∷ c ∷ d ∷ []) l = omega arith
same_number (a ∷ b ∷ c ∷ d ∷ e ∷ bytes) l = absurd (omega arith)

-- the w low bits by themselves, and those above them, which have w bits less to wait
bits_apart : (w n x : ℕ) → after_bits (w + n) x ≡ bit_xor (after_bits (w + n) (x % 2 ^ w)) (after_bits n (x / 2 ^ w))
bits_apart w n x =
    let high = x / 2 ^ w in
    let low = x % 2 ^ w in
    let whole : bit_xor (high * 2 ^ w) low ≡ x = xor_shifted high w low (mod_below x (2 ^ w) (pow_pos w)) ∙ shr_split x w in
    let above : after_bits (w + n) (high * 2 ^ w) ≡ after_bits n high = bits_add w n (high * 2 ^ w) ∙ ap (after_bits n) (bits_shift w high) in
    grind (arith, ap (after_bits (w + n)) whole, above, bits_xor (w + n) (high * 2 ^ w) low, xor_comm)

four_apart : (w x : ℕ) → after_bits (w + (w + (w + w))) x ≡ bit_xor (bit_xor (bit_xor (after_bits (w + (w + (w + w))) (x % 2 ^ w)) (after_bits (w + (w + w)) (x / 2 ^ w % 2 ^ w))) (after_bits (w + w) (x / 2 ^ w / 2 ^ w % 2 ^ w))) (after_bits w (x / 2 ^ w / 2 ^ w / 2 ^ w))
four_apart w x = grind (arith, bits_apart w (w + (w + w)) x, bits_apart w (w + w) (x / 2 ^ w), bits_apart w w (x / 2 ^ w / 2 ^ w), xor_assoc)

entry_is : (n byte : ℕ) → byte < 256 → slice_index (later_table n) byte ≡ after_bits (8 * (n + 1)) byte
entry_is n byte h = get_or-map-range_with_len (after_bits (8 * (n + 1))) 0 256 byte byte 0 h (omega arith)

entries_are : (x : ℕ) → x < 2 ^ 32 → four_entries x ≡ after_bits 32 x
entries_are x h =
    let third : x / 2 ^ 8 / 2 ^ 8 ≡ x / 65536 = shr-shr x 8 8 in
    let fourth : x / 2 ^ 8 / 2 ^ 8 / 2 ^ 8 ≡ x / 16777216 % 256 = omega arith in
    let first_two = bit_xor (after_bits 32 (x % 256)) (after_bits 24 (x / 256 % 256)) in
    let apart = four_apart 8 x ∙ ap₂ (λ a b. bit_xor (bit_xor first_two (after_bits 16 (a % 256))) (after_bits 8 b)) third fourth in
    rw (entry_is 3 (x % 256) (omega arith), entry_is 2 (x / 256 % 256) (omega arith), entry_is 1 (x / 65536 % 256) (omega arith), entry_is 0 (x / 16777216 % 256) (omega arith)) (sym apart)

pub four_bytes : (register : ℕ) (bytes : List ℕ) → register < 2 ^ 32 → length bytes ≡ 4 → ((i : ℕ) → slice_index bytes i < 256) → by_tables register bytes ≡ after_bytes register bytes
four_bytes register bytes r l small =
    let fits = xor_lt 32 register (from_le_bytes w32 bytes) r (omega (arith, small 0, small 1, small 2, small 3)) in
    let bits : 32 ≡ length bytes * 8 = omega arith in
    entries_are _ fits ∙ ap₂ (λ k n. after_bits k (bit_xor register n)) bits (same_number bytes l) ∙ sym (as_number bytes register (record { each = small }))

-- the first bytes four at a time, and then those that are left one at a time
pub fours_first : (count register : ℕ) (bytes : List ℕ) → fold after_byte (fold after_bytes register (first_chunks 4 count bytes)) (drop (count * 4) bytes) ≡ after_bytes register bytes
unfolding after_bytes
fours_first zero register bytes = refl
fours_first (suc count) register bytes =
    let rest = drop 4 bytes in
    let after_four = after_bytes register (take 4 bytes) in
    let four_more : suc count * 4 ≡ 4 + count * 4 = omega arith in
    let left : drop (suc count * 4) bytes ≡ drop (count * 4) rest = ap (λ n. drop n bytes) four_more ∙ sym (drop-drop (count * 4) 4 bytes) in
    ap (fold after_byte (fold after_bytes after_four (first_chunks 4 count rest))) left ∙ fours_first count after_four rest ∙ sym (fold-append after_byte register (take 4 bytes) rest) ∙ ap (fold after_byte register) (take-append-drop 4 bytes)
