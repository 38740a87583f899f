-- Messages of which one to seven bits were changed on their way. Assumes nothing: these are definitions.
use Rattle.std.specs.Prelude.{◌≡◌, ℕ, ◌+◌, ◌<◌, ◌≤◌, List, [], ◌∷◌, length, Err, bit_xor, count_ones}
use Rattle.braking.specs.declared.refusal.Refusal.TheVariants.{MessageCheck}
use Rattle.crc.specs.Crc.{AllBytes}
use Rattle.message.specs.Bytes.{received}

-- in how many bits the bytes that came differ from those that were sent, as far as both go
abbrev pub bits_changed : (sent came : List ℕ) → ℕ
bits_changed [] came = 0
bits_changed (byte ∷ sent) [] = 0
bits_changed (byte ∷ sent) (other ∷ came) = count_ones (bit_xor byte other) + bits_changed sent came

-- 12 bytes that came, and differ in one to seven bits from those that were sent
pub record FewBitsChanged (sent came : List ℕ) : Type 0 where
  pub all : AllBytes came
  pub twelve : length came ≡ 12
  pub some : 0 < bits_changed sent came
  pub few : bits_changed sent came ≤ 7

-- whatever comes in place of the bytes that were sent, with one to seven bits changed, is turned away for its check, by 4 at 8
abbrev pub FewChangesFound : (sent : List ℕ) → Type 0
FewChangesFound sent = (came : List ℕ) → FewBitsChanged sent came → received came ≡ Err MessageCheck
