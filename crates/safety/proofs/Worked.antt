-- The worked day. Assumes nothing.
use Rattle.std.proofs.Common.{◌≡◌, ℕ, zero, suc, ◌<◌, length, refl, arith}
use Rattle.braking.specs.Distance.{distance, distance_in}
use Rattle.crc.specs.Crc.{after_byte, after_bytes}
use Rattle.onboard.specs.Train.{RearPast}
use Rattle.safety.specs.State.{Stands, train_at}
use Rattle.safety.specs.Day.{WorkedDay, morning}
use Rattle.safety.proofs.Safe.{all_silent}

numbered : (i : ℕ) → i < length morning.trains → (train_at morning i).unit.train ≡ i
numbered zero l = refl
numbered (suc zero) l = refl
numbered (suc (suc i)) l = absurd (omega arith)

stands : (i : ℕ) → Stands (train_at morning i)
stands zero = record { speed = refl; brakes = refl; on_line = omega arith; low = omega arith; high = omega arith; end = omega arith; limit = omega arith }
stands (suc zero) = record { speed = refl; brakes = refl; on_line = omega arith; low = omega arith; high = omega arith; end = omega arith; limit = omega arith }
stands (suc (suc i)) = record { speed = refl; brakes = refl; on_line = omega arith; low = omega arith; high = omega arith; end = omega arith; limit = omega arith }

apart : (i : ℕ) → RearPast (train_at morning i) (train_at morning (suc i)).unit.end
apart zero = record { clear = omega arith }
apart (suc zero) = record { clear = omega arith }
apart (suc (suc i)) = record { clear = omega arith }

pub worked_day : WorkedDay
unfolding distance distance_in after_byte after_bytes
worked_day = record {
  initial = record { counts = refl; numbered = numbered; stands = stands; apart = apart; silent = all_silent 8; nothing_sent = refl };
  can_be = (refl, (refl, (refl, (refl, (refl, (refl, (refl, (refl, (refl, (refl, (refl, (refl, tt))))))))))));
  at_the_fastest = (refl, (refl, (refl, (refl, (refl, (tt, (tt, (tt, (tt, (refl, (refl, (refl, tt))))))))))));
  course = refl;
}
