-- Numbers above the highest wish.
use Rattle.std.proofs.Common.{◌≡◌, ◌≢◌, ℕ, ◌<◌, ◌≤◌, List, decimal, arith, sym, ◌∙◌}
use Rattle.braking.specs.Limits.{speed_max}
use Rattle.text.specs.Numbers.{IsNumber}
use Rattle.text.proofs.Decimals.{past_limit}

pub past_wish : (word : List ℕ) (m n : ℕ) → IsNumber m → speed_max < m → word ≡ decimal m → n ≤ speed_max → word ≢ decimal n
past_wish word m n fits above is below same = past_limit m n speed_max fits (omega arith) above below (sym is ∙ same)
