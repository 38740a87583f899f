-- What an answer after a check tells, and what holds after a step that may refuse. Assumes nothing.
use Rattle.std.proofs.Common.{◌≡◌, Ok, Err, Result, arith}
use Rattle.braking.specs.declared.refusal.Refusal.{Refusal}
use Rattle.braking.specs.Refusals.{Checked, ◌then◌, kept}

-- where there is an answer after a check, the check passed, and the answer is what follows it
pub passed : {A : Type 0} (c : Checked) (rest : Result A Refusal) (x : A) → (c then rest) ≡ Ok x → (c ≡ Ok tt) × (rest ≡ Ok x)
passed c rest x e = grind arith

-- what holds of a state that a step is refused by, and of what a step makes, holds after the step
pub stepped : {A : Type 0} (P : A → Type 0) (s : A) (r : Result A Refusal) → ((why : Refusal) → r ≡ Err why → P s) →
    ((next : A) → r ≡ Ok next → P next) → P (kept s r)
stepped P s r refused made = grind arith
