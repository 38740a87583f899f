-- When a driver may have a speed: the rule on bare numbers. Assumes nothing: these are definitions.
use Rattle.std.specs.Prelude.{ℕ, ◌+◌, ◌<◌, Bool, cond, ◌||◌, Ok, Err, Result, ◌==◌, nat_le, nat_lt}
use Rattle.braking.specs.declared.brakes.Brakes.{Brakes}
use Rattle.braking.specs.declared.refusal.Refusal.{Refusal}
use Rattle.braking.specs.Refusals.{◌then◌, listed}
use Rattle.braking.specs.Limits.{brake_min, brake_max, blur_max, speed_max, place_max, brakes_checked, speed_checked, place_checked}
use Rattle.braking.specs.Distance.{distance}
use Rattle.onboard.specs.declared.word.Word.{Word}
use Rattle.onboard.specs.declared.word.Word.TheVariants.{Drive, Brake}

-- how far the front comes at most if it has the wish for a tick, from the high place on, and then brakes to a stand
abbrev pub stopping_place : Brakes → (high wish : ℕ) → ℕ
stopping_place b high wish = high + wish + b.blur + distance b wish

-- the wish is let if it is 0, or if the train would then still stop within its end
abbrev pub lets : Brakes → (high end wish : ℕ) → Bool
lets b high end wish = wish == 0 || nat_le (stopping_place b high wish) end

-- the word to the driver on a wish, or why there is none: brakes, wish, high place and end are looked at in this order
abbrev pub word_on : Brakes → (high end wish : ℕ) → Result Word Refusal
word_on b high end wish =
    brakes_checked b then speed_checked wish then place_checked high then place_checked end then
    Ok (cond (lets b high end wish) Drive Brake)

-- the number and the place of an answer in the list of refusals; 0 and 0 if it is a word
abbrev pub word_listed : Result Word Refusal → ℕ × ℕ
word_listed (Ok word) = (0, 0)
word_listed (Err why) = listed why

-- rows 1 to 3 of the list, from the top: the number and the place of the first that applies; 0 and 0 if none does
abbrev pub first_refusal : (brake blur high end wish : ℕ) → ℕ × ℕ
first_refusal brake blur high end wish =
    cond (nat_lt brake brake_min || nat_lt brake_max brake) (1, 0)
    (cond (nat_lt blur_max blur) (1, 1)
    (cond (nat_lt speed_max wish) (2, 0)
    (cond (nat_lt place_max high || nat_lt place_max end) (3, 0)
    (0, 0))))

-- braking is needed: the wish is above 0, and with it the train could come past its end
pub record Needed (b : Brakes) (high end wish : ℕ) : Type 0 where
  pub moves : 0 < wish
  pub past_end : end < stopping_place b high wish
