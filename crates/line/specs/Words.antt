-- What is told of a line, in words. Assumes nothing: these are definitions.
use Rattle.std.specs.Prelude.{ℕ, List, [], ◌++◌, Option, Some, None, codes, decimal}
use Rattle.braking.specs.Words.{refusal_text}
use Rattle.onboard.specs.declared.word.Word.{Word}
use Rattle.onboard.specs.declared.word.Word.TheVariants.{Drive, Brake}
use Rattle.line.specs.declared.gaps.Gaps.{Gaps}
use Rattle.line.specs.declared.seen.Seen.{Seen}
use Rattle.line.specs.declared.step_error.StepError.{StepError}
use Rattle.line.specs.declared.step_error.StepError.TheVariants.{Impossible, NoMemory}
use Rattle.line.specs.declared.new_error.NewError.{NewError}
use Rattle.line.specs.declared.new_error.NewError.TheVariants as new

-- the smallest gap, if there is one
unfoldable pub smallest_text : Option ℕ → List ℕ
smallest_text None = []
smallest_text (Some smallest) = codes ", smallest " ++ decimal smallest

-- how many gaps were looked at, and the smallest
unfoldable pub gaps_text : Gaps → List ℕ
gaps_text gaps = decimal gaps.count ++ (codes " gaps" ++ smallest_text gaps.smallest)

-- what a unit says to its driver
abbrev pub word_text : Word → List ℕ
word_text Drive = codes "drives"
word_text Brake = codes "brakes"

-- a tick: the train, the word of its unit, the speed, and where its front is afterwards
unfoldable pub seen_text : Seen → List ℕ
seen_text s = decimal s.train ++ (codes " " ++ (word_text s.word ++ (codes " " ++ (decimal s.speed ++ (codes " at " ++ decimal s.front)))))

-- why an event was not done
unfoldable pub step_error_text : StepError → List ℕ
step_error_text Impossible = codes "this event cannot be"
step_error_text NoMemory = codes "there is not enough memory"

-- why there is no new line
unfoldable pub new_error_text : NewError → List ℕ
new_error_text (new.Refused why) = refusal_text why
new_error_text new.NoMemory = codes "there is not enough memory"
