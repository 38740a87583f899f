-- What is printed of ticks. Assumes nothing: these are definitions.
use Rattle.std.specs.Prelude.{ℕ, List, [], ◌∷◌, ◌++◌, codes, decimal}
use Rattle.line.specs.declared.seen.Seen.{Seen}
use Rattle.onboard.specs.declared.word.Word.{Word}
use Rattle.onboard.specs.declared.word.Word.TheVariants.{Drive, Brake}

abbrev pub word_text : Word → List ℕ
word_text Drive = codes " drives "
word_text Brake = codes " brakes "

-- the train, what its unit says to the driver, the speed that the train then has, and where its front is; then a line feed (10)
abbrev pub tick_line : Seen → List ℕ
tick_line tick = decimal tick.train ++ (word_text tick.word ++ (decimal tick.speed ++ (codes " at " ++ (decimal tick.front ++ 10 ∷ []))))
