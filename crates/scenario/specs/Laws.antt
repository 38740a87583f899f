-- What is proved of how scenarios are read and written. These are statements over the definitions.
use Rattle.std.specs.Prelude.{◌≡◌, false, ℕ, ◌+◌, List, [], ◌∷◌, ◌++◌, length}
use Rattle.std.specs.List.{AllByRecursion}
use Rattle.safety.specs.declared.event.Event.{Event}
use Rattle.scenario.specs.declared.entry.HeadLine.{HeadLine}
use Rattle.scenario.specs.declared.entry.Entry.{Entry}
use Rattle.scenario.specs.declared.lines.Stop.{Stop}
use Rattle.scenario.specs.declared.lines.Stop.TheVariants.{End}
use Rattle.scenario.specs.Lines.{Fits, EventFits, HeadFits, entry_words}
use Rattle.scenario.specs.Texts.{is_double}
use Rattle.text.specs.Lines.{line_words}
use Rattle.scenario.specs.Ends.{IsRead}
use Rattle.scenario.specs.Written.{scenario_text}
use Rattle.text.specs.Written.{joined}

-- no two entries are written with the same words
abbrev pub OneEntry : Type 0
OneEntry = (one other : Entry) → Fits one → Fits other → entry_words one ≡ entry_words other → one ≡ other

-- a text has one reading
abbrev pub OneReading : Type 0
OneReading = (text : List ℕ) (head other_head : List HeadLine) (lines other_lines : List ℕ) (events other_events : List Event) (stop other_stop : Stop) →
    IsRead text head lines events stop → IsRead text other_head other_lines other_events other_stop →
    (head ≡ other_head) × (lines ≡ other_lines) × (events ≡ other_events) × (stop ≡ other_stop)

-- the words of an entry that was written on a line are its words
abbrev pub WordsWritten : Type 0
WordsWritten = (entry : Entry) → Fits entry → line_words (joined (entry_words entry)) ≡ entry_words entry

-- none of the lines gives again what one before it gave
abbrev pub NoDoubles : (before lines : List HeadLine) → Type 0
NoDoubles before [] = Unit {0}
NoDoubles before (line ∷ lines) = (is_double before line ≡ false) × NoDoubles (before ++ line ∷ []) lines

-- the numbers from n on, as many as there are elements
abbrev pub numbers_from : {A : Type 0} → ℕ → List A → List ℕ
numbers_from n [] = []
numbers_from n (x ∷ xs) = n ∷ numbers_from (n + 1) xs

-- what is written is read again: the same head, the same events, each on the line that it was written on, and no more
abbrev pub ReadBack : Type 0
ReadBack = (head : List HeadLine) (events : List Event) → AllByRecursion HeadFits head → AllByRecursion EventFits events → NoDoubles [] head →
    IsRead (scenario_text head events) head (numbers_from (length head) events) events End
