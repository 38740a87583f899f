-- What is told of a line that cannot be read. Assumes nothing: these are definitions.
use Rattle.std.specs.Prelude.{◌≡◌, ℕ, zero, suc, ◌≤◌, List, [], ◌∷◌, codes, decimal, Some, None, Option, length, slice_get}
use Rattle.std.specs.Borrow.{Bor}
use Rattle.scenario.specs.declared.entry.Entry.{Entry}
use Rattle.braking.specs.Limits.{speed_max}
use Rattle.scenario.specs.declared.keyword.Keyword.{Keyword}
use Rattle.scenario.specs.declared.keyword.Keyword.TheVariants as keywords
use Rattle.scenario.specs.declared.fault.Between.{Between}
use Rattle.scenario.specs.declared.fault.Between.TheVariants as between
use Rattle.scenario.specs.declared.fault.Part.{Part}
use Rattle.scenario.specs.declared.fault.Part.TheVariants as parts
use Rattle.scenario.specs.Lines.{entry_words, Fits}
use Rattle.text.specs.Numbers.{IsNumber}
use Rattle.scenario.specs.Keywords.{keyword_of}

-- some entry is written with the words
abbrev pub Readable : List (List ℕ) → Type 0
Readable words = (entry : Entry) × (words ≡ entry_words entry) × Fits entry

-- the word at a place of the line; or none, where the line ends before it
abbrev pub FoundAt : Option (Bor (List ℕ)) → ℕ → List (List ℕ) → Type 0
FoundAt (Some word) place words = slice_get words place ≡ Some word.now
FoundAt None place words = length words ≤ place

-- the words that stand between numbers
abbrev pub text_of : Between → List ℕ
text_of between.Wish = codes "wish"
text_of between.Speed = codes "speed"
text_of between.Message = codes "message"
text_of between.Train = codes "train"

-- a word is what has to stand at a place
abbrev pub FitsPart : Part → List ℕ → Type 0
FitsPart parts.Keyword word = (keyword : Keyword) × (keyword_of word ≡ Some keyword)
FitsPart parts.Number word = (n : ℕ) × IsNumber n × (word ≡ decimal n)
FitsPart parts.Wish word = (n : ℕ) × (n ≤ speed_max) × (word ≡ decimal n)
FitsPart (parts.Word expected) word = word ≡ text_of expected
FitsPart parts.End word = ⊥

-- what follows each first word
abbrev pub form_of : Keyword → List Part
form_of keywords.Train = parts.Number ∷ parts.Number ∷ parts.Number ∷ parts.Number ∷ parts.Number ∷ []
form_of keywords.Tick = parts.Number ∷ parts.Word between.Wish ∷ parts.Wish ∷ parts.Word between.Speed ∷ parts.Number ∷ []
form_of keywords.Hear = parts.Number ∷ parts.Word between.Message ∷ parts.Number ∷ []
form_of keywords.Tell = parts.Number ∷ parts.Word between.Train ∷ parts.Number ∷ []
form_of keywords.Grant = parts.Number ∷ parts.Word between.Train ∷ parts.Number ∷ []
form_of keywords.Take = parts.Word between.Message ∷ parts.Number ∷ []
form_of _ = parts.Number ∷ []

-- each word fits up to the place, where `expected` has to stand and does not. (Where all words fit and no more follow, the
-- line can be read: nothing is told of such a line.)
abbrev pub FaultAt : List Part → List (List ℕ) → (place : ℕ) → (expected : Part) → Type 0
FaultAt [] words place expected = (place ≡ 0) × (expected ≡ parts.End)
FaultAt (part ∷ form) [] place expected = (place ≡ 0) × (expected ≡ part)
FaultAt (part ∷ form) (word ∷ words) zero expected = (expected ≡ part) × (FitsPart part word → ⊥)
FaultAt (part ∷ form) (word ∷ words) (suc place) expected = FitsPart part word × FaultAt form words place expected

-- the first fault of a line: its first word is none that a line begins with, or one of those that follow does not fit
abbrev pub FaultAfter : Option Keyword → List (List ℕ) → (place : ℕ) → (expected : Part) → Type 0
FaultAfter None words place expected = (place ≡ 0) × (expected ≡ parts.Keyword)
FaultAfter (Some keyword) words zero expected = ⊥
FaultAfter (Some keyword) words (suc place) expected = FaultAt (form_of keyword) words place expected

abbrev pub FirstFault : List (List ℕ) → (place : ℕ) → (expected : Part) → Type 0
FirstFault [] place expected = (place ≡ 0) × (expected ≡ parts.Keyword)
FirstFault (word ∷ words) place expected = FaultAfter (keyword_of word) words place expected
