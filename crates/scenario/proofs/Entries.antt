-- No entry is written with words that were turned away.
use Rattle.std.proofs.Common.{◌≡◌, ◌≢◌, ℕ, List, [], ◌∷◌, Some, None, Option, Bool, true, false, arith, refl, ap, sym, ◌∙◌, drop, slice_index_or}
use Rattle.safety.specs.declared.event.Event.{Event}
use Rattle.safety.specs.declared.event.Event.TheVariants as events
use Rattle.scenario.specs.declared.entry.HeadLine.{HeadLine}
use Rattle.scenario.specs.declared.entry.HeadLine.TheVariants as heads
use Rattle.scenario.specs.declared.entry.Entry.{Entry}
use Rattle.scenario.specs.declared.entry.Entry.TheVariants as entries
use Rattle.scenario.specs.declared.keyword.Keyword.{Keyword}
use Rattle.scenario.specs.declared.keyword.Keyword.TheVariants as keywords
use Rattle.std.specs.Option.{option_map}
use Rattle.scenario.specs.Lines.{Fits, EventFits, HeadFits, entry_words, event_words, head_words}
use Rattle.scenario.specs.Inside.{NoEntry}
use Rattle.scenario.specs.Keywords.{keyword_of}

same_parts : (word other : List ℕ) (rest more : List (List ℕ)) → word ∷ rest ≡ other ∷ more → (word ≡ other) × (rest ≡ more)
same_parts word other rest more same = (ap (λ line. slice_index_or line 0 []) same, ap (drop 1) same)

-- what is wrong with a part of a line is wrong with the line
pub later : (line rest more : List (List ℕ)) (word other : List ℕ) → line ≡ word ∷ rest → rest ≢ more → line ≢ other ∷ more
later line rest more word other is none same = none (same_parts word other rest more (sym is ∙ same)).1

pub other_first : (line rest more : List (List ℕ)) (word other : List ℕ) → line ≡ word ∷ rest → word ≢ other → line ≢ other ∷ more
other_first line rest more word other is none same = none (same_parts word other rest more (sym is ∙ same)).0

abbrev NoEntryOf : Option Keyword → List (List ℕ) → Type 0
NoEntryOf None rest = Unit {0}
NoEntryOf (Some keyword) rest = NoEntry keyword rest

-- words that were turned away, and the words of an entry: where they are the same, the entry was turned away
module _ (word : List ℕ) (rest : List (List ℕ)) (found : Option Keyword) (is : keyword_of word ≡ found) (none : NoEntryOf found rest) where
  turned : (other : List ℕ) (keyword : Keyword) (more : List (List ℕ)) → keyword_of other ≡ Some keyword → word ∷ rest ≡ other ∷ more → NoEntry keyword more
  turned other keyword more begins same =
      let (first, after) = same_parts word other rest more same in
      let that : found ≡ Some keyword = sym is ∙ (ap keyword_of first ∙ begins) in
      rw after at (rw that at none)

  pub no_entry : (entry : Entry) → Fits entry → word ∷ rest ≢ entry_words entry
  no_entry (entries.Head (heads.Brake n)) fits same = turned _ keywords.Brake _ refl same n fits refl
  no_entry (entries.Head (heads.Blur n)) fits same = turned _ keywords.Blur _ refl same n fits refl
  no_entry (entries.Head (heads.Controllers n)) fits same = turned _ keywords.Controllers _ refl same n fits refl
  no_entry (entries.Head (heads.Train s)) fits same =
      turned _ keywords.Train _ refl same s.low s.front s.high s.end s.length fits.0 fits.1 fits.2 fits.3 fits.4 refl
  no_entry (entries.Event (events.Tick train wish speed)) fits same =
      turned _ keywords.Tick _ refl same train wish speed fits.0 fits.1 fits.2 refl
  no_entry (entries.Event (events.Mark n)) fits same = turned _ keywords.Mark _ refl same n fits refl
  no_entry (entries.Event (events.Report n)) fits same = turned _ keywords.Report _ refl same n fits refl
  no_entry (entries.Event (events.Hear m n)) fits same = turned _ keywords.Hear _ refl same m n fits.0 fits.1 refl
  no_entry (entries.Event (events.Tell m n)) fits same = turned _ keywords.Tell _ refl same m n fits.0 fits.1 refl
  no_entry (entries.Event (events.Grant m n)) fits same = turned _ keywords.Grant _ refl same m n fits.0 fits.1 refl
  no_entry (entries.Event (events.Take n)) fits same = turned _ keywords.Take _ refl same n fits refl
  no_entry (entries.Event (events.Restart n)) fits same = turned _ keywords.Restart _ refl same n fits refl

pub no_keyword : (word : List ℕ) (rest : List (List ℕ)) → keyword_of word ≡ None → (entry : Entry) → Fits entry → word ∷ rest ≢ entry_words entry
no_keyword word rest is = no_entry word rest None is tt

pub none_after : (word : List ℕ) (rest : List (List ℕ)) (keyword : Keyword) → keyword_of word ≡ Some keyword → NoEntry keyword rest → (entry : Entry) → Fits entry → word ∷ rest ≢ entry_words entry
none_after word rest keyword is none = no_entry word rest (Some keyword) is none

-- no line of a head is an event: they begin with other words
is_head : Keyword → Bool
is_head keywords.Brake = true
is_head keywords.Blur = true
is_head keywords.Controllers = true
is_head keywords.Train = true
is_head _ = false

begins_head : List (List ℕ) → Option Bool
begins_head [] = None
begins_head (word ∷ rest) = option_map is_head (keyword_of word)

head_begins : (line : HeadLine) → begins_head (head_words line) ≡ Some true
unfolding begins_head is_head
head_begins (heads.Brake n) = refl
head_begins (heads.Blur n) = refl
head_begins (heads.Controllers n) = refl
head_begins (heads.Train s) = refl

event_begins : (event : Event) → begins_head (event_words event) ≡ Some false
unfolding begins_head is_head
event_begins (events.Tick train wish speed) = refl
event_begins (events.Mark n) = refl
event_begins (events.Report n) = refl
event_begins (events.Hear m n) = refl
event_begins (events.Tell m n) = refl
event_begins (events.Grant m n) = refl
event_begins (events.Take n) = refl
event_begins (events.Restart n) = refl

pub other_kind : (line : HeadLine) (event : Event) → head_words line ≢ event_words event
other_kind line event same = grind (arith, head_begins line, event_begins event, ap begins_head same)

-- what is no entry is no line of a head, and no event
pub no_head_line : (words : List (List ℕ)) → ((entry : Entry) → Fits entry → words ≢ entry_words entry) → (line : HeadLine) → HeadFits line → words ≢ head_words line
no_head_line words none line = none (entries.Head line)

pub no_event : (words : List (List ℕ)) → ((entry : Entry) → Fits entry → words ≢ entry_words entry) → (event : Event) → EventFits event → words ≢ event_words event
no_event words none event = none (entries.Event event)
