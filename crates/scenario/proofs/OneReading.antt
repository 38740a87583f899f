-- A text has one reading.
use Rattle.std.proofs.Common.{◌≡◌, ℕ, List, [], ◌∷◌, ◌++◌, Some, None, Option, decimal, refl, ap, sym, subst, ◌∙◌, arith}
use Rattle.std.specs.Option.{unwrap_or}
use Rattle.std.specs.Str.Parse.{digits_value}
use Rattle.std.proofs.lemmas.Fmt.{digits_value-decimal}
use Rattle.safety.specs.declared.event.Event.{Event}
use Rattle.safety.specs.declared.event.Event.TheVariants as events
use Rattle.scenario.specs.declared.entry.HeadLine.{HeadLine}
use Rattle.scenario.specs.declared.entry.HeadLine.TheVariants as heads
use Rattle.scenario.specs.declared.entry.Entry.{Entry}
use Rattle.scenario.specs.declared.entry.Entry.TheVariants as entries
use Rattle.scenario.specs.declared.keyword.Keyword.{Keyword}
use Rattle.scenario.specs.declared.keyword.Keyword.TheVariants as keywords
use Rattle.scenario.specs.Lines.{Fits, EventFits, HeadFits, entry_words, event_words, head_words}
use Rattle.text.specs.Numbers.{IsNumber}
use Rattle.scenario.specs.Texts.{HeadRead, HeadEnds, EventsRead}
use Rattle.text.specs.Lines.{Said}
use Rattle.scenario.specs.Ends.{Ends}
use Rattle.scenario.specs.declared.lines.Stop.{Stop}
use Rattle.scenario.specs.declared.lines.Stop.TheVariants.{End, Unreadable}
use Rattle.scenario.specs.Keywords.{keyword_of}
use Rattle.scenario.specs.Laws.{OneEntry, OneReading}
use Rattle.text.proofs.Decimals.{own}

-- the entry that words write, if they write one: what tells two entries apart
value : List ℕ → ℕ
value = digits_value 10

value_written : (n : ℕ) → IsNumber n → value (decimal n) ≡ n
unfolding value
value_written n small = digits_value-decimal own n small

entry_after : Option Keyword → List (List ℕ) → Option Entry
entry_after (Some keywords.Brake) (n ∷ []) = Some (entries.Head (heads.Brake (value n)))
entry_after (Some keywords.Blur) (n ∷ []) = Some (entries.Head (heads.Blur (value n)))
entry_after (Some keywords.Controllers) (n ∷ []) = Some (entries.Head (heads.Controllers (value n)))
entry_after (Some keywords.Train) (low ∷ front ∷ high ∷ end ∷ length ∷ []) = Some (entries.Head (heads.Train
    (record { low = value low; front = value front; high = value high; end = value end; length = value length })))
entry_after (Some keywords.Tick) (train ∷ wish_word ∷ wish ∷ speed_word ∷ speed ∷ []) =
    Some (entries.Event (events.Tick (value train) (value wish) (value speed)))
entry_after (Some keywords.Mark) (n ∷ []) = Some (entries.Event (events.Mark (value n)))
entry_after (Some keywords.Report) (n ∷ []) = Some (entries.Event (events.Report (value n)))
entry_after (Some keywords.Hear) (m ∷ word ∷ n ∷ []) = Some (entries.Event (events.Hear (value m) (value n)))
entry_after (Some keywords.Tell) (m ∷ word ∷ n ∷ []) = Some (entries.Event (events.Tell (value m) (value n)))
entry_after (Some keywords.Grant) (m ∷ word ∷ n ∷ []) = Some (entries.Event (events.Grant (value m) (value n)))
entry_after (Some keywords.Take) (word ∷ n ∷ []) = Some (entries.Event (events.Take (value n)))
entry_after (Some keywords.Restart) (n ∷ []) = Some (entries.Event (events.Restart (value n)))
entry_after _ _ = None

entry_of : List (List ℕ) → Option Entry
entry_of [] = None
entry_of (word ∷ rest) = entry_after (keyword_of word) rest

entry_written : (entry : Entry) → Fits entry → entry_of (entry_words entry) ≡ Some entry
unfolding entry_of entry_after
entry_written (entries.Head (heads.Brake n)) fits = rw (value_written n fits) refl
entry_written (entries.Head (heads.Blur n)) fits = rw (value_written n fits) refl
entry_written (entries.Head (heads.Controllers n)) fits = rw (value_written n fits) refl
entry_written (entries.Head (heads.Train s)) fits =
    rw (value_written s.low fits.0, value_written s.front fits.1, value_written s.high fits.2, value_written s.end fits.3, value_written s.length fits.4) refl
entry_written (entries.Event (events.Tick train wish speed)) fits =
    rw (value_written train fits.0, value_written wish (omega (arith, fits.1)), value_written speed fits.2) refl
entry_written (entries.Event (events.Mark n)) fits = rw (value_written n fits) refl
entry_written (entries.Event (events.Report n)) fits = rw (value_written n fits) refl
entry_written (entries.Event (events.Hear m n)) fits = rw (value_written m fits.0, value_written n fits.1) refl
entry_written (entries.Event (events.Tell m n)) fits = rw (value_written m fits.0, value_written n fits.1) refl
entry_written (entries.Event (events.Grant m n)) fits = rw (value_written m fits.0, value_written n fits.1) refl
entry_written (entries.Event (events.Take n)) fits = rw (value_written n fits) refl
entry_written (entries.Event (events.Restart n)) fits = rw (value_written n fits) refl

some_same : {A : Type 0} (x y : A) → Some x ≡ Some y → x ≡ y
some_same x y same = ap (λ o. unwrap_or o x) same

pub one_entry : OneEntry
one_entry one other fits other_fits same = some_same one other (sym (entry_written one fits) ∙ ap entry_of same ∙ entry_written other other_fits)

the_head : HeadLine → Entry → HeadLine
the_head default (entries.Head line) = line
the_head default (entries.Event event) = default

same_line : (line other : HeadLine) → HeadFits line → HeadFits other → head_words line ≡ head_words other → line ≡ other
unfolding the_head
same_line line other fits other_fits same = ap (the_head line) (one_entry (entries.Head line) (entries.Head other) fits other_fits same)

the_event : Event → Entry → Event
the_event default (entries.Head line) = default
the_event default (entries.Event event) = event

same_event : (event other : Event) → EventFits event → EventFits other → event_words event ≡ event_words other → event ≡ other
unfolding the_event
same_event event other fits other_fits same = ap (the_event event) (one_entry (entries.Event event) (entries.Event other) fits other_fits same)

-- a head does not end where one more line of it stands
head_goes_on : (before : List HeadLine) (text rest other_rest : List Said) (line : HeadLine) (lines : List HeadLine) →
    HeadRead before text [] rest → HeadRead before text (line ∷ lines) other_rest → ⊥
head_goes_on before [] rest other_rest line lines ends more = more
head_goes_on before (next ∷ text) rest other_rest line lines ends more =
    grind (arith, (subst (HeadEnds before) (sym ends.0) ends.1) line more.1 more.0, more.2)

one_head : (before : List HeadLine) (text : List Said) (lines others : List HeadLine) (rest other_rest : List Said) →
    HeadRead before text lines rest → HeadRead before text others other_rest → (lines ≡ others) × (rest ≡ other_rest)
one_head before text [] [] rest other_rest one other = (refl, sym one.0 ∙ other.0)
one_head before text [] (line ∷ others) rest other_rest one other = absurd (head_goes_on before text rest other_rest line others one other)
one_head before text (line ∷ lines) [] rest other_rest one other = absurd (head_goes_on before text other_rest rest line lines other one)
one_head before [] (line ∷ lines) (line_too ∷ others) rest other_rest one other = absurd one
one_head before (next ∷ text) (line ∷ lines) (line_too ∷ others) rest other_rest one other =
    let same : line ≡ line_too = same_line line line_too one.1 other.1 (sym one.0 ∙ other.0) in
    let more = one_head (before ++ line ∷ []) text lines others rest other_rest one.3 (subst (λ l. HeadRead (before ++ l ∷ []) text others other_rest) (sym same) other.3) in
    (rw same (ap (λ ls. line_too ∷ ls) more.0), more.1)

-- events do not end where one more of them stands
events_go_on : (text rest other_rest : List Said) (stop : Stop) (line : ℕ) (lines : List ℕ) (event : Event) (events : List Event) →
    EventsRead text [] [] rest → Ends stop rest → EventsRead text (line ∷ lines) (event ∷ events) other_rest → ⊥
events_go_on [] rest other_rest stop line lines event events none ends more = more
events_go_on (next ∷ text) rest other_rest End line lines event events none ends more = grind (arith, none, ends)
events_go_on (next ∷ text) rest other_rest (Unreadable n) line lines event events none ends more =
    (subst (Ends (Unreadable n)) (sym none) ends).1 event more.2 more.1

one_stop : (rest : List Said) (stop other : Stop) → Ends stop rest → Ends other rest → stop ≡ other
one_stop rest End End one two = refl
one_stop [] End (Unreadable n) one two = absurd two
one_stop (next ∷ rest) End (Unreadable n) one two = absurd (grind (arith, one))
one_stop [] (Unreadable n) other one two = absurd one
one_stop (next ∷ rest) (Unreadable n) End one two = absurd (grind (arith, two))
one_stop (next ∷ rest) (Unreadable n) (Unreadable m) one two = ap Unreadable (sym one.0 ∙ two.0)

-- each event has its line
no_line : (text rest : List Said) (event : Event) (events : List Event) → EventsRead text [] (event ∷ events) rest → ⊥
no_line [] rest event events read = read
no_line (next ∷ text) rest event events read = read

no_event_there : (text rest : List Said) (line : ℕ) (lines : List ℕ) → EventsRead text (line ∷ lines) [] rest → ⊥
no_event_there [] rest line lines read = read
no_event_there (next ∷ text) rest line lines read = read

module _ (stop other_stop : Stop) (rest other_rest : List Said) (ends : Ends stop rest) (other_ends : Ends other_stop other_rest) where
  one_protocol : (text : List Said) (lines others : List ℕ) (events other_events : List Event) →
      EventsRead text lines events rest → EventsRead text others other_events other_rest →
      (lines ≡ others) × (events ≡ other_events) × (rest ≡ other_rest)
  one_protocol text [] others (event ∷ events) other_events one other = absurd (no_line text rest event events one)
  one_protocol text (line ∷ lines) others [] other_events one other = absurd (no_event_there text rest line lines one)
  one_protocol text [] [] [] [] one other = (refl, refl, sym one ∙ other)
  one_protocol text [] [] [] (event ∷ events) one other = absurd (no_line text other_rest event events other)
  one_protocol text [] (line ∷ lines) [] [] one other = absurd (no_event_there text other_rest line lines other)
  one_protocol text [] (line ∷ lines) [] (event ∷ events) one other = absurd (events_go_on text rest other_rest stop line lines event events one ends other)
  one_protocol text (line ∷ lines) [] (event ∷ events) [] one other = absurd (events_go_on text other_rest rest other_stop line lines event events other other_ends one)
  one_protocol text (line ∷ lines) [] (event ∷ events) (event_too ∷ others) one other = absurd (no_line text other_rest event_too others other)
  one_protocol text (line ∷ lines) (line_too ∷ others) (event ∷ events) [] one other = absurd (no_event_there text other_rest line_too others other)
  one_protocol [] (line ∷ lines) (line_too ∷ others) (event ∷ events) (event_too ∷ others_too) one other = absurd one
  one_protocol (next ∷ text) (line ∷ lines) (line_too ∷ others) (event ∷ events) (event_too ∷ other_events) one other =
      let more = one_protocol text lines others events other_events one.3 other.3 in
      let same = same_event event event_too one.2 other.2 (sym one.1 ∙ other.1) in
      (rw (sym one.0 ∙ other.0) (ap (λ ls. line_too ∷ ls) more.0), rw same (ap (λ es. event_too ∷ es) more.1), more.2)

pub one_reading : OneReading
one_reading text head other_head lines other_lines events other_events stop other_stop one other =
    let heads = one_head [] _ head other_head one.middle other.middle one.head_read other.head_read in
    let same = one_protocol stop other_stop one.rest other.rest one.ends other.ends other.middle lines other_lines events other_events (rw heads.1 at one.events_read) other.events_read in
    (heads.0, same.0, same.1, one_stop other.rest stop other_stop (rw same.2 at one.ends) other.ends)
