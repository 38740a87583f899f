-- What the lines of a scenario say. Assumes nothing: these are definitions.
use Rattle.std.specs.Prelude.{◌≡◌, ℕ, false, Bool, true, List, [], ◌∷◌, ◌++◌}
use Rattle.std.specs.List.{list_any}
use Rattle.safety.specs.declared.event.Event.{Event}
use Rattle.scenario.specs.declared.entry.HeadLine.{HeadLine}
use Rattle.scenario.specs.declared.entry.HeadLine.TheVariants as heads
use Rattle.scenario.specs.Lines.{event_words, head_words, EventFits, HeadFits}
use Rattle.text.specs.Lines.{Said}

-- whether two lines give the same thing, of those that come only once
abbrev pub same_kind : HeadLine → HeadLine → Bool
same_kind (heads.Brake m) (heads.Brake n) = true
same_kind (heads.Blur m) (heads.Blur n) = true
same_kind (heads.Controllers m) (heads.Controllers n) = true
same_kind _ _ = false

-- whether a line gives again what a line before it gave
abbrev pub is_double : List HeadLine → HeadLine → Bool
is_double before line = list_any (same_kind line) before

-- the head ends here: there is no more line, or one that is none of the head, or gives again what was given
abbrev pub HeadEnds : List HeadLine → (rest : List Said) → Type 0
HeadEnds before [] = Unit {0}
HeadEnds before (next ∷ text) = (line : HeadLine) → HeadFits line → next.words ≡ head_words line → is_double before line ≡ true

-- reading the head of a scenario, after some lines of it: `lines` are written by the next lines of the text, one after another,
-- and none is double; the head ends where no line of it, or a double one, stands; `rest` is left
abbrev pub HeadRead : List HeadLine → List Said → (lines : List HeadLine) → (rest : List Said) → Type 0
HeadRead before text [] rest = (text ≡ rest) × HeadEnds before rest
HeadRead before [] (line ∷ lines) rest = ⊥
HeadRead before (next ∷ text) (line ∷ lines) rest =
    (next.words ≡ head_words line) × HeadFits line × (is_double before line ≡ false) × HeadRead (before ++ line ∷ []) text lines rest

-- reading events: each is written by the next line of the text, which has its number; `rest` is left
abbrev pub EventsRead : List Said → (lines : List ℕ) → (events : List Event) → (rest : List Said) → Type 0
EventsRead text [] [] rest = text ≡ rest
EventsRead (next ∷ text) (line ∷ lines) (event ∷ events) rest =
    (next.line ≡ line) × (next.words ≡ event_words event) × EventFits event × EventsRead text lines events rest
EventsRead _ _ _ rest = ⊥
