-- What is written is read again.
use Rattle.std.proofs.Common.{◌≡◌, ◌==◌, ℕ, ◌+◌, List, [], ◌∷◌, ◌++◌, length, append_assoc, false, true, refl, ap, sym, subst, ◌∙◌, arith}
use Rattle.std.specs.List.{AllByRecursion, list_all, after_first}
use Rattle.safety.specs.declared.event.Event.{Event}
use Rattle.safety.specs.declared.event.Event.TheVariants as events
use Rattle.scenario.specs.declared.entry.HeadLine.{HeadLine}
use Rattle.scenario.specs.declared.entry.HeadLine.TheVariants as heads
use Rattle.scenario.specs.declared.entry.Entry.{Entry}
use Rattle.scenario.specs.declared.entry.Entry.TheVariants as entries
use Rattle.scenario.specs.Lines.{Fits, EventFits, HeadFits, entry_words, head_words}
use Rattle.scenario.specs.Texts.{HeadRead, HeadEnds, EventsRead}
use Rattle.scenario.specs.Written.{head_text, events_text}
use Rattle.text.specs.Words.{words}
use Rattle.text.specs.Lines.{said_from, says_nothing, text_lines}
use Rattle.text.specs.Written.{joined, line_text}
use Rattle.scenario.specs.Laws.{WordsWritten, ReadBack, NoDoubles, numbers_from}
use Rattle.text.proofs.TextLines.{nothing_left}
use Rattle.text.proofs.Written.{feed_found, is_written, line_bytes, line_cut, no_return, number_written, shows, words_joined}
use Rattle.scenario.proofs.Entries.{other_kind}

entry_is_written : (entry : Entry) → Fits entry → list_all is_written (entry_words entry) ≡ true
unfolding is_written shows
entry_is_written (entries.Head (heads.Brake n)) fits = rw (number_written n fits) refl
entry_is_written (entries.Head (heads.Blur n)) fits = rw (number_written n fits) refl
entry_is_written (entries.Head (heads.Controllers n)) fits = rw (number_written n fits) refl
entry_is_written (entries.Head (heads.Train s)) fits =
    rw (number_written s.low fits.0, number_written s.front fits.1, number_written s.high fits.2, number_written s.end fits.3, number_written s.length fits.4) refl
entry_is_written (entries.Event (events.Tick train wish speed)) fits =
    rw (number_written train fits.0, number_written wish (omega (arith, fits.1)), number_written speed fits.2) refl
entry_is_written (entries.Event (events.Mark n)) fits = rw (number_written n fits) refl
entry_is_written (entries.Event (events.Report n)) fits = rw (number_written n fits) refl
entry_is_written (entries.Event (events.Hear m n)) fits = rw (number_written m fits.0, number_written n fits.1) refl
entry_is_written (entries.Event (events.Tell m n)) fits = rw (number_written m fits.0, number_written n fits.1) refl
entry_is_written (entries.Event (events.Grant m n)) fits = rw (number_written m fits.0, number_written n fits.1) refl
entry_is_written (entries.Event (events.Take n)) fits = rw (number_written n fits) refl
entry_is_written (entries.Event (events.Restart n)) fits = rw (number_written n fits) refl

pub words_written : WordsWritten
words_written entry fits =
    let all = entry_is_written entry fits in
    ap words (no_return (joined (entry_words entry)) (line_bytes (entry_words entry) all)) ∙ words_joined (entry_words entry) all

-- a written line says its entry
says_some : (entry : Entry) → says_nothing (entry_words entry) ≡ false
says_some (entries.Head (heads.Brake n)) = refl
says_some (entries.Head (heads.Blur n)) = refl
says_some (entries.Head (heads.Controllers n)) = refl
says_some (entries.Head (heads.Train s)) = refl
says_some (entries.Event (events.Tick train wish speed)) = refl
says_some (entries.Event (events.Mark n)) = refl
says_some (entries.Event (events.Report n)) = refl
says_some (entries.Event (events.Hear m n)) = refl
says_some (entries.Event (events.Tell m n)) = refl
says_some (entries.Event (events.Grant m n)) = refl
says_some (entries.Event (events.Take n)) = refl
says_some (entries.Event (events.Restart n)) = refl

-- what comes after the line of an entry
pub entry_passed : (entry : Entry) → Fits entry → (rest : List ℕ) → after_first (λ byte. byte == 10) (line_text (entry_words entry) ++ rest) ≡ rest
entry_passed entry fits rest =
    ap (after_first (λ byte. byte == 10)) (append_assoc (joined (entry_words entry)) (10 ∷ []) rest)
    ∙ feed_found (joined (entry_words entry)) rest (line_bytes (entry_words entry) (entry_is_written entry fits))

pub said_entry : (n : ℕ) (entry : Entry) → Fits entry → (rest : List ℕ) →
    said_from n (text_lines (line_text (entry_words entry) ++ rest)) ≡ record { line = n; words = entry_words entry } ∷ said_from (n + 1) (text_lines rest)
said_entry n entry fits rest =
    let all = line_bytes (entry_words entry) (entry_is_written entry fits) in
    ap (λ text. said_from n (text_lines text)) (append_assoc (joined (entry_words entry)) (10 ∷ []) rest)
    ∙ ap (said_from n) (line_cut (joined (entry_words entry)) rest all)
    ∙ rw (words_written entry fits, says_some entry) refl

events_back : (n : ℕ) (events : List Event) → AllByRecursion EventFits events → EventsRead (said_from n (text_lines (events_text events))) (numbers_from n events) events []
events_back n [] fit = nothing_left n [] refl
events_back n (event ∷ events) fit =
    subst (λ text. EventsRead text (n ∷ numbers_from (n + 1) events) (event ∷ events) []) (sym (said_entry n (entries.Event event) fit.0 (events_text events)))
    (refl, refl, fit.0, events_back (n + 1) events fit.1)

-- a head ends where events begin, or nothing more is said
head_ends : (before : List HeadLine) (n : ℕ) (events : List Event) → AllByRecursion EventFits events → HeadEnds before (said_from n (text_lines (events_text events)))
head_ends before n [] fit = subst (HeadEnds before) (sym (nothing_left n [] refl)) tt
head_ends before n (event ∷ events) fit =
    subst (HeadEnds before) (sym (said_entry n (entries.Event event) fit.0 (events_text events))) (λ line fits same. absurd (other_kind line event (sym same)))

head_back : (before : List HeadLine) (n m : ℕ) (head : List HeadLine) (rest : List ℕ) → m ≡ n + length head → AllByRecursion HeadFits head → NoDoubles before head →
    ((before : List HeadLine) → HeadEnds before (said_from m (text_lines rest))) →
    HeadRead before (said_from n (text_lines (head_text head ++ rest))) head (said_from m (text_lines rest))
head_back before n m [] rest is fit once ends =
    let same : n ≡ m = omega (arith, is) in (ap (λ k. said_from k (text_lines rest)) same, ends before)
head_back before n m (line ∷ head) rest is fit once ends =
    let said = ap (λ text. said_from n (text_lines text)) (append_assoc (line_text (head_words line)) (head_text head) rest)
    ∙ said_entry n (entries.Head line) fit.0 (head_text head ++ rest) in
    subst (λ text. HeadRead before text (line ∷ head) (said_from m (text_lines rest))) (sym said)
    (refl, fit.0, once.0, head_back (before ++ line ∷ []) (n + 1) m head rest (omega (arith, is)) fit.1 once.1 ends)

pub read_back : ReadBack
read_back head events head_fit events_fit once =
    record {
      middle = said_from (length head) (text_lines (events_text events));
      rest = [];
      head_read = head_back [] 0 (length head) head (events_text events) (omega arith) head_fit once (λ before. head_ends before (length head) events events_fit);
      events_read = events_back (length head) events events_fit;
      ends = refl;
    }
