-- Events that stand as they are written.
use Rattle.std.proofs.Common.{◌≡◌, ◌==◌, ℕ, ◌+◌, ◌-◌, List, [], ◌∷◌, ◌++◌, length, drop, refl, ap, sym, ◌∙◌, arith, codes, subst, length-append}
use Rattle.std.proofs.lemmas.List.{drop_at}
use Rattle.std.specs.List.{after_first}
use Rattle.text.specs.Lines.{said_from, text_lines}
use Rattle.text.specs.Written.{line_text}
use Rattle.text.proofs.OnePass.{one_more_word, two_more_words}
use Rattle.safety.specs.declared.event.Event.{Event}
use Rattle.scenario.specs.declared.entry.Entry.TheVariants as entries
use Rattle.scenario.specs.Lines.{EventFits, event_words}
use Rattle.scenario.specs.Texts.{EventsRead}
use Rattle.scenario.proofs.ReadBack.{entry_passed, said_entry}

pub tick_written : (train wish speed text second third fourth fifth rest : List ℕ) →
    text ≡ train ++ 32 ∷ second → second ≡ codes "wish" ++ 32 ∷ third → third ≡ wish ++ 32 ∷ fourth → fourth ≡ codes "speed" ++ 32 ∷ fifth →
    fifth ≡ line_text (speed ∷ []) ++ rest →
    codes "tick" ++ 32 ∷ text ≡ line_text (codes "tick" ∷ train ∷ codes "wish" ∷ wish ∷ codes "speed" ∷ speed ∷ []) ++ rest
tick_written train wish speed text second third fourth fifth rest a b c d e =
    two_more_words (codes "tick") train (codes "wish") (wish ∷ codes "speed" ∷ speed ∷ []) text second rest a
    (b ∙ two_more_words (codes "wish") wish (codes "speed") (speed ∷ []) third fourth rest c (d ∙ one_more_word (codes "speed") speed [] fifth rest e))

-- what is left after an event that stands as it is written
left_after : (read : ℕ) (text rest cut : List ℕ) (event : Event) → text ≡ line_text (event_words event) ++ rest →
    read ≡ length text - length rest → cut ≡ drop read text → cut ≡ rest
left_after read text rest cut event is count drops =
    let before : length (line_text (event_words event)) ≡ read = omega (arith, count, ap length is, length-append (line_text (event_words event)) rest) in
    drops ∙ ap (drop read) is ∙ drop_at (line_text (event_words event)) rest read before

pub plain_passed : (read : ℕ) (text rest cut : List ℕ) (event : Event) → EventFits event → text ≡ line_text (event_words event) ++ rest →
    read ≡ length text - length rest → cut ≡ drop read text → cut ≡ after_first (λ byte. byte == 10) text
plain_passed read text rest cut event fits is count drops =
    left_after read text rest cut event is count drops ∙ sym (ap (after_first (λ byte. byte == 10)) is ∙ entry_passed (entries.Event event) fits rest)

-- an event that stands as it is written is the next that a text says
pub plain_read : (n read : ℕ) (text rest cut : List ℕ) (event : Event) → EventFits event → text ≡ line_text (event_words event) ++ rest →
    read ≡ length text - length rest → cut ≡ drop read text → EventsRead (said_from n (text_lines text)) (n ∷ []) (event ∷ []) (said_from (n + 1) (text_lines cut))
plain_read n read text rest cut event fits is count drops =
    let same : cut ≡ rest = left_after read text rest cut event is count drops in
    let said = ap (λ text. said_from n (text_lines text)) is ∙ said_entry n (entries.Event event) fits rest in
    subst (λ text. EventsRead text (n ∷ []) (event ∷ []) (said_from (n + 1) (text_lines cut))) (sym said)
    (refl, refl, fits, ap (λ text. said_from (n + 1) (text_lines text)) (sym same))
