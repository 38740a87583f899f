-- Events that were read, one after another.
use Rattle.std.proofs.Common.{ℕ, List, [], ◌∷◌, ◌≡◌, ◌++◌, ap, append_assoc, sym, subst, ◌∙◌}
use Rattle.safety.specs.declared.event.Event.{Event}
use Rattle.scenario.specs.declared.entry.HeadLine.{HeadLine}
use Rattle.scenario.specs.Texts.{EventsRead, HeadRead}
use Rattle.text.specs.Lines.{Said}

pub one_more : (text middle rest : List Said) (lines : List ℕ) (events : List Event) (line : ℕ) (event : Event) →
    EventsRead text lines events middle → EventsRead middle (line ∷ []) (event ∷ []) rest → EventsRead text (lines ++ line ∷ []) (events ++ event ∷ []) rest
one_more [] middle rest [] [] line event is next = subst (λ text. EventsRead text (line ∷ []) (event ∷ []) rest) (sym is) next
one_more (first ∷ text) middle rest [] [] line event is next = subst (λ text. EventsRead text (line ∷ []) (event ∷ []) rest) (sym is) next
one_more [] middle rest [] (e ∷ events) line event read next = elim read [ ]
one_more (first ∷ text) middle rest [] (e ∷ events) line event read next = elim read [ ]
one_more [] middle rest (n ∷ lines) [] line event read next = elim read [ ]
one_more (first ∷ text) middle rest (n ∷ lines) [] line event read next = elim read [ ]
one_more [] middle rest (n ∷ lines) (e ∷ events) line event read next = elim read [ ]
one_more (first ∷ text) middle rest (n ∷ lines) (e ∷ events) line event read next =
    (read.0, read.1, read.2, one_more text middle rest lines events line event read.3 next)

-- lines of a head that were read, and one more
pub head_on : (start now next : List Said) (before lent all : List HeadLine) (line : HeadLine) → lent ≡ before → all ≡ before ++ line ∷ [] →
    ((more : List HeadLine) (rest : List Said) → HeadRead before now more rest → HeadRead [] start (before ++ more) rest) →
    ((more : List HeadLine) (rest : List Said) → HeadRead (lent ++ line ∷ []) next more rest → HeadRead lent now (line ∷ more) rest) →
    (more : List HeadLine) (rest : List Said) → HeadRead all next more rest → HeadRead [] start (all ++ more) rest
head_on start now next before lent all line is_lent is_all so step more rest read =
    let one_more = step more rest (subst (λ lines. HeadRead lines next more rest) (is_all ∙ ap (λ lines. lines ++ line ∷ []) (sym is_lent)) read) in
    let whole = so (line ∷ more) rest (subst (λ lines. HeadRead lines now (line ∷ more) rest) is_lent one_more) in
    subst (λ lines. HeadRead [] start lines rest) (sym (ap (λ lines. lines ++ more) is_all ∙ append_assoc before (line ∷ []) more)) whole
