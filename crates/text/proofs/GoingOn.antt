-- Readers that go on over whole lines.
use Rattle.std.proofs.Common.{◌≡◌, ◌==◌, ℕ, ◌+◌, ◌-◌, ◌≤◌, zero, suc, List, [], ◌∷◌, ◌++◌, drop, ap, sym, ◌∙◌, refl, arith}
use Rattle.std.specs.List.{after_first}
use Rattle.text.specs.declared.reader.Reader.{Reader}
use Rattle.text.specs.Lines.{GoneOn, Said, after_lines, line_after, line_past}

-- not at all
pub gone_nowhere : (reader : Reader) → GoneOn reader reader
gone_nowhere reader =
    let none : reader.line - reader.line ≡ 0 = omega arith in
    (omega arith, sym (ap (λ count. after_lines count reader.rest.now) none))

-- by one line more
pub gone_by_line : (from to next : Reader) → GoneOn from to → next.line ≡ to.line + 1 → next.rest.now ≡ after_first (λ byte. byte == 10) to.rest.now → GoneOn from next
gone_by_line from to next gone line rest =
    let more : next.line - from.line ≡ suc (to.line - from.line) = omega (arith, gone.0, line) in
    (omega (arith, gone.0, line), rest ∙ ap (after_first (λ byte. byte == 10)) gone.1 ∙ sym (ap (λ count. after_lines count from.rest.now) more))

pub gone_one_line : (line : ℕ) (text cut : List ℕ) → cut ≡ after_first (λ byte. byte == 10) text → (line ≤ line + 1) × (cut ≡ after_lines (line + 1 - line) text)
gone_one_line line text cut is =
    let one : line + 1 - line ≡ 1 = omega arith in
    (omega arith, is ∙ sym (ap (λ count. after_lines count text) one))

-- and farther
lines_more : (count more sum : ℕ) (text : List ℕ) → sum ≡ count + more → after_lines count (after_lines more text) ≡ after_lines sum text
lines_more zero more sum text is =
    let same : more ≡ sum = omega (arith, is) in
    ap (λ count. after_lines count text) same
lines_more (suc count) more sum text is =
    let same : suc (count + more) ≡ sum = omega (arith, is) in
    ap (after_first (λ byte. byte == 10)) (lines_more count more (count + more) text refl) ∙ ap (λ count. after_lines count text) same

pub gone_again : (from middle to : Reader) → GoneOn from middle → GoneOn middle to → GoneOn from to
gone_again from middle to first second = (
  omega (arith, first.0, second.0),
  second.1 ∙ ap (after_lines (to.line - middle.line)) first.1
      ∙ lines_more (to.line - middle.line) (middle.line - from.line) (to.line - from.line) from.rest.now (omega (arith, first.0, second.0)),
)

-- one line more that is read
pub after_one_more : (n line : ℕ) (lines : List ℕ) → line_after n (lines ++ line ∷ []) ≡ line + 1
after_one_more n line [] = refl
after_one_more n line (first ∷ lines) = after_one_more (first + 1) line lines

past_one_more : (n count : ℕ) (said : List Said) → line_past (line_past n count said) 1 (drop count said) ≡ line_past n (suc count) said
past_one_more n zero said = refl
past_one_more n (suc count) [] = refl
past_one_more n (suc count) (next ∷ said) = past_one_more (next.line + 1) count said

one_more_dropped : (count : ℕ) (said : List Said) → drop 1 (drop count said) ≡ drop (suc count) said
one_more_dropped zero said = refl
one_more_dropped (suc count) [] = refl
one_more_dropped (suc count) (next ∷ said) = one_more_dropped count said

pub past_on : (n count more line next : ℕ) (said now : List Said) → next ≡ line_past line 1 now → line ≡ line_past n count said → now ≡ drop count said →
    more ≡ count + 1 → next ≡ line_past n more said
past_on n count more line next said now on is rest one =
    let more_is : more ≡ suc count = omega (arith, one) in
    on ∙ rw (more_is, is, rest) (past_one_more n count said)

pub dropped_on : (count more : ℕ) (said now next : List Said) → next ≡ drop 1 now → now ≡ drop count said → more ≡ count + 1 → next ≡ drop more said
dropped_on count more said now next on rest one =
    let more_is : more ≡ suc count = omega (arith, one) in
    on ∙ rw (more_is, rest) (one_more_dropped count said)
