-- The gaps that were looked at, and one more. Assumes nothing.
use Rattle.std.proofs.Common.{◌+◌, ◌<◌, ◌^◌, length, ◌≤◌, min, None, Option, subst, ◌≡◌, ℕ, List, [], ◌∷◌, ◌++◌, suc, Some, refl, sym, ap, ◌∙◌, arith, length-append, append_assoc}
use Rattle.std.proofs.Math.Logic.{inl, inr}
use native.Mathlib.Decide.{dec_le}
use Rattle.std.proofs.lemmas.List.{append-nil}
use Rattle.controller.specs.Hearings.{Among}
use Rattle.safety.specs.Promises.{AllPromised}
use Rattle.line.specs.declared.gaps.Gaps.{Gaps}
use Rattle.safety.specs.State.{State}
use Rattle.line.specs.Runs.{Counted, Smallest, GapTrue, gap, gaps_behind}
use Rattle.line.specs.Inside.{lesser, smaller, smallest_of, count_of, with_gap}

smallest_more : (looked_at : List ℕ) (gap : ℕ) → smallest_of (looked_at ++ gap ∷ []) ≡ Some (lesser (smallest_of looked_at) gap)
smallest_more [] gap = refl
smallest_more (first ∷ rest) gap = grind (arith, smallest_more rest gap)

pub count_more : (looked_at : List ℕ) (gap : ℕ) → count_of (looked_at ++ gap ∷ []) ≡ with_gap (count_of looked_at) gap
count_more looked_at gap = grind (arith, length-append, smallest_more looked_at gap)

-- the gap behind one train more
pub gap_more : (s : State) (before : List ℕ) (train next : ℕ) → next ≡ suc train →
    count_of (before ++ gaps_behind s next) ≡ with_gap (count_of (before ++ gaps_behind s train)) (gap s train)
gap_more s before train next e =
    ap (λ (n : ℕ). count_of (before ++ gaps_behind s n)) e
    ∙ ap count_of (sym (append_assoc before (gaps_behind s train) (gap s train ∷ [])))
    ∙ count_more (before ++ gaps_behind s train) (gap s train)

pub gap_true : (s : State) (train : ℕ) → AllPromised s → GapTrue s train
gap_true s train k = omega (arith, k.apart train)

-- what is counted so is right
lesser_right : (o : Option ℕ) (first : ℕ) (rest : List ℕ) → Smallest o rest → Smallest (Some (lesser o first)) (first ∷ rest)
lesser_right None first [] h = (inl refl, λ n m. elim m [ inl e ↦ omega (arith, e) | inr none ↦ absurd none ])
lesser_right None first (next ∷ rest) h = absurd (grind (arith, h))
lesser_right (Some smallest) first rest h = elim (dec_le smallest first) [
  | yes l ↦ let e : min smallest first ≡ smallest = omega arith in
      (inr (subst (λ (x : ℕ). Among x rest) (sym e) h.0), λ n m. elim m [ inl q ↦ omega (arith, q) | inr k ↦ omega (arith, h.1 n k) ])
  | no l ↦ let e : min smallest first ≡ first = omega arith in
      (inl e, λ n m. elim m [ inl q ↦ omega (arith, q) | inr k ↦ omega (arith, h.1 n k) ])
]

smallest_right : (gaps : List ℕ) → Smallest (smallest_of gaps) gaps
smallest_right [] = refl
smallest_right (first ∷ rest) = lesser_right (smallest_of rest) first rest (smallest_right rest)

pub count_right : (g : Gaps) (gaps : List ℕ) → g ≡ count_of gaps → Counted g gaps
count_right g gaps e = subst (λ (h : Gaps). Counted h gaps) (sym e) (record { count = refl; smallest = smallest_right gaps })

-- and only that is
one_smallest : (o p : Option ℕ) (gaps : List ℕ) → Smallest o gaps → Smallest p gaps → o ≡ p
one_smallest None None gaps h k = refl
one_smallest None (Some least) gaps h k = absurd (subst (Among least) h k.0)
one_smallest (Some least) None gaps h k = absurd (subst (Among least) k h.0)
one_smallest (Some least) (Some other) gaps h k = ap Some (omega (arith, h.1 other k.0, k.1 least h.0))

pub count_is : (g : Gaps) (gaps : List ℕ) → Counted g gaps → g ≡ count_of gaps
count_is g gaps h = grind (arith, h.count, one_smallest g.smallest (smallest_of gaps) gaps h.smallest (smallest_right gaps))

-- the gaps of two lists are those of both
pub among_first : (n : ℕ) (before after : List ℕ) → Among n before → Among n (before ++ after)
among_first n [] after among = absurd among
among_first n (first ∷ before) after among = elim among [ inl e ↦ inl e | inr rest ↦ inr (among_first n before after rest) ]

pub among_next : (n : ℕ) (before after : List ℕ) → Among n after → Among n (before ++ after)
among_next n [] after among = among
among_next n (first ∷ before) after among = inr (among_next n before after among)

pub least_of_both : (least : ℕ) (before after : List ℕ) → ((n : ℕ) → Among n before → least ≤ n) → ((n : ℕ) → Among n after → least ≤ n) →
    (n : ℕ) → Among n (before ++ after) → least ≤ n
least_of_both least [] after one other n among = other n among
least_of_both least (first ∷ before) after one other n among = elim among [
  | inl e ↦ one n (inl e)
  | inr rest ↦ least_of_both least before after (λ m among. one m (inr among)) other n rest
]

smallest_of_both : (one other : Option ℕ) (before after : List ℕ) → Smallest one before → Smallest other after → Smallest (smaller one other) (before ++ after)
smallest_of_both None other [] after first next = next
smallest_of_both None other (n ∷ before) after first next = absurd (grind (arith, first))
smallest_of_both (Some one) None before [] first next = rw (append-nil before) first
smallest_of_both (Some one) None before (n ∷ after) first next = absurd (grind (arith, next))
smallest_of_both (Some one) (Some other) before after first next = elim (dec_le one other) [
  | yes l ↦ let e : min one other ≡ one = omega arith in
      rw e (among_first one before after first.0, least_of_both one before after first.1 (λ n among. omega (arith, next.1 n among)))
  | no l ↦ let e : min one other ≡ other = omega arith in
      rw e (among_next other before after next.0, least_of_both other before after (λ n among. omega (arith, first.1 n among)) next.1)
]

pub both_right : (g h both : Gaps) (before after : List ℕ) → both.smallest ≡ smaller g.smallest h.smallest →
    (length (before ++ after) < 2 ^ 128 → both.count ≡ g.count + h.count) →
    Counted g before → Counted h after → length (before ++ after) < 2 ^ 128 → Counted both (before ++ after)
both_right g h both before after smallest count first next few =
    record {
      count = omega (arith, length-append before after, first.count, next.count, count few);
      smallest = rw smallest (smallest_of_both g.smallest h.smallest before after first.smallest next.smallest);
    }
