-- The smallest of the gaps that were looked at, and one more.
use Rattle.std.proofs.Common.{◌≡◌, ℕ, ◌+◌, ◌-◌, ◌<◌, ◌≤◌, List, length, None, Some, Option, get_or, refl, sym, ap, ◌∙◌, subst, arith}
use native.Mathlib.Decide.{dec_le}
use Rattle.std.proofs.lemmas.Bool.Decides.{nat_tests}
use Rattle.std.proofs.lemmas.Option.{slice_get-get_or, slice_get_within}
use Rattle.onboard.specs.declared.train.Train.{Train}
use Rattle.picture.specs.declared.nearest.Gap.{Gap}
use Rattle.picture.specs.Nearest.{Neighbours, SmallestGap, gap_between, gap_of, smaller_gap}

-- the smallest of the first so many gaps
pub record ClosestOf (trains : List Train) (looked_at : ℕ) (gap : Gap) : Type 0 where
  pub among : gap.ahead < looked_at
  pub there : Neighbours trains gap
  pub smallest : (other : Gap) → Neighbours trains other → other.ahead < looked_at → gap_between gap ≤ gap_between other
  pub foremost : (other : Gap) → Neighbours trains other → other.ahead < gap.ahead → gap_between gap < gap_between other

abbrev pub SmallestOf : List Train → ℕ → Option Gap → Type 0
SmallestOf trains looked_at None = looked_at ≡ 0
SmallestOf trains looked_at (Some gap) = ClosestOf trains looked_at gap

-- there is one gap at each number
one_gap : (trains : List Train) (gap other : Gap) → Neighbours trains gap → Neighbours trains other → gap.ahead ≡ other.ahead → gap_between gap ≡ gap_between other
one_gap trains gap other one two same = grind (arith, one.ahead, one.next, one.is, two.ahead, two.next, two.is, same)

more_than_none : (trains : List Train) (next : Gap) → Neighbours trains next → next.ahead ≡ 0 → ClosestOf trains 1 next
more_than_none trains next there number = record {
  among = omega (arith, number);
  there = there;
  smallest = λ other is few. omega (arith, one_gap trains next other there is (omega (arith, few, number)));
  foremost = λ other is few. absurd (omega (arith, few, number));
}

-- the next is smaller
smaller : (trains : List Train) (looked_at : ℕ) (gap next : Gap) → ClosestOf trains looked_at gap → Neighbours trains next → next.ahead ≡ looked_at →
    gap_between next < gap_between gap → ClosestOf trains (looked_at + 1) next
smaller trains looked_at gap next before there number less = record {
  among = omega (arith, number);
  there = there;
  smallest = λ other is few. elim (dec_le (other.ahead + 1) looked_at) [
    | yes l ↦ omega (arith, less, before.smallest other is (omega (arith, l)))
    | no l ↦ omega (arith, one_gap trains next other there is (omega (arith, few, number, l)))
  ];
  foremost = λ other is few. omega (arith, less, before.smallest other is (omega (arith, few, number)));
}

-- it is not
not_smaller : (trains : List Train) (looked_at : ℕ) (gap next : Gap) → ClosestOf trains looked_at gap → Neighbours trains next → next.ahead ≡ looked_at →
    gap_between gap ≤ gap_between next → ClosestOf trains (looked_at + 1) gap
not_smaller trains looked_at gap next before there number more = record {
  among = omega (arith, before.among);
  there = before.there;
  smallest = λ other is few. elim (dec_le (other.ahead + 1) looked_at) [
    | yes l ↦ before.smallest other is (omega (arith, l))
    | no l ↦ omega (arith, more, one_gap trains next other there is (omega (arith, few, number, l)))
  ];
  foremost = before.foremost;
}

pub one_more : (trains : List Train) (looked_at : ℕ) (gap : Option Gap) (next : Gap) →
    SmallestOf trains looked_at gap → Neighbours trains next → next.ahead ≡ looked_at →
    SmallestOf trains (looked_at + 1) (Some (smaller_gap gap next))
one_more trains looked_at None next before there number =
    subst (λ (n : ℕ). ClosestOf trains (n + 1) next) (sym before) (more_than_none trains next there (number ∙ before))
one_more trains looked_at (Some gap) next before there number = elim (dec_le (gap_between gap) (gap_between next)) [
  | yes l ↦ let e : smaller_gap (Some gap) next ≡ gap = grind (arith, nat_tests, l) in
      subst (λ (g : Gap). ClosestOf trains (looked_at + 1) g) (sym e) (not_smaller trains looked_at gap next before there number l)
  | no l ↦ let e : smaller_gap (Some gap) next ≡ next = grind (arith, nat_tests, l) in
      subst (λ (g : Gap). ClosestOf trains (looked_at + 1) g) (sym e) (smaller trains looked_at gap next before there number (omega (arith, l)))
]

-- in a list that is read by its indices
pub next_looked_at : (trains : List Train) (looked_at : ℕ) (gap : Option Gap) (next new : Gap) (one two : Train) → looked_at + 1 < length trains →
    next ≡ gap_of looked_at (get_or trains looked_at one) (get_or trains (looked_at + 1) two) → SmallestOf trains looked_at gap → new ≡ smaller_gap gap next →
    ClosestOf trains (looked_at + 1) new
next_looked_at trains looked_at gap next new one two few is before e =
    let number : next.ahead ≡ looked_at = ap (λ (g : Gap). g.ahead) is in
    let there : Neighbours trains (gap_of looked_at (get_or trains looked_at one) (get_or trains (looked_at + 1) two)) = record {
      train = get_or trains looked_at one;
      behind = get_or trains (looked_at + 1) two;
      ahead = slice_get-get_or trains looked_at one (omega (arith, few));
      next = slice_get-get_or trains (looked_at + 1) two few;
      is = refl;
    } in
    subst (λ (g : Gap). ClosestOf trains (looked_at + 1) g) (sym e) (one_more trains looked_at gap next before (subst (Neighbours trains) (sym is) there) number)

-- those that were looked at are all
pub all : (trains : List Train) (gap : Option Gap) → SmallestOf trains (length trains - 1) gap → SmallestGap trains gap
all trains None none = omega (arith, none)
all trains (Some gap) h = record {
  there = h.there;
  smallest = λ other is. h.smallest other is (omega (arith, slice_get_within trains (other.ahead + 1) is.behind is.next));
  foremost = h.foremost;
}
