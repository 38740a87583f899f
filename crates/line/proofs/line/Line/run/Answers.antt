use Rattle.std.proofs.Common.{◌≡◌, [], refl, sym, ap, ◌∙◌, arith}
use Rattle.std.proofs.lemmas.List.{append-nil}
use Rattle.line.specs.declared.gaps.Gaps.{Gaps}
use Rattle.line.specs.Inside.{count_of}
use Rattle.line.proofs.Counting.{count_right}
use Rattle.line.proofs.Nearing.{looked_at}
use Rattle.safety.proofs.Coming.{all_promised}
use Rattle.line.proofs.Running.{came_few, further}
use Rattle.line.proofs.line.Line.run.Goals.{then-done-eq0, else-done-eq0}
use Rattle.line.proofs.line.Line.run.Goals as goal

pub with_gaps-gaps-requires : goal.with_gaps-gaps-requires
with_gaps-gaps-requires c = grind (arith, c.loop-done.invariant.few, came_few _ c.record.new.self.came)

pub with_gaps_after-gaps-requires-clause-few : goal.with_gaps_after-gaps-requires-clause-few
with_gaps_after-gaps-requires-clause-few c = grind (arith, c.loop-done.invariant.few, came_few _ c.record.new.self.came)

pub loop-done-init : goal.loop-done-init
loop-done-init c =
    let first : c.none-gaps.result ≡ count_of [] = c.none-gaps.ensures in
    record {
      can_be = tt;
      is = refl;
      promised = all_promised _ _ 0 c.args.self.now.came tt;
      seen = sym (append-nil _);
      gaps = first;
      right = count_right _ [] first;
      few = omega (arith, ap (λ (g : Gaps). g.count) first);
    }

pub loop-done-preserved : goal.loop-done-preserved
loop-done-preserved c =
    let i = c.loop-done.invariant in
    let next = further _ _ _ _ _ _ _ _ _ c.loop-done-test.true i.can_be i.is i.seen c.in_default.ensures in
    let gaps : c.if-done-eq0.gaps ≡ count_of _ = elim c.if-done-eq0.branch [
      | then-done-eq0 w ↦ w.gaps-is ∙ w.with_gaps-gaps.ensures.looked_at _ i.gaps ∙ ap count_of next.gaps
      | else-done-eq0 w ↦ w.gaps-is ∙ w.with_gaps_after-gaps.ensures.looked_at _ _ (record { can_be = c.in_default.ensures.0; is = c.in_default.ensures.1 })
          (looked_at _ _ _ _ c.loop-done-test.true w.if-done-eq0.false i.is) i.gaps ∙ ap count_of next.gaps
    ] in
    record {
      can_be = next.can_be;
      is = next.is;
      seen = next.seen;
      gaps = gaps;
      right = count_right _ _ gaps;
      promised = all_promised _ _ _ c.args.self.now.came next.can_be;
      few = elim c.if-done-eq0.branch [
        | then-done-eq0 w ↦ omega (arith, i.few, ap (λ (g : Gaps). g.count) w.gaps-is, w.with_gaps-gaps.ensures.few, came_few _ c.record.new.self.came)
        | else-done-eq0 w ↦ omega (arith, i.few, ap (λ (g : Gaps). g.count) w.gaps-is, w.with_gaps_after-gaps.ensures.few, came_few _ c.record.new.self.came)
      ];
    }
