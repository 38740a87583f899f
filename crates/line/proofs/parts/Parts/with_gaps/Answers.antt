use Rattle.std.proofs.Common.{◌+◌, sym, ap₂, ◌∙◌, arith}
use Rattle.line.specs.Inside.{with_gap}
use Rattle.line.specs.Steps.{state}
use Rattle.line.proofs.Counting.{gap_more}
use Rattle.line.proofs.parts.Parts.with_gaps.Goals as goal

pub loop-train-preserved : goal.loop-train-preserved
loop-train-preserved c =
    (grind arith, λ before e. c.with-gaps.ensures ∙ ap₂ with_gap (c.loop-train.invariant.1 before e) c.gap.ensures ∙ sym (gap_more (state c.args.self.now) before c.loop-train.train (c.loop-train.train + 1) (omega arith)))
