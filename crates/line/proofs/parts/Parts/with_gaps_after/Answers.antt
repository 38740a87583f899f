use Rattle.std.proofs.Common.{ap₂, ◌∙◌, arith}
use Rattle.line.specs.Inside.{with_more}
use Rattle.line.specs.Steps.{state}
use Rattle.line.proofs.Nearing.{next_count}
use Rattle.line.proofs.parts.Parts.with_gaps_after.Goals as goal

pub returns-clause-looked_at : goal.returns-clause-looked_at
returns-clause-looked_at c = λ s before after all counted.
    c.with_more.ensures ∙ ap₂ (with_more c.args.gaps) (grind arith) c.narrowed.ensures
    ∙ next_count s c.args.event (state c.args.self.now) c.args.gaps before after all counted
