use Rattle.play.proofs.Lines.{line_written}
use Rattle.play.proofs.ticks.write_tick.Goals as goal

pub returns-clause-line : goal.returns-clause-line
returns-clause-line c =
    line_written c.args.tick _ _ _ _ _ _ c.args.line.now c.requires c.write_number.ensures.written (rw c.word_text.ensures.text at c.write_before-at-3.ensures.written)
    c.write_number-at-2.ensures.written c.write_before-at-2.ensures.written c.write_number-at.ensures.written c.write_before-at.ensures.written
