use Rattle.std.proofs.Common.{◌∙◌, refl}
use Rattle.std.proofs.lemmas.List.{take_rest}
use Rattle.text.proofs.GoingOn.{gone_one_line}
use Rattle.scenario.proofs.Plain.{plain_passed, plain_read}
use Rattle.scenario.proofs.lines.next_plain.Goals as goal

pub returns-clause-some : goal.returns-clause-some
returns-clause-some c =
    plain_read c.args.reader.now.line c.saturating_sub-read.result c.args.reader.now.rest.now c.in_ok-event.rest.now c.in_ok-rest.rest.now c.in_ok-event.event
    c.in_ok-event.ensures.fits (rw c.as_bytes.ensures.value at c.in_ok-event.ensures.written) c.saturating_sub-read.ensures
    (c.in_ok-rest.ensures.cases.0 ∙ take_rest c.args.reader.now.rest.now c.saturating_sub-read.result)

pub returns-clause-next : goal.returns-clause-next
returns-clause-next c = (
  refl,
  gone_one_line c.args.reader.now.line c.args.reader.now.rest.now c.in_ok-rest.rest.now
      (plain_passed c.saturating_sub-read.result c.args.reader.now.rest.now c.in_ok-event.rest.now c.in_ok-rest.rest.now c.in_ok-event.event
      c.in_ok-event.ensures.fits (rw c.as_bytes.ensures.value at c.in_ok-event.ensures.written) c.saturating_sub-read.ensures
      (c.in_ok-rest.ensures.cases.0 ∙ take_rest c.args.reader.now.rest.now c.saturating_sub-read.result)),
)
