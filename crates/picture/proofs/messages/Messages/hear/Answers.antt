use Rattle.std.proofs.Common.{◌≡◌, ◌∙◌, ap, arith}
use Rattle.std.proofs.lemmas.Option.{get_or_from_slice_get}
use Rattle.picture.specs.declared.sending.Sending.{Sending}
use Rattle.picture.specs.Messages.{with_hearing}
use Rattle.picture.proofs.messages.Messages.hear.Goals as goal

pub returns-clause-heard : goal.returns-clause-heard
returns-clause-heard c = λ sending e.
    let is : c.in-Some.sending.now ≡ sending = grind (
      arith,
      c.in-Some.ensures.lookup,
      c.deref.ensures.value,
      get_or_from_slice_get c.args.self.now.sent.items c.args.message sending c.in-Some.sending.now e,
    ) in
    record {
      next = c.of-hearing.result;
      sending = c.of-hearing.ensures.of.0 ∙ is;
      taken = c.of-hearing.ensures.of.1;
      across = c.of-hearing.ensures.across;
      column = c.with_hearing-self.ensures ∙ ap (λ (s : Sending). with_hearing s.kind c.args.self.now.column c.of-hearing.result) (c.of-hearing.ensures.of.0 ∙ is);
      heard = c.saturating_add-self.ensures;
    }
