use Rattle.std.proofs.Common.{refl}
use Rattle.picture.proofs.messages.Messages.send.Goals as goal

pub returns-clause-sent : goal.returns-clause-sent
returns-clause-sent c = record {
  next = record { number = c.count.result; kind = c.args.kind; place = c.place_said-place.result; at = c.point.result };
  number = c.count.ensures;
  kind = refl;
  place = c.place_said-place.ensures;
  across = c.point.ensures.across;
  height = c.point.ensures.height;
  goes_on = c.in_ok-push.ensures.items;
  column = c.with_sending-self.ensures;
}
