use Rattle.std.proofs.Common.{rules}
use Rattle.picture.proofs.drawing.Drawing.after.Goals as goal

pub returns-then-column-before : goal.returns-then-column-before
returns-then-column-before c = record {
  events = search rules;
  ticks = search rules;
  scale = search rules;
  columns = search rules;
  same = search rules;
  next = search rules;
  messages = record {
    heard = c.note.new.self.messages;
    hears = search rules;
    sent = c.note_sent.new.self.messages;
    sends = search rules;
    same = search rules;
    next = search rules;
  };
  gap = c.smallest_gap.result;
  smallest = search rules;
  nearest = search rules;
}

pub returns : goal.returns
returns c = record {
  events = search rules;
  ticks = search rules;
  scale = search rules;
  columns = search rules;
  same = search rules;
  next = search rules;
  messages = record {
    heard = c.note.new.self.messages;
    hears = search rules;
    sent = c.note_sent.new.self.messages;
    sends = search rules;
    same = search rules;
    next = search rules;
  };
  gap = c.smallest_gap.result;
  smallest = search rules;
  nearest = search rules;
}
