use Rattle.text.proofs.Cuts.{cut_after_blanks, cut_before_blank}
use Rattle.text.proofs.words.next_word.Goals as goal

pub split_at-requires : goal.split_at-requires
split_at-requires c = cut_after_blanks _ _ c.utf8.line c.blanks-start.ensures

pub split_at-requires-2 : goal.split_at-requires-2
split_at-requires-2 c = cut_before_blank _ _ c.word_length-length.ensures
