use Rattle.std.proofs.lemmas.Bool.Decides.{Decides-eqb}
use Rattle.text.proofs.OnePass.{word_missing, word_taken}
use Rattle.text.proofs.plain.without.Goals as goal

pub returns-clause-written : goal.returns-clause-written
returns-clause-written c = word_taken Decides-eqb _ _ _ c.strip_prefix.ensures.cases

pub returns-clause-none : goal.returns-clause-none
returns-clause-none c = word_missing Decides-eqb _ _ _ c.strip_prefix.ensures.cases
