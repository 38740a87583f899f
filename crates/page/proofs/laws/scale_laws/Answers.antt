use Rattle.page.proofs.Scales.{fills, inside}
use Rattle.page.proofs.laws.scale_laws.Goals as goal

pub returns-clause-fills : goal.returns-clause-fills
returns-clause-fills c = fills

pub returns-clause-inside : goal.returns-clause-inside
returns-clause-inside c = inside
