use Rattle.text.specs.Plain.{AreDigits}
use Rattle.text.proofs.plain.digits.Given as goal

abbrev pub invariant-loop-count : goal.invariant-loop-count
invariant-loop-count l = AreDigits l.text l.count l.number
