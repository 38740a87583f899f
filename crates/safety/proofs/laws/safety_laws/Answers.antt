use Rattle.safety.proofs.Always as always
use Rattle.safety.proofs.Worked as worked
use Rattle.safety.proofs.laws.safety_laws.Goals as goal

pub returns-clause-promises_kept : goal.returns-clause-promises_kept
returns-clause-promises_kept c = always.promises_kept

pub returns-clause-worked_day : goal.returns-clause-worked_day
returns-clause-worked_day c = worked.worked_day
