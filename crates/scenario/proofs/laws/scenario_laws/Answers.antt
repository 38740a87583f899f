use Rattle.scenario.proofs.OneReading.{one_reading}
use Rattle.scenario.proofs.ReadBack.{read_back}
use Rattle.scenario.proofs.laws.scenario_laws.Goals as goal

pub returns-clause-one_reading : goal.returns-clause-one_reading
returns-clause-one_reading c = one_reading

pub returns-clause-read_back : goal.returns-clause-read_back
returns-clause-read_back c = read_back
