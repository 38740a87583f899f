use Rattle.radio.proofs.Passed as p
use Rattle.radio.proofs.laws.radio_laws.Goals as goal

pub returns-clause-report_heard : goal.returns-clause-report_heard
returns-clause-report_heard c = p.report_heard

pub returns-clause-tell_heard : goal.returns-clause-tell_heard
returns-clause-tell_heard c = p.tell_heard

pub returns-clause-grant_heard : goal.returns-clause-grant_heard
returns-clause-grant_heard c = p.grant_heard

pub returns-clause-fresh_end : goal.returns-clause-fresh_end
returns-clause-fresh_end c = p.fresh_end

pub returns-clause-fresh_if_taken : goal.returns-clause-fresh_if_taken
returns-clause-fresh_if_taken c = p.fresh_if_taken
