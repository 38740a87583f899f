use Rattle.controller.proofs.Hearings as h
use Rattle.controller.proofs.laws.controller_laws.Goals as goal

pub returns-clause-farthest_known : goal.returns-clause-farthest_known
returns-clause-farthest_known c = h.farthest_known

pub returns-clause-order_free : goal.returns-clause-order_free
returns-clause-order_free c = h.order_free

pub returns-clause-silent_knows_nothing : goal.returns-clause-silent_knows_nothing
returns-clause-silent_knows_nothing c = h.silent_knows_nothing

pub returns-clause-silent_in_range : goal.returns-clause-silent_in_range
returns-clause-silent_in_range c = h.silent_in_range
