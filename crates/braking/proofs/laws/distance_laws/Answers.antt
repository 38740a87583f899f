use Rattle.braking.proofs.Distances as d
use Rattle.braking.proofs.laws.distance_laws.Goals as goal

pub returns : goal.returns
returns c = record { rule = d.rule; less_speed = d.less_speed; braking_leaves = d.braking_leaves; most = d.most; worked_example = d.worked_example }
