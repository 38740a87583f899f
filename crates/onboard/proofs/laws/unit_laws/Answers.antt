use Rattle.onboard.proofs.Trains as t
use Rattle.onboard.proofs.laws.unit_laws.Goals as goal

pub returns-clause-can_stop_stays : goal.returns-clause-can_stop_stays
returns-clause-can_stop_stays c = t.can_stop_stays

pub returns-clause-standing_sound : goal.returns-clause-standing_sound
returns-clause-standing_sound c = t.standing_sound

pub returns-clause-sound_stays : goal.returns-clause-sound_stays
returns-clause-sound_stays c = t.sound_stays

pub returns-clause-sound_answers : goal.returns-clause-sound_answers
returns-clause-sound_answers c = t.sound_answers

pub returns-clause-worked_day : goal.returns-clause-worked_day
returns-clause-worked_day c = t.worked_day
