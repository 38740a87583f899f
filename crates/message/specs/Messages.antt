-- What a message says, and which messages there can be. Assumes nothing: these are definitions.
use Rattle.std.specs.Prelude.{ℕ, Bool, true, not, ◌==◌}
use Rattle.braking.specs.declared.refusal.Refusal.TheVariants.{GrantToForemost}
use Rattle.braking.specs.Refusals.{Checked, check, ◌then◌}
use Rattle.braking.specs.Limits.{train_checked, place_checked}
use Rattle.message.specs.declared.message.Message.{Message}
use Rattle.message.specs.declared.message.Message.TheVariants.{Report, Grant}

-- the number of each kind, which is its first byte
abbrev pub kind_of : Message → ℕ
kind_of (Report train place) = 1
kind_of (Grant train place) = 2

abbrev pub train_of : Message → ℕ
train_of (Report train place) = train
train_of (Grant train place) = train

abbrev pub place_of : Message → ℕ
place_of (Report train place) = place
place_of (Grant train place) = place

-- nobody grants to train 0
abbrev pub may_be_for : Message → Bool
may_be_for (Report train place) = true
may_be_for (Grant train place) = not (train == 0)

-- whether there can be such a message: the train is looked at before the place
abbrev pub message_checked : Message → Checked
message_checked m = train_checked (train_of m) then check (may_be_for m) GrantToForemost then place_checked (place_of m)
