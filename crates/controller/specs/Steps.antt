-- What a controller knows, what each step makes of it, and what it answers. Assumes nothing: these are definitions.
use Rattle.std.specs.Prelude.{ℕ, ◌+◌, max, replicate, Ok, Result, slice_index, slice_set}
use Rattle.braking.specs.declared.refusal.Refusal.{Refusal}
use Rattle.braking.specs.Refusals.{◌then◌}
use Rattle.braking.specs.Limits.{trains_max}
use Rattle.message.specs.declared.message.Message.{Message}
use Rattle.message.specs.declared.message.Message.TheVariants.{Report, Grant}
use Rattle.message.specs.Messages.{message_checked}
use Rattle.controller.specs.declared.controller.Controller.{Controller}

-- the place that the rear of a train is not behind, as far as the controller knows; 0 where there can be no such train
abbrev pub known : Controller → ℕ → ℕ
known c train = slice_index c.heard train

-- a controller that has heard nothing
abbrev pub silent : Controller
silent = record { heard = replicate trains_max 0 }

-- with a report: the farther of the two places is kept
abbrev pub with_report : Controller → (train place : ℕ) → Controller
with_report c train place = record { heard = slice_set c.heard train (max (known c train) place) }

-- with a message: only a report tells a controller anything
abbrev pub with_message : Controller → Message → Controller
with_message c (Report train place) = with_report c train place
with_message c (Grant train place) = c

-- after hearing a message, or why it is turned away
abbrev pub after_hear : Controller → Message → Result Controller Refusal
after_hear c m = message_checked m then Ok (with_message c m)

-- a message, or why there is no such one
abbrev pub checked : Message → Result Message Refusal
checked m = message_checked m then Ok m

-- what the controller tells others of a train
abbrev pub told : Controller → ℕ → Result Message Refusal
told c train = checked (Report train (known c train))

-- what it grants by what it knows of a train: the grant is for the train behind
abbrev pub granted : Controller → ℕ → Result Message Refusal
granted c train = checked (Grant (train + 1) (known c train))
