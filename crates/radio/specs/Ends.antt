-- What units and controllers make of bytes that come, and the bytes that they send. Assumes nothing: these are definitions.
use Rattle.std.specs.Prelude.{ℕ, List, Ok, Result}
use Rattle.braking.specs.declared.refusal.Refusal.{Refusal}
use Rattle.braking.specs.Refusals.{and_then}
use Rattle.onboard.specs.declared.unit.Onboard.{Onboard}
use Rattle.onboard.specs.Steps.{after_take, reported}
use Rattle.message.specs.declared.message.Message.TheVariants.{Report, Grant}
use Rattle.message.specs.declared.message.Message.{Message}
use Rattle.message.specs.Bytes.{received, written}
use Rattle.controller.specs.declared.controller.Controller.{Controller}
use Rattle.controller.specs.Steps.{after_hear, told, granted}

-- a unit takes a grant; a report changes nothing in it
abbrev pub taken : Onboard → Message → Result Onboard Refusal
taken u (Report train place) = Ok u
taken u (Grant train place) = after_take u (record { train = train; place = place })

-- a unit after bytes have come to it, or why they are turned away
abbrev pub after_taking : Onboard → List ℕ → Result Onboard Refusal
after_taking u bytes = and_then (received bytes) (taken u)

-- a controller after bytes have come to it, or why they are turned away: it hears whatever message they are
abbrev pub after_hearing : Controller → List ℕ → Result Controller Refusal
after_hearing c bytes = and_then (received bytes) (after_hear c)

-- a unit's report of its own train, as bytes
abbrev pub report_bytes : Onboard → Result (List ℕ) Refusal
report_bytes u = and_then (reported u) (λ place. written (Report u.train place))

-- what a controller tells of a train, and what it grants by it, as bytes
abbrev pub tell_bytes : Controller → ℕ → Result (List ℕ) Refusal
tell_bytes c train = and_then (told c train) written

abbrev pub grant_bytes : Controller → ℕ → Result (List ℕ) Refusal
grant_bytes c train = and_then (granted c train) written
