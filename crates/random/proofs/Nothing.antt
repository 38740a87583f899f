-- On a line with neither trains nor controllers nothing can happen. Assumes nothing.
use Rattle.std.proofs.Common.{◌≡◌, false, [], Ok, Err, Result, arith, refl}
use Rattle.std.proofs.lemmas.Bool.Decides.{nat_tests}
use Rattle.braking.specs.declared.refusal.Refusal.{Refusal}
use Rattle.message.specs.declared.message.Message.{Message}
use Rattle.message.specs.declared.message.Message.TheVariants as messages
use Rattle.message.specs.Bytes.{received}
use Rattle.safety.specs.declared.event.Event.{Event}
use Rattle.safety.specs.declared.event.Event.TheVariants.{Tick, Mark, Report, Hear, Tell, Grant, Take, Restart}
use Rattle.safety.specs.State.{State, message_at}
use Rattle.safety.specs.Events.{can_be, may_be_taken}

nothing_taken : (s : State) (m : Result Message Refusal) → s.trains ≡ [] → may_be_taken s m ≡ false
nothing_taken s (Ok (messages.Report train place)) none = refl
nothing_taken s (Ok (messages.Grant train place)) none = grind (arith, nat_tests, none)
nothing_taken s (Err why) none = refl

pub nothing_can : (s : State) → s.trains ≡ [] → s.controllers ≡ [] → (event : Event) → can_be s event ≡ false
nothing_can s trains controllers (Tick train wish speed) = grind (arith, nat_tests, trains)
nothing_can s trains controllers (Mark train) = grind (arith, nat_tests, trains)
nothing_can s trains controllers (Report train) = grind (arith, nat_tests, trains)
nothing_can s trains controllers (Hear controller message) = grind (arith, nat_tests, controllers)
nothing_can s trains controllers (Tell controller train) = grind (arith, nat_tests, controllers)
nothing_can s trains controllers (Grant controller train) = grind (arith, nat_tests, controllers)
nothing_can s trains controllers (Take message) = grind (arith, nat_tests, nothing_taken s (received (message_at s message)) trains)
nothing_can s trains controllers (Restart controller) = grind (arith, nat_tests, controllers)
