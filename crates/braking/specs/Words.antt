-- Refusals in words. Assumes nothing: these are definitions.
use Rattle.std.specs.Prelude.{ℕ, List, ◌++◌, codes, decimal}
use Rattle.braking.specs.declared.refusal.Refusal.{Refusal}
use Rattle.braking.specs.declared.refusal.Refusal.TheVariants.{BrakeRange, BlurRange, SpeedTooHigh, PlaceTooFar, MessageLength, MessageCheck, FirstByte, ThirdByte, FourthByte, TrainTooHigh, GrantToForemost, OtherTrain, TooManyTrains, TooManyControllers, NotInitial, Impossible}
use Rattle.braking.specs.Refusals.{listed}

-- what would be right; where that is not told in a few words, what is wrong
unfoldable pub reason : Refusal → List ℕ
reason BrakeRange = codes "a brake is from 1 to 100"
reason BlurRange = codes "a blur is from 0 to 100"
reason SpeedTooHigh = codes "a speed is at most 10000"
reason PlaceTooFar = codes "a place is at most 1000000000"
reason (MessageLength length) = codes "a message has 12 bytes"
reason MessageCheck = codes "a message ends with the check of its first 8 bytes"
reason FirstByte = codes "a message begins with 1 for a report or 2 for a grant"
reason ThirdByte = codes "a message's third and fourth bytes are 0"
reason FourthByte = codes "a message's third and fourth bytes are 0"
reason TrainTooHigh = codes "a train's number is at most 63"
reason GrantToForemost = codes "nobody grants to train 0, the foremost"
reason (OtherTrain train) = codes "a unit takes only grants for its own train"
reason TooManyTrains = codes "there are at most 64 trains"
reason TooManyControllers = codes "there are at most 8 controllers"
reason (NotInitial train) = codes "no day can begin with this train as it is given"
reason (Impossible line) = codes "this event cannot be"

-- a refusal: its number, its place and its reason
unfoldable pub refusal_text : Refusal → List ℕ
refusal_text r = codes "refused " ++ (decimal (listed r).0 ++ (codes " at " ++ (decimal (listed r).1 ++ (codes ": " ++ reason r))))
