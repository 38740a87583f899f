-- In which words it is told why something cannot be. Assumes nothing: these are definitions.
use Rattle.std.specs.Prelude.{ℕ, List, ◌++◌, codes, decimal}
use Rattle.reasons.specs.declared.impossible.WhyNot.{WhyNot}
use Rattle.reasons.specs.declared.impossible.WhyNot.TheVariants.{NoTrain, NoTrainBehind, NoController, NotSent, NoGrant, TooFast}
use Rattle.reasons.specs.declared.misplaced.Misplaced.{Misplaced}
use Rattle.reasons.specs.declared.misplaced.Misplaced.TheVariants.{Length, Low, Front, High, End}

-- that a message is no grant
unfoldable pub no_grant_text : ℕ → List ℕ
no_grant_text message = codes "message " ++ (decimal message ++ codes " is a report, and only a grant can be taken")

-- why an event cannot be
abbrev pub why_not_text : WhyNot → List ℕ
why_not_text (NoTrain train) = codes "there is no train " ++ decimal train
why_not_text (NoTrainBehind train) = codes "there is no train behind train " ++ decimal train
why_not_text (NoController controller) = codes "there is no controller " ++ decimal controller
why_not_text (NotSent message) = codes "no message " ++ (decimal message ++ codes " was sent yet")
why_not_text (NoGrant message) = no_grant_text message
why_not_text (TooFast fastest) = codes "the speed can be at most " ++ decimal fastest

-- why no day can begin with a train
abbrev pub misplaced_text : Misplaced → List ℕ
misplaced_text Length = codes "a train's length is at most its front"
misplaced_text Low = codes "low is at most the front"
misplaced_text Front = codes "the front is at most high"
misplaced_text High = codes "high is at most the end"
misplaced_text (End limit) = codes "the end is at most " ++ decimal limit
