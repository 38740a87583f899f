use Rattle.std.proofs.Common.{◌≡◌, drop, map, string_bytes}
use Rattle.arguments.specs.AskedDays.{asked_days, asked_from}
use Rattle.arguments.proofs.asked_days.read_days.Given as goal

-- what the words so far and those that are left ask for is what all ask for
abbrev pub invariant-loop-word : goal.invariant-loop-word
invariant-loop-word l = asked_from l.wanted l.given (map string_bytes (drop l.word-index l.words)) ≡ asked_days (map string_bytes l.words)
