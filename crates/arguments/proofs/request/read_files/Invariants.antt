use Rattle.std.proofs.Common.{◌≡◌, drop, map, string_bytes}
use Rattle.arguments.specs.Asked.{asked_files, asked_after, view}
use Rattle.arguments.proofs.request.read_files.Given as goal

-- what the words so far and those that are left ask for is what all ask for
abbrev pub invariant-loop-word : goal.invariant-loop-word
invariant-loop-word l = asked_after l.options l.wanted (view l.arguments) (map string_bytes (drop l.word-index l.given)) ≡ asked_files (map string_bytes l.given)
