use Rattle.std.proofs.Common.{◌≡◌, ℕ, ◌+◌, ◌++◌, List}
use Rattle.line.specs.Inside.{count_of}
use Rattle.line.specs.Runs.{gaps_behind}
use Rattle.line.specs.Steps.{state}
use Rattle.line.proofs.parts.Parts.with_gaps.Given as goal

abbrev pub invariant-loop-train : goal.invariant-loop-train
invariant-loop-train l =
    (l.gaps.count ≡ l.fn.gaps.count + l.train)
    × ((before : List ℕ) → l.fn.gaps ≡ count_of before → l.gaps ≡ count_of (before ++ gaps_behind (state l.self) l.train))
