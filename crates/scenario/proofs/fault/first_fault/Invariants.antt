use Rattle.std.proofs.Common.{◌≡◌, ◌+◌, ℕ, drop}
use denote.Shadow.{shadow}
use denote.Text.{Utf8}
use Rattle.scenario.specs.declared.fault.Part.{Part}
use Rattle.scenario.specs.Faults.{FaultAt}
use Rattle.text.specs.Words.{words}
use Rattle.scenario.proofs.fault.first_fault.Given as goal

-- what is left of the line are its words from the next place on, and the first fault of what is left is that of the line
abbrev pub invariant-loop-index : goal.invariant-loop-index
invariant-loop-index l =
    shadow (Utf8 l.rest) × record {
      rest : words l.rest ≡ drop (l.index + 1) (words l.line);
      first : (place : ℕ) (expected : Part) → FaultAt (drop l.index l.form) (words l.rest) place expected → FaultAt l.form (words l.initial.rest) (l.index + place) expected;
    }
