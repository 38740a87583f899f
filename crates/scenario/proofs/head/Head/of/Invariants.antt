use Rattle.std.proofs.Common.{◌≡◌, ◌++◌, drop}
use Rattle.std.specs.List.{fold}
use Rattle.scenario.specs.Heads.{brakes_of, controllers_of, trains_of, with_brakes, with_controllers}
use Rattle.scenario.proofs.head.Head.of.Given as goal

-- what was given so far, with what the lines that are left give, is what all lines give
abbrev pub invariant-loop-line : goal.invariant-loop-line
invariant-loop-line l =
    let rest = drop l.line-index l.lines in
    record {
      brakes : fold with_brakes l.brakes rest ≡ brakes_of l.lines;
      controllers : fold with_controllers l.controllers rest ≡ controllers_of l.lines;
      trains : l.trains.items ++ trains_of rest ≡ trains_of l.lines;
    }
