use Rattle.std.proofs.Common.{◌≡◌, ◌++◌, length, take}
use Rattle.std.specs.List.{flat_map}
use Rattle.play.specs.Ticks.{tick_line}
use Rattle.play.proofs.ticks.write_ticks.Given as goal

abbrev pub invariant-loop-tick : goal.invariant-loop-tick
invariant-loop-tick l = (l.text.items ≡ l.initial.text.items ++ flat_map tick_line (take l.tick-index l.seen)) × (length l.line ≡ 80)
