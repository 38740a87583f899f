-- The line of a tick, written from its end.
use Rattle.std.proofs.Common.{◌≡◌, ℕ, List, ◌++◌, length, drop, codes, decimal, refl, arith}
use Rattle.std.proofs.lemmas.List.{drop_all}
use Rattle.line.specs.declared.seen.Seen.{Seen}
use Rattle.play.specs.Ticks.{tick_line, word_text}

pub line_written : (tick : Seen) (whole first second third fourth fifth blank : List ℕ) → length blank ≡ 80 →
    whole ≡ decimal tick.train ++ first → first ≡ word_text tick.word ++ second → second ≡ decimal tick.speed ++ third →
    third ≡ codes " at " ++ fourth → fourth ≡ decimal tick.front ++ fifth → fifth ≡ codes "\n" ++ drop 80 blank → whole ≡ tick_line tick
line_written tick whole first second third fourth fifth blank long a b c d e f =
    rw (a, b, c, d, e, f, drop_all 80 blank (omega (arith, long))) refl
