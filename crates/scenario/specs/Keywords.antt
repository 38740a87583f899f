-- The words that a line can begin with. Assumes nothing: these are definitions.
use Rattle.std.specs.Prelude.{ℕ, List, codes, Option, Some, None, if◌then◌else◌}
use Rattle.std.specs.Str.{bytes_eq}
use Rattle.scenario.specs.declared.keyword.Keyword.{Keyword}
use Rattle.scenario.specs.declared.keyword.Keyword.TheVariants as keywords

-- the keyword that a word is, if it is one
abbrev pub keyword_of : List ℕ → Option Keyword
keyword_of word =
    if bytes_eq word (codes "brake") then Some keywords.Brake
    else (if bytes_eq word (codes "blur") then Some keywords.Blur
    else (if bytes_eq word (codes "controllers") then Some keywords.Controllers
    else (if bytes_eq word (codes "train") then Some keywords.Train
    else (if bytes_eq word (codes "tick") then Some keywords.Tick
    else (if bytes_eq word (codes "mark") then Some keywords.Mark
    else (if bytes_eq word (codes "report") then Some keywords.Report
    else (if bytes_eq word (codes "hear") then Some keywords.Hear
    else (if bytes_eq word (codes "tell") then Some keywords.Tell
    else (if bytes_eq word (codes "grant") then Some keywords.Grant
    else (if bytes_eq word (codes "take") then Some keywords.Take
    else (if bytes_eq word (codes "restart") then Some keywords.Restart
    else None)))))))))))

abbrev pub spelling : Keyword → List ℕ
spelling keywords.Brake = codes "brake"
spelling keywords.Blur = codes "blur"
spelling keywords.Controllers = codes "controllers"
spelling keywords.Train = codes "train"
spelling keywords.Tick = codes "tick"
spelling keywords.Mark = codes "mark"
spelling keywords.Report = codes "report"
spelling keywords.Hear = codes "hear"
spelling keywords.Tell = codes "tell"
spelling keywords.Grant = codes "grant"
spelling keywords.Take = codes "take"
spelling keywords.Restart = codes "restart"
