-- In which words faults are told. Assumes nothing: these are definitions.
use Rattle.std.specs.Prelude.{ℕ, Bool, List, ◌++◌, ◌&&◌, if◌then◌else◌, nat_le, length, codes, decimal, Some, None, Option}
use Rattle.std.specs.List.{list_all}
use Rattle.std.specs.Char.{is_ascii_graphic}
use Rattle.std.specs.Borrow.{Bor}
use Rattle.scenario.specs.declared.fault.Fault.{Fault}
use Rattle.scenario.specs.declared.fault.Part.{Part}
use Rattle.scenario.specs.declared.fault.Part.TheVariants as parts
use Rattle.scenario.specs.Faults.{text_of}

-- the words that a line can begin with
unfoldable pub keywords_text : List ℕ
keywords_text = codes "brake, blur, controllers, train, tick, mark, report, hear, tell, grant, take or restart"

-- what a number is
unfoldable pub number_text : List ℕ
number_text = codes "a number below 2^64 without sign or leading zero"

-- what has to stand at a place of a line
abbrev pub part_text : Part → List ℕ
part_text parts.Keyword = keywords_text
part_text parts.Number = number_text
part_text parts.Wish = codes "a wish from 0 to 10000"
part_text (parts.Word between) = codes "'" ++ (text_of between ++ codes "'")
part_text parts.End = codes "the end of the line"

-- a word of 40 bytes at most, each of which a terminal shows as one sign (33 to 126): such a word is shown as it stands
abbrev pub is_shown : List ℕ → Bool
is_shown word = nat_le (length word) 40 && list_all is_ascii_graphic word

-- a word that was found: as it stands, or how long it is
abbrev pub word_text : List ℕ → List ℕ
word_text word =
    if is_shown word then codes "'" ++ (word ++ codes "'") else codes "a word of " ++ (decimal (length word) ++ codes " bytes")

-- what stands there instead
abbrev pub found_text : Option (Bor (List ℕ)) → List ℕ
found_text None = codes "the end of the line"
found_text (Some word) = word_text word.now

-- a fault of a line
abbrev pub fault_text : Fault → List ℕ
fault_text fault = codes "expected " ++ (part_text fault.expected ++ (codes ", found " ++ found_text fault.found))
