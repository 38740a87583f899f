-- What the words after --random ask for. Assumes nothing: these are definitions.
use Rattle.std.specs.Prelude.{◌≡◌, ℕ, ◌-◌, ◌^◌, true, false, ◌&&◌, ◌==◌, not, List, [], ◌∷◌, codes, decimal, nat_le, if◌then◌else◌, Some, None, Option, Ok, Err, Result}
use Rattle.std.specs.Str.{bytes_eq}
use Rattle.std.specs.Str.Parse.{digits_value}
use Rattle.std.specs.Option.{unwrap_or}
use Rattle.braking.specs.Limits.{trains_max, controllers_max}
use Rattle.arguments.specs.declared.asked_days.Setting.{Setting}
use Rattle.arguments.specs.declared.asked_days.Setting.TheVariants.{Seed, Days, Events, Trains, Controllers}
use Rattle.arguments.specs.declared.asked_days.RandomDays.{RandomDays}
use Rattle.arguments.specs.declared.asked_days.GivenDays.{GivenDays}
use Rattle.arguments.specs.declared.asked_days.DaysError.{DaysError}
use Rattle.arguments.specs.declared.asked_days.DaysError.TheVariants as errors
use Rattle.arguments.specs.declared.asked_days.Choice.{Choice}
use Rattle.arguments.specs.declared.asked_days.Choice.TheVariants as choices

pub data AskedDays : Type 0 where
  days : RandomDays → AskedDays
  unknown : (word : List ℕ) → AskedDays
  no_number : Setting → AskedDays
  wrong_number : Setting → (word : List ℕ) → AskedDays
  write_one_day : AskedDays

-- the largest number that a setting can have
abbrev pub most_of : Setting → ℕ
most_of Seed = 2 ^ 64 - 1
most_of Days = 2 ^ 64 - 1
most_of Events = 2 ^ 64 - 1
most_of Trains = trains_max
most_of Controllers = controllers_max

-- the number that a word writes in decimal digits, with no sign and no leading zero, if there is one and it is not too high
abbrev pub number_in : (most : ℕ) → List ℕ → Option ℕ
number_in most word = if bytes_eq word (decimal (digits_value 10 word)) && nat_le (digits_value 10 word) most then Some (digits_value 10 word) else None

-- what a word means after --random and its number
abbrev pub choice_of : List ℕ → Choice
choice_of word =
    if bytes_eq word (codes "--quiet") then choices.Quiet
    else (if bytes_eq word (codes "--write") then choices.Write
    else (if bytes_eq word (codes "--days") then choices.Number Days
    else (if bytes_eq word (codes "--events") then choices.Number Events
    else (if bytes_eq word (codes "--trains") then choices.Number Trains
    else (if bytes_eq word (codes "--controllers") then choices.Number Controllers
    else choices.Unknown)))))

abbrev pub with_number : GivenDays → Setting → ℕ → GivenDays
with_number g Seed n = record g { seed = n }
with_number g Days n = record g { days = Some n }
with_number g Events n = record g { events = Some n }
with_number g Trains n = record g { trains = Some n }
with_number g Controllers n = record g { controllers = Some n }

-- where no word follows: what was not given is one day of 400 events, with at most five trains and two controllers
abbrev pub after_words : GivenDays → AskedDays
after_words g =
    if g.write && not (unwrap_or g.days 1 == 1) then write_one_day
    else days (record {
      seed = g.seed;
      days = unwrap_or g.days 1;
      events = unwrap_or g.events 400;
      trains = unwrap_or g.trains 5;
      controllers = unwrap_or g.controllers 2;
      quiet = g.quiet;
      write = g.write;
    })

-- what is asked for by a number, if a word writes one, and by a choice
abbrev pub by_number : Option ℕ → (otherwise : AskedDays) → (ℕ → AskedDays) → AskedDays
by_number None otherwise next = otherwise
by_number (Some n) otherwise next = next n

abbrev pub by_choice : Choice → (word : List ℕ) → (quiet write : AskedDays) → (Setting → AskedDays) → AskedDays
by_choice choices.Quiet word quiet write number = quiet
by_choice choices.Write word quiet write number = write
by_choice (choices.Number setting) word quiet write number = number setting
by_choice choices.Unknown word quiet write number = unknown word

-- word after word; `wanted` is the setting whose number comes next
abbrev pub asked_from : (wanted : Option Setting) → GivenDays → List (List ℕ) → AskedDays
asked_from None g [] = after_words g
asked_from (Some setting) g [] = no_number setting
asked_from (Some setting) g (word ∷ words) =
    by_number (number_in (most_of setting) word) (wrong_number setting word) (λ n. asked_from None (with_number g setting n) words)
asked_from None g (word ∷ words) =
    by_choice (choice_of word) word (asked_from None (record g { quiet = true }) words) (asked_from None (record g { write = true }) words)
    (λ setting. asked_from (Some setting) g words)

-- first comes the number of --random itself, the seed; until then it stands as 0
abbrev pub asked_days : List (List ℕ) → AskedDays
asked_days = asked_from (Some Seed) (record { quiet = false; write = false; seed = 0; days = None; events = None; trains = None; controllers = None })

-- the answer is what is asked for
abbrev pub AnswersDays : Result RandomDays DaysError → AskedDays → Type 0
AnswersDays (Ok asked) a = a ≡ days asked
AnswersDays (Err (errors.Unknown word)) a = a ≡ unknown word.now
AnswersDays (Err (errors.NoNumber setting)) a = a ≡ no_number setting
AnswersDays (Err (errors.WrongNumber setting word)) a = a ≡ wrong_number setting word.now
AnswersDays (Err errors.WriteOneDay) a = a ≡ write_one_day
