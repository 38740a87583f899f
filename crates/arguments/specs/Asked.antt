-- What the words of a command line ask for. Assumes nothing: these are definitions.
use Rattle.std.specs.Prelude.{◌≡◌, ℕ, Bool, true, false, ◌==◌, ◌&&◌, ◌||◌, List, [], ◌∷◌, ◌++◌, length, map, codes, nat_lt, slice_index, if◌then◌else◌, nat_eq, Some, None, Option, Ok, Err, Result}
use Rattle.std.specs.Str.{bytes_eq}
use Rattle.std.specs.List.{ends_with}
use Rattle.std.specs.Option.{is_some, option_copied}
use Rattle.arguments.specs.AskedDays.{AskedDays, AnswersDays, asked_days, days}
use Rattle.arguments.specs.declared.request.Arguments.{Arguments}
use Rattle.arguments.specs.declared.request.Request.{Request}
use Rattle.arguments.specs.declared.request.Request.TheVariants as requests
use Rattle.arguments.specs.declared.request.Meaning.{Meaning}
use Rattle.arguments.specs.declared.request.Meaning.TheVariants as meanings
use Rattle.arguments.specs.declared.request.ArgumentError.{ArgumentError}
use Rattle.arguments.specs.declared.request.ArgumentError.TheVariants as errors

-- what is to be played, and how
pub record Playing : Type 0 where
  pub quiet : Bool
  pub check : Bool
  pub picture : Option (List ℕ)
  pub files : List (List ℕ)

pub data Asked : Type 0 where
  help : Asked
  version : Asked
  unknown : (option : List ℕ) → Asked
  random_first : (option : List ℕ) → Asked
  no_picture : Asked
  wrong_picture : (word : List ℕ) → Asked
  several_files : Asked
  play : Playing → Asked
  random : AskedDays → Asked

-- a word that looks like an option: a minus and more
abbrev pub is_option : List ℕ → Bool
is_option word = (slice_index word 0 == 45) && nat_lt 1 (length word)

-- what a word means where options may come
abbrev pub meaning_of : List ℕ → Meaning
meaning_of word =
    if bytes_eq word (codes "--help") then meanings.Help
    else (if bytes_eq word (codes "--version") then meanings.Version
    else (if bytes_eq word (codes "--quiet") then meanings.Quiet
    else (if bytes_eq word (codes "--check") then meanings.Check
    else (if bytes_eq word (codes "--svg") then meanings.Picture
    else (if bytes_eq word (codes "--") then meanings.FilesFollow
    else (if bytes_eq word (codes "--random") || (bytes_eq word (codes "--days") || (bytes_eq word (codes "--events") ||
    (bytes_eq word (codes "--trains") || (bytes_eq word (codes "--controllers") || bytes_eq word (codes "--write"))))) then meanings.AfterRandom
    else (if is_option word then meanings.Unknown
    else meanings.File)))))))

-- with no file, standard input, named by a minus
abbrev pub or_input : List (List ℕ) → List (List ℕ)
or_input [] = codes "-" ∷ []
or_input (file ∷ files) = file ∷ files

abbrev pub with_input : Playing → Playing
with_input p = record p { files = or_input p.files }

abbrev pub with_file : Playing → List ℕ → Playing
with_file p file = record p { files = p.files ++ file ∷ [] }

-- what is asked for, by what a word means: the last five are what is asked for if it is no end
abbrev pub by_meaning : Meaning → (word : List ℕ) → (quiet check drawn files_follow file : Asked) → Asked
by_meaning meanings.Help word quiet check drawn files_follow file = help
by_meaning meanings.Version word quiet check drawn files_follow file = version
by_meaning meanings.Quiet word quiet check drawn files_follow file = quiet
by_meaning meanings.Check word quiet check drawn files_follow file = check
by_meaning meanings.Picture word quiet check drawn files_follow file = drawn
by_meaning meanings.FilesFollow word quiet check drawn files_follow file = files_follow
by_meaning meanings.AfterRandom word quiet check drawn files_follow file = random_first word
by_meaning meanings.Unknown word quiet check drawn files_follow file = unknown word
by_meaning meanings.File word quiet check drawn files_follow file = file

-- the name of a picture ends in .svg; a minus is standard output
abbrev pub is_picture : List ℕ → Bool
is_picture word = bytes_eq word (codes "-") || ends_with nat_eq word (codes ".svg")

-- a picture is of one day
abbrev pub playing : Playing → Asked
playing p = if is_some p.picture && nat_lt 1 (length p.files) then several_files else play p

-- word after word; options come before the first file, and before --; `wanted` says that the name of a picture comes next
abbrev pub asked_after : (options wanted : Bool) → Playing → List (List ℕ) → Asked
asked_after options true p [] = no_picture
asked_after options false p [] = playing (with_input p)
asked_after options true p (word ∷ words) =
    if is_picture word then asked_after options false (record p { picture = Some word }) words else wrong_picture word
asked_after false false p (word ∷ words) = asked_after false false (with_file p word) words
asked_after true false p (word ∷ words) =
    by_meaning (meaning_of word) word (asked_after true false (record p { quiet = true }) words) (asked_after true false (record p { check = true }) words)
    (asked_after true true p words) (asked_after false false p words) (asked_after false false (with_file p word) words)

abbrev pub nothing_asked : Playing
nothing_asked = record { quiet = false; check = false; picture = None; files = [] }

abbrev pub asked_files : List (List ℕ) → Asked
asked_files = asked_after true false nothing_asked

-- where --random comes first, random days are asked for
abbrev pub asked : List (List ℕ) → Asked
asked [] = asked_files []
asked (word ∷ words) = if bytes_eq word (codes "--random") then random (asked_days words) else asked_files (word ∷ words)

-- what the program's own arguments say
abbrev pub view : Arguments → Playing
view a = record { quiet = a.quiet; check = a.check; picture = option_copied a.picture; files = map (λ file. file.now) a.files.items }

-- the answer is what is asked for, unless memory is wanting
abbrev pub Answers : Result Request ArgumentError → Asked → Type 0
Answers (Ok requests.Help) a = a ≡ help
Answers (Ok requests.Version) a = a ≡ version
Answers (Ok (requests.Play arguments)) a = a ≡ play (view arguments)
Answers (Ok (requests.Random asked)) a = a ≡ random (days asked)
Answers (Err (errors.Unknown option)) a = a ≡ unknown option.now
Answers (Err (errors.RandomFirst option)) a = a ≡ random_first option.now
Answers (Err (errors.Days error)) a = (what : AskedDays) × (a ≡ random what) × AnswersDays (Err error) what
Answers (Err errors.NoPicture) a = a ≡ no_picture
Answers (Err (errors.WrongPicture word)) a = a ≡ wrong_picture word.now
Answers (Err errors.SeveralFiles) a = a ≡ several_files
Answers (Err errors.NoMemory) a = Unit {0}
