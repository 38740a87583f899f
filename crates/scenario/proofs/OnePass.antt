-- Events that stand as they are written are read in one pass, where their numbers are short.
use Rattle.std.proofs.Common.{◌≡◌, ◌≢◌, ℕ, ◌≤◌, List, slice_index, ap}
use Rattle.braking.specs.Limits.{speed_max}
use Rattle.safety.specs.declared.event.Event.{Event}
use Rattle.safety.specs.declared.event.Event.TheVariants as events
use Rattle.text.specs.Plain.{IsShort, line_then}
use Rattle.scenario.specs.Inside.{EventShort}
use Rattle.scenario.specs.Lines.{event_words}

-- no event, where there is none of each kind
pub no_event : (text : List ℕ) →
    ((train wish speed : ℕ) (rest : List ℕ) → IsShort train → wish ≤ speed_max → IsShort speed → text ≢ line_then (event_words (events.Tick train wish speed)) rest) →
    ((n : ℕ) (rest : List ℕ) → IsShort n → text ≢ line_then (event_words (events.Mark n)) rest) →
    ((n : ℕ) (rest : List ℕ) → IsShort n → text ≢ line_then (event_words (events.Report n)) rest) →
    ((m n : ℕ) (rest : List ℕ) → IsShort m → IsShort n → text ≢ line_then (event_words (events.Hear m n)) rest) →
    ((m n : ℕ) (rest : List ℕ) → IsShort m → IsShort n → text ≢ line_then (event_words (events.Tell m n)) rest) →
    ((m n : ℕ) (rest : List ℕ) → IsShort m → IsShort n → text ≢ line_then (event_words (events.Grant m n)) rest) →
    ((n : ℕ) (rest : List ℕ) → IsShort n → text ≢ line_then (event_words (events.Take n)) rest) →
    ((n : ℕ) (rest : List ℕ) → IsShort n → text ≢ line_then (event_words (events.Restart n)) rest) →
    (event : Event) (rest : List ℕ) → EventShort event → text ≢ line_then (event_words event) rest
no_event text tick mark report hear tell grant take restart (events.Tick train wish speed) rest short same = tick train wish speed rest short.0 short.1 short.2 same
no_event text tick mark report hear tell grant take restart (events.Mark n) rest short same = mark n rest short same
no_event text tick mark report hear tell grant take restart (events.Report n) rest short same = report n rest short same
no_event text tick mark report hear tell grant take restart (events.Hear m n) rest short same = hear m n rest short.0 short.1 same
no_event text tick mark report hear tell grant take restart (events.Tell m n) rest short same = tell m n rest short.0 short.1 same
no_event text tick mark report hear tell grant take restart (events.Grant m n) rest short same = grant m n rest short.0 short.1 same
no_event text tick mark report hear tell grant take restart (events.Take n) rest short same = take n rest short same
no_event text tick mark report hear tell grant take restart (events.Restart n) rest short same = restart n rest short same

-- and there is none of a kind where one of its first letters does not stand
pub no_tick : (text : List ℕ) → ((slice_index text 0 ≡ 116) × (slice_index text 1 ≡ 105) → ⊥) → (train wish speed : ℕ) (rest : List ℕ) → IsShort train → wish ≤ speed_max → IsShort speed → text ≢ line_then (event_words (events.Tick train wish speed)) rest
no_tick text not train wish speed rest s0 s1 s2 same = not (ap (λ text. slice_index text 0) same, ap (λ text. slice_index text 1) same)

pub no_mark : (text : List ℕ) → ((slice_index text 0 ≡ 109) → ⊥) → (n : ℕ) (rest : List ℕ) → IsShort n → text ≢ line_then (event_words (events.Mark n)) rest
no_mark text not n rest s0 same = not (ap (λ text. slice_index text 0) same)

pub no_report : (text : List ℕ) → ((slice_index text 0 ≡ 114) × (slice_index text 2 ≡ 112) → ⊥) → (n : ℕ) (rest : List ℕ) → IsShort n → text ≢ line_then (event_words (events.Report n)) rest
no_report text not n rest s0 same = not (ap (λ text. slice_index text 0) same, ap (λ text. slice_index text 2) same)

pub no_hear : (text : List ℕ) → ((slice_index text 0 ≡ 104) → ⊥) → (m n : ℕ) (rest : List ℕ) → IsShort m → IsShort n → text ≢ line_then (event_words (events.Hear m n)) rest
no_hear text not m n rest s0 s1 same = not (ap (λ text. slice_index text 0) same)

pub no_tell : (text : List ℕ) → ((slice_index text 0 ≡ 116) × (slice_index text 1 ≡ 101) → ⊥) → (m n : ℕ) (rest : List ℕ) → IsShort m → IsShort n → text ≢ line_then (event_words (events.Tell m n)) rest
no_tell text not m n rest s0 s1 same = not (ap (λ text. slice_index text 0) same, ap (λ text. slice_index text 1) same)

pub no_grant : (text : List ℕ) → ((slice_index text 0 ≡ 103) → ⊥) → (m n : ℕ) (rest : List ℕ) → IsShort m → IsShort n → text ≢ line_then (event_words (events.Grant m n)) rest
no_grant text not m n rest s0 s1 same = not (ap (λ text. slice_index text 0) same)

pub no_take : (text : List ℕ) → ((slice_index text 0 ≡ 116) × (slice_index text 1 ≡ 97) → ⊥) → (n : ℕ) (rest : List ℕ) → IsShort n → text ≢ line_then (event_words (events.Take n)) rest
no_take text not n rest s0 same = not (ap (λ text. slice_index text 0) same, ap (λ text. slice_index text 1) same)

pub no_restart : (text : List ℕ) → ((slice_index text 0 ≡ 114) × (slice_index text 2 ≡ 115) → ⊥) → (n : ℕ) (rest : List ℕ) → IsShort n → text ≢ line_then (event_words (events.Restart n)) rest
no_restart text not n rest s0 same = not (ap (λ text. slice_index text 0) same, ap (λ text. slice_index text 2) same)
