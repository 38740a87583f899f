-- Pieces of a text that are played one after the other.
use Rattle.std.proofs.Common.{◌≡◌, ℕ, ◌+◌, ◌<◌, ◌≤◌, ◌^◌, List, [], ◌∷◌, ◌++◌, length, take, Ok, Err, Result, Some, None, Option, IfNone, IfOk, IfSome, sym, subst, ap, arith, refl, ◌∙◌, length-append, append_assoc}
use Rattle.std.proofs.lemmas.List.{take_all}
use Rattle.line.specs.declared.gaps.Gaps.{Gaps}
use Rattle.line.specs.Runs.{Counted, gaps_of, every_gap}
use Rattle.line.specs.Initial.{new_line}
use Rattle.safety.specs.declared.event.Event.{Event}
use Rattle.safety.specs.State.{State}
use Rattle.safety.specs.Events.{CanBe, after_event, after_events}
use Rattle.line.proofs.Beginnings.{new_came}
use Rattle.safety.proofs.Coming.{all_promised}
use Rattle.scenario.specs.declared.entry.HeadLine.{HeadLine}
use Rattle.scenario.specs.Heads.{brakes_of, controllers_of, trains_of}
use Rattle.scenario.specs.declared.lines.Stop.{Stop}
use Rattle.scenario.specs.declared.lines.Stop.TheVariants.{End}
use Rattle.scenario.specs.Ends.{Stopped}
use Rattle.scenario.specs.Texts.{HeadRead, EventsRead}
use Rattle.text.specs.Lines.{Said, said}
use Rattle.play.specs.Played.{PlayedTo, Played}

more_read : (text middle rest : List Said) (lines more_lines : List ℕ) (events more : List Event) →
    EventsRead text lines events middle → EventsRead middle more_lines more rest → EventsRead text (lines ++ more_lines) (events ++ more) rest
more_read [] middle rest [] more_lines [] more is next = subst (λ text. EventsRead text more_lines more rest) (sym is) next
more_read (first ∷ text) middle rest [] more_lines [] more is next = subst (λ text. EventsRead text more_lines more rest) (sym is) next
more_read [] middle rest [] more_lines (e ∷ events) more read next = elim read [ ]
more_read (first ∷ text) middle rest [] more_lines (e ∷ events) more read next = elim read [ ]
more_read [] middle rest (n ∷ lines) more_lines [] more read next = elim read [ ]
more_read (first ∷ text) middle rest (n ∷ lines) more_lines [] more read next = elim read [ ]
more_read [] middle rest (n ∷ lines) more_lines (e ∷ events) more read next = elim read [ ]
more_read (first ∷ text) middle rest (n ∷ lines) more_lines (e ∷ events) more read next =
    (read.0, read.1, read.2, more_read text middle rest lines more_lines events more read.3 next)

after_more : (s : State) (events more : List Event) → after_events s (events ++ more) ≡ after_events (after_events s events) more
after_more s [] more = refl
after_more s (e ∷ events) more = after_more (after_event s e) events more

can_be_more : (s : State) (events more : List Event) → CanBe s events → CanBe (after_events s events) more → CanBe s (events ++ more)
can_be_more s [] more can next = next
can_be_more s (e ∷ events) more can next = (can.0, can_be_more (after_event s e) events more can.1 next)

gaps_more : (s : State) (events more : List Event) → gaps_of s (events ++ more) ≡ gaps_of s events ++ gaps_of (after_events s events) more
gaps_more s [] more = refl
gaps_more s (e ∷ events) more = ap (λ gaps. every_gap (after_event s e) ++ gaps) (gaps_more (after_event s e) events more) ∙ sym (append_assoc (every_gap (after_event s e)) (gaps_of (after_event s e) events) (gaps_of (after_events (after_event s e) events) more))

-- with the head read and nothing played
pub nothing_played : (text : List ℕ) (head : List HeadLine) (rest : List Said) (first : State) → HeadRead [] (said text) head rest →
    new_line (brakes_of head) (trains_of head) (controllers_of head) ≡ Ok first → PlayedTo text head rest first (record { count = 0; smallest = None })
nothing_played text head rest first read made = record {
  middle = rest;
  lines = [];
  events = [];
  first = first;
  head_read = read;
  events_read = refl;
  made = made;
  can_be = tt;
  is = refl;
  counted = λ few. record { count = refl; smallest = refl };
}

-- one piece more was played: all of its events
module _ (text : List ℕ) (head : List HeadLine) (before rest : List Said) (was now : State) (gaps piece_gaps both : Gaps)
    (lines : List ℕ) (events : List Event) (done : ℕ) (all : done ≡ length events) where
  pub piece_played : PlayedTo text head before was gaps → EventsRead before lines events rest → CanBe was (take done events) → now ≡ after_events was (take done events) →
      Counted piece_gaps (gaps_of was (take done events)) →
      ((one other : List ℕ) → Counted gaps one → Counted piece_gaps other → length (one ++ other) < 2 ^ 128 → Counted both (one ++ other)) →
      PlayedTo text head rest now both
  piece_played played read can is counted and =
      let whole : take done events ≡ events = take_all done events (omega (arith, all)) in
      let state = played.is in
      record {
        middle = played.middle;
        lines = played.lines ++ lines;
        events = played.events ++ events;
        first = played.first;
        head_read = played.head_read;
        events_read = more_read played.middle before rest played.lines lines played.events events played.events_read read;
        made = played.made;
        can_be = can_be_more played.first played.events events played.can_be (rw state at (rw whole at can));
        is = rw whole at is ∙ ap (λ s. after_events s events) state ∙ sym (after_more played.first played.events events);
        counted = λ few.
            let same : gaps_of played.first (played.events ++ events) ≡ gaps_of played.first played.events ++ gaps_of was events =
            gaps_more played.first played.events events ∙ ap (λ s. gaps_of played.first played.events ++ gaps_of s events) (sym state) in
            let fewer : length (gaps_of played.first played.events ++ gaps_of was events) < 2 ^ 128 = rw same at few in
            rw same (and (gaps_of played.first played.events) (gaps_of was events)
            (played.counted (omega (arith, fewer, length-append (gaps_of played.first played.events) (gaps_of was events)))) (rw whole at counted) fewer);
      }

-- a piece with an event leaves less
less_read : (text rest : List Said) (lines : List ℕ) (events : List Event) → EventsRead text lines events rest → length text ≡ length events + length rest
less_read [] rest [] [] is = omega (arith, ap length is)
less_read (first ∷ text) rest [] [] is = omega (arith, ap length is)
less_read [] rest [] (e ∷ events) read = elim read [ ]
less_read (first ∷ text) rest [] (e ∷ events) read = elim read [ ]
less_read [] rest (n ∷ lines) [] read = elim read [ ]
less_read (first ∷ text) rest (n ∷ lines) [] read = elim read [ ]
less_read [] rest (n ∷ lines) (e ∷ events) read = elim read [ ]
less_read (first ∷ text) rest (n ∷ lines) (e ∷ events) read = omega (arith, less_read text rest lines events read.3)

pub less_left : (text rest : List Said) (lines : List ℕ) (events : List Event) → 0 < length events → EventsRead text lines events rest → length rest < length text
less_left text rest lines events some read = omega (arith, less_read text rest lines events read)

none_read : (text rest : List Said) (lines : List ℕ) (events : List Event) → length events ≡ 0 → EventsRead text lines events rest → text ≡ rest
none_read text rest [] [] none is = is
none_read [] rest (n ∷ lines) [] none read = elim read [ ]
none_read (first ∷ text) rest (n ∷ lines) [] none read = elim read [ ]
none_read text rest lines (e ∷ events) none read = absurd (grind (arith, none))

-- where a piece has no event, nothing more is said
pub no_event_left : (text rest : List Said) (size : ℕ) (lines : List ℕ) (events : List Event) (stop : Option Stop) → 1 ≤ size → length events ≡ 0 →
    EventsRead text lines events rest → Stopped stop size events rest → IfSome stop (λ s. s ≡ End) → text ≡ []
no_event_left text rest size lines events None some none read stopped end = absurd (grind (arith, some, none, stopped))
no_event_left text rest size lines events (Some stop) some none read stopped end = none_read text rest lines events none read ∙ (rw end at stopped.1)

pub no_more_told : {A E : Type 0} (answer : Result (Option A) E) (stop : Option Stop) (P : Type 0) → (IfSome stop (λ s. s ≡ End) → P) →
    IfOk answer (λ more. (more ≡ None) × IfSome stop (λ s. s ≡ End)) → IfOk answer (λ more. IfNone more P)
no_more_told (Err e) stop P so told = tt
no_more_told (Ok None) stop P so told = so told.1
no_more_told (Ok (Some x)) stop P so told = tt

-- the whole text was played
pub all_played : (text : List ℕ) (head : List HeadLine) (rest : List Said) (now : State) (gaps : Gaps) → PlayedTo text head rest now gaps → rest ≡ [] → Played text gaps
all_played text head rest now gaps played none =
    let all : PlayedTo text head [] now gaps = subst (λ rest. PlayedTo text head rest now gaps) none played in
    let whole : take (length all.events) all.events ≡ all.events = take_all (length all.events) all.events (omega arith) in
    record {
      head = head;
      now = now;
      all = all;
      promised = all_promised all.first all.events (length all.events) (new_came (brakes_of head) (trains_of head) (controllers_of head) all.first all.made) (rw whole all.can_be);
    }
