-- The tracks that were drawn on so far, and one more.
use Rattle.std.proofs.Common.{◌≡◌, false, ℕ, zero, suc, [], ◌∷◌, ◌++◌, length-append, ◌+◌, ◌<◌, ◌≤◌, List, length, min, None, Some, slice_get, get_or, set, ◌≢◌, refl, sym, ap, ◌∙◌, subst, arith, replicate}
use Rattle.std.proofs.Math.Logic.{inl, inr}
use native.Mathlib.Decide.{dec_le}
use Rattle.std.proofs.lemmas.Option.{slice_get-get_or, slice_get_cases, slice_get_within, get_or_from_slice_get}
use Rattle.std.proofs.lemmas.List.{get_or-set_same, length-set, get_or-set_other}
use Rattle.onboard.specs.declared.train.Train.{Train}
use Rattle.picture.specs.declared.drawing.Drawing.{Drawing}
use Rattle.picture.specs.declared.extent.Extent.{Extent}
use Rattle.page.specs.declared.scale.Scale.{Scale}
use Rattle.picture.specs.declared.track.Lines.{Lines}
use Rattle.picture.specs.declared.track.Track.{Track}
use Rattle.picture.specs.declared.messages.Messages.{Messages}
use Rattle.picture.specs.Drawings.{Begun, columns_of}
use Rattle.picture.specs.Extents.{scale_for}
use Rattle.picture.specs.Messages.{ColumnShown, NoMessages}
use Rattle.picture.specs.Tracks.{Followed, NoLines, NoneDrawn, AllDrawn, Drawn, NothingSince, forgotten, nothing, since_at}
use Rattle.picture.specs.declared.track.Since.{Since}

-- those with lower numbers were drawn on, and the others are as they were
pub record DrawnBelow (s : Scale) (events : ℕ) (trains : List Train) (since left : List Since) (before after : List Track)
    (below : ℕ) : Type 0 where
  pub count : length after ≡ length before
  pub each : (n : ℕ) (train : Train) (track : Track) → n < below → slice_get trains n ≡ Some train → slice_get before n ≡ Some track →
      (next : Track) × (slice_get after n ≡ Some next) × Drawn s events train (since_at since n) track next
  pub counted : length left ≡ length since
  pub forgotten : (n : ℕ) → n < below → since_at left n ≡ nothing
  pub rest : (n : ℕ) → below ≤ n → slice_get after n ≡ slice_get before n
  pub rest_since : (n : ℕ) → below ≤ n → since_at left n ≡ since_at since n

set_other : {X : Type 0} (xs : List X) (i n : ℕ) (y : X) → n ≢ i → slice_get (set xs i y) n ≡ slice_get xs n
set_other [] i n y other = refl
set_other (x ∷ xs) zero zero y other = absurd (other refl)
set_other (x ∷ xs) zero (suc n) y other = refl
set_other (x ∷ xs) (suc i) zero y other = refl
set_other (x ∷ xs) (suc i) (suc n) y other = set_other xs i n y (λ e. other (ap suc e))

set_same : {X : Type 0} (xs : List X) (i : ℕ) (y : X) → i < length xs → slice_get (set xs i y) i ≡ Some y
set_same xs i y few =
    slice_get-get_or (set xs i y) i y (omega (arith, few, length-set xs i y)) ∙ ap Some (get_or-set_same xs i y y few)

-- what happened to a train is forgotten, also where there is none of its number
forgotten_there : (since : List Since) (n : ℕ) → since_at (forgotten since n) n ≡ nothing
forgotten_there [] n = refl
forgotten_there (x ∷ xs) zero = refl
forgotten_there (x ∷ xs) (suc n) = forgotten_there xs n

pub next_drawn : (s : Scale) (events : ℕ) (trains : List Train) (since left : List Since) (before after : List Track)
    (below : ℕ)
    (happened : Since) (then : List Since) (old new : Track) (train : Train) →
    DrawnBelow s events trains since left before after below → below < length after → old ≡ get_or after below old →
    happened ≡ since_at left below → then ≡ forgotten left below → Drawn s events (get_or trains below train) happened old new →
    DrawnBelow s events trains since then before (set after below new) (below + 1)
next_drawn s events trains since left before after below happened then old new train so_far few is what forgets drawn = record {
  count = length-set after below new ∙ so_far.count;
  each = λ n here track less t b. elim (dec_le (n + 1) below) [
    | yes l ↦ let old = so_far.each n here track (omega (arith, l)) t b in
        (old.0, set_other after below n new (omega (arith, l)) ∙ old.1, old.2)
    | no l ↦ let e : n ≡ below = omega (arith, less, l) in
        let this : get_or trains below train ≡ here = get_or_from_slice_get trains below here train (ap (slice_get trains) (sym e) ∙ t) in
        let its : old ≡ track = is ∙ get_or_from_slice_get after below track old (so_far.rest below (omega arith) ∙ ap (slice_get before) (sym e) ∙ b) in
        let its_since : happened ≡ since_at since n = what ∙ so_far.rest_since below (omega arith) ∙ ap (since_at since) (sym e) in (
          new,
          ap (slice_get (set after below new)) e ∙ set_same after below new few,
          subst (λ (x : Train). Drawn s events x (since_at since n) track new) this
              (subst (λ (x : Since). Drawn s events (get_or trains below train) x track new) its_since
              (subst (λ (x : Track). Drawn s events (get_or trains below train) happened x new) its drawn)),
        )
  ];
  counted = ap (λ (x : List Since). length x) forgets ∙ (length-set left below nothing ∙ so_far.counted);
  forgotten = λ n less. ap (λ (x : List Since). since_at x n) forgets ∙ elim (dec_le (n + 1) below) [
    | yes l ↦ get_or-set_other left below n nothing nothing (λ (e : n ≡ below). omega (arith, l, e)) ∙ so_far.forgotten n (omega (arith, l))
    | no l ↦ let e : n ≡ below = omega (arith, less, l) in ap (since_at (forgotten left below)) e ∙ forgotten_there left below
  ];
  rest = λ n more. set_other after below n new (omega (arith, more)) ∙ so_far.rest n (omega (arith, more));
  rest_since = λ n more. ap (λ (x : List Since). since_at x n) forgets ∙
      (get_or-set_other left below n nothing nothing (λ (e : n ≡ below). omega (arith, more, e)) ∙ so_far.rest_since n (omega (arith, more)));
}

pub all_drawn : (s : Scale) (events : ℕ) (trains : List Train) (since left : List Since) (before after : List Track)
    (below : ℕ) → (below ≡ min (length before) (length trains)) →
    DrawnBelow s events trains since left before after below → AllDrawn s events trains since left before after
all_drawn s events trains since left before after below all h = record {
  count = h.count;
  each = λ n train track t b. h.each n train track (omega (arith, all, slice_get_within trains n train t, slice_get_within before n track b)) t b;
  counted = h.counted;
  forgotten = λ n less. h.forgotten n (omega (arith, all, less));
  rest = λ n more. (h.rest n (omega (arith, all, more)), h.rest_since n (omega (arith, all, more)));
}

-- one track without lines more
none_more : (tracks : List Track) (new : Track) → ((n : ℕ) (track : Track) → slice_get tracks n ≡ Some track → NoLines track.lines) → NoLines new.lines →
    (n : ℕ) (track : Track) → slice_get (tracks ++ new ∷ []) n ≡ Some track → NoLines track.lines
none_more [] new each none zero track e = let is : new ≡ track = grind (arith, e) in subst (λ (t : Track). NoLines t.lines) is none
none_more [] new each none (suc n) track e = absurd (grind (arith, e))
none_more (first ∷ tracks) new each none zero track e = each zero track e
none_more (first ∷ tracks) new each none (suc n) track e = none_more tracks new (λ m t. each (suc m) t) none n track e

pub none_drawn_more : (count : ℕ) (tracks after : List Track) (new : Track) → NoneDrawn count tracks → NoLines new.lines → after ≡ tracks ++ new ∷ [] →
    NoneDrawn (count + 1) after
none_drawn_more count tracks after new before none e =
    subst (NoneDrawn (count + 1)) (sym e) (record {
      number = omega (arith, before.number, length-append tracks (new ∷ []));
      each = none_more tracks new before.each none;
    })

-- where nothing happened, nothing happened after it was drawn
pub still_nothing : (s : Scale) (events : ℕ) (trains : List Train) (since left : List Since) (before after : List Track) →
    AllDrawn s events trains since left before after → NothingSince since → NothingSince left
still_nothing s events trains since left before after h none = λ n. elim (dec_le (n + 1) (min (length before) (length trains))) [
  | yes l ↦ h.forgotten n (omega (arith, l))
  | no l ↦ (h.rest n (omega (arith, l))).1 ∙ none n
]

-- at the beginning nothing has happened
pub nothing_yet : (count n : ℕ) → since_at (replicate count nothing) n ≡ nothing
nothing_yet zero n = refl
nothing_yet (suc count) zero = refl
nothing_yet (suc count) (suc n) = nothing_yet count n

-- the lines of each train begin
first_drawn : (s : Scale) (trains : List Train) (since left : List Since) (before after : List Track) →
    NoneDrawn (length trains) before → AllDrawn s 0 trains since left before after →
    (n : ℕ) (train : Train) → slice_get trains n ≡ Some train →
    (track : Track) × (slice_get after n ≡ Some track) × ((none : Lines) × NoLines none × Followed s 0 train none track.lines)
first_drawn s trains since left before after none all n train t = elim (slice_get_cases before n).1 [
  | inl h ↦ let next = all.each n train h.0 t h.2 in (next.0, next.1, (h.0.lines, none.each n h.0 h.2, next.2.lines))
  | inr h ↦ absurd (omega (arith, h.0, none.number, slice_get_within trains n train t))
]

-- a column with nothing in it shows nothing
none_shown : (before after : Messages) → NoMessages before → ColumnShown before after → NoMessages after
none_shown before after none shown = record {
  sent = shown.sent ∙ none.sent;
  sendings = rw (none.column, none.sendings) at shown.sendings;
  hearings = rw (none.column, none.hearings) at shown.hearings;
  heard = shown.heard ∙ none.heard;
  column = shown.column;
}

pub begun : (extent : Extent) (trains : List Train) (before : List Track) (noted after : Drawing) → NoneDrawn (length trains) before →
    noted.scale ≡ scale_for extent → noted.events ≡ 0 → noted.ticks ≡ 0 → noted.tracks.items ≡ before → noted.nearest ≡ None →
    after.scale ≡ noted.scale → after.events ≡ noted.events → after.ticks ≡ noted.ticks → after.nearest ≡ noted.nearest →
    AllDrawn noted.scale noted.events trains noted.since.items after.since.items noted.tracks.items after.tracks.items →
    length noted.since.items ≡ length trains → NothingSince noted.since.items →
    after.restarts.items ≡ [] → after.restarted ≡ false →
    after.columns ≡ columns_of extent (length trains) → NoMessages noted.messages → ColumnShown noted.messages after.messages → Begun extent trains after
begun extent trains before noted after none scale events ticks tracks nearest same_scale same_events same_ticks same_nearest all since nothing restarts restarted columns messages shown =
    let drawn : AllDrawn after.scale 0 trains noted.since.items after.since.items before after.tracks.items = rw (sym tracks, same_scale, sym events) all in
    record {
      scale = same_scale ∙ scale;
      columns = columns;
      events = same_events ∙ events;
      ticks = same_ticks ∙ ticks;
      tracks = drawn.count ∙ none.number;
      lines = first_drawn after.scale trains noted.since.items after.since.items before after.tracks.items none drawn;
      since = all.counted ∙ since;
      nothing = still_nothing _ _ _ _ _ _ _ all nothing;
      restarts = restarts;
      restarted = restarted;
      messages = none_shown noted.messages after.messages messages shown;
      nearest = same_nearest ∙ nearest;
    }
