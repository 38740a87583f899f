-- A drawing from one event to the next. Assumes nothing: these are definitions.
use Rattle.std.specs.Prelude.{◌≡◌, ℕ, ◌+◌, ◌-◌, ◌*◌, ◌/◌, ◌^◌, ◌≢◌, min, max, List, length, None, Some, Option, slice_get, nat_lt, if◌then◌else◌, true, set, Bool, false, []}
use Rattle.onboard.specs.declared.train.Train.{Train}
use Rattle.onboard.specs.declared.word.Word.{Word}
use Rattle.onboard.specs.declared.word.Word.TheVariants.{Drive, Brake}
use Rattle.picture.specs.declared.drawing.Drawing.{Drawing}
use Rattle.picture.specs.declared.drawing.Nearest.{Nearest}
use Rattle.picture.specs.declared.extent.Extent.{Extent}
use Rattle.picture.specs.declared.nearest.Gap.{Gap}
use Rattle.picture.specs.declared.track.Lines.{Lines}
use Rattle.picture.specs.declared.track.Since.{Since}
use Rattle.picture.specs.declared.track.Track.{Track}
use Rattle.picture.specs.declared.messages.Messages.{Messages}
use Rattle.page.specs.declared.scale.Scale.{Scale}
use Rattle.picture.specs.declared.sending.Kind.{Kind}
use Rattle.picture.specs.declared.sending.Kind.TheVariants as kind
use Rattle.picture.specs.declared.sending.Sending.{Sending}
use Rattle.picture.specs.Extents.{scale_for}
use Rattle.picture.specs.Messages.{ColumnShown, HeardMore, MessagesKept, NoMessages, SentMore, ShownKept}
use Rattle.picture.specs.Nearest.{SmallestGap, gap_between}
use Rattle.picture.specs.Tracks.{AllDrawn, Followed, MarkedIf, NoLines, NothingSince, since_at}
use Rattle.safety.specs.declared.event.Event.{Event}
use Rattle.safety.specs.declared.event.Event.TheVariants.{Tick, Mark, Report, Hear, Tell, Grant, Take, Restart}

-- the smallest gap so far, after one look more: the gap that is the smallest now counts where it is smaller than all before
abbrev pub nearest_of : Option Nearest → Option Gap → (events : ℕ) → Option Nearest
nearest_of before None events = before
nearest_of None (Some gap) events = Some (record { gap = gap; events = events })
nearest_of (Some before) (Some gap) events =
    if nat_lt (gap_between gap) (gap_between before.gap) then Some (record { gap = gap; events = events }) else Some before

-- the column of the picture that the last event is in
abbrev pub column_of : Drawing → ℕ
column_of drawing = min drawing.events drawing.scale.steps * drawing.columns / max drawing.scale.steps 1

-- what happened to trains so far, after one event more: where a unit says to a tick that it brakes, its train braked,
-- and the train of a mark passed one
abbrev pub noted : Event → Option Word → List Since → List Since
noted (Tick n wish speed) (Some Brake) since = set since n (record (since_at since n) { braked = true })
noted (Tick n wish speed) (Some Drive) since = since
noted (Tick n wish speed) None since = since
noted (Mark n) word since = set since n (record (since_at since n) { marked = true })
noted (Report n) word since = since
noted (Hear controller message) word since = since
noted (Tell controller n) word since = since
noted (Grant controller n) word since = since
noted (Take message) word since = since
noted (Restart controller) word since = since

-- whether a controller restarted so far, after one event more
abbrev pub restarted : Event → (before : Bool) → Bool
restarted (Tick n wish speed) before = before
restarted (Mark n) before = before
restarted (Report n) before = before
restarted (Hear controller message) before = before
restarted (Tell controller n) before = before
restarted (Grant controller n) before = before
restarted (Take message) before = before
restarted (Restart controller) before = true

-- how many ticks there were so far, after one event more
abbrev pub ticks_after : Event → (before : ℕ) → ℕ
ticks_after (Tick n wish speed) before = min (before + 1) (2 ^ 64 - 1)
ticks_after (Mark n) before = before
ticks_after (Report n) before = before
ticks_after (Hear controller message) before = before
ticks_after (Tell controller n) before = before
ticks_after (Grant controller n) before = before
ticks_after (Take message) before = before
ticks_after (Restart controller) before = before

-- what an event sends, if it does
abbrev pub kind_sent : Event → Option Kind
kind_sent (Tick n wish speed) = None
kind_sent (Mark n) = None
kind_sent (Report n) = Some kind.Report
kind_sent (Hear controller message) = None
kind_sent (Tell controller n) = Some kind.Words
kind_sent (Grant controller n) = Some kind.Grant
kind_sent (Take message) = None
kind_sent (Restart controller) = None

-- the message that an event hears or takes, if it does, of those that were sent
abbrev pub message_of : Event → (sent : List Sending) → Option Sending
message_of (Tick n wish speed) sent = None
message_of (Mark n) sent = None
message_of (Report n) sent = None
message_of (Hear controller message) sent = slice_get sent message
message_of (Tell controller n) sent = None
message_of (Grant controller n) sent = None
message_of (Take message) sent = slice_get sent message
message_of (Restart controller) sent = None

-- whether an event takes its message, and does not hear it
abbrev pub is_taken : Event → Bool
is_taken (Tick n wish speed) = false
is_taken (Mark n) = false
is_taken (Report n) = false
is_taken (Hear controller message) = false
is_taken (Tell controller n) = false
is_taken (Grant controller n) = false
is_taken (Take message) = true
is_taken (Restart controller) = false

-- an event hears or takes its message, after so many events: where that was sent, one more was heard or taken, and else none
pub record Heard (event : Event) (s : Scale) (events : ℕ) (before after : Messages) : Type 0 where
  pub heard : (message : Sending) → message_of event before.sent.items ≡ Some message →
      HeardMore s events message (is_taken event) before after
  pub not_heard : message_of event before.sent.items ≡ None → (after.column ≡ before.column) × (after.heard ≡ before.heard)
  pub sent : after.sent.items ≡ before.sent.items
  pub shown : ShownKept before after

-- an event sends, after so many events, where this is all that was ever sent: if that has a message past those that were
-- there before, it is there now; where it has none, or the event does not send, all is as it was
pub record Sent (event : Event) (s : Scale) (events : ℕ) (all : List (List ℕ)) (before after : Messages) : Type 0 where
  pub sent : (k : Kind) (bytes : List ℕ) → kind_sent event ≡ Some k →
      slice_get all (length before.sent.items) ≡ Some bytes → SentMore s events k bytes before after
  pub not_sent : kind_sent event ≡ None → MessagesKept before after
  pub none_past : slice_get all (length before.sent.items) ≡ None → MessagesKept before after
  pub heard : after.heard ≡ before.heard
  pub shown : ShownKept before after

-- the messages after one event more, where this is all that was ever sent: first the event hears, then it sends, and then,
-- where it comes to another column of the picture, they are shown
pub record MessagesMore (event : Event) (all : List (List ℕ)) (before after : Drawing) : Type 0 where
  pub heard : Messages
  pub hears : Heard event before.scale after.events before.messages heard
  pub sent : Messages
  pub sends : Sent event before.scale after.events all heard sent
  pub same : column_of after ≡ column_of before → MessagesKept sent after.messages
  pub next : column_of after ≢ column_of before → ColumnShown sent after.messages

-- what noting an event, its message or a moment leaves as it is
pub record LinesKept (before after : Drawing) : Type 0 where
  pub events : after.events ≡ before.events
  pub scale : after.scale ≡ before.scale
  pub columns : after.columns ≡ before.columns
  pub tracks : after.tracks.items ≡ before.tracks.items
  pub restarts : after.restarts.items ≡ before.restarts.items
  pub nearest : after.nearest ≡ before.nearest

-- and what noting a message or a moment leaves besides
pub record SinceKept (before after : Drawing) : Type 0 where
  pub since : after.since.items ≡ before.since.items
  pub restarted : after.restarted ≡ before.restarted
  pub ticks : after.ticks ≡ before.ticks

-- one event more in the same column of the picture: what it did is noted, and nothing drawn
pub record SameColumn (event : Event) (word : Option Word) (before after : Drawing) : Type 0 where
  pub tracks : after.tracks.items ≡ before.tracks.items
  pub since : after.since.items ≡ noted event word before.since.items
  pub restarts : after.restarts.items ≡ before.restarts.items
  pub restarted : after.restarted ≡ restarted event before.restarted

-- one event more, in another column: each train is drawn on to where it is with what happened to it since, and the foot is
-- marked where a controller restarted since
pub record NextColumn (event : Event) (word : Option Word) (trains : List Train) (before after : Drawing) : Type 0 where
  pub tracks : AllDrawn after.scale after.events trains (noted event word before.since.items) after.since.items
      before.tracks.items after.tracks.items
  pub restarts : MarkedIf (restarted event before.restarted) after.scale after.events 0
      before.restarts.items after.restarts.items
  pub restarted : after.restarted ≡ false

-- a drawing after one event more, where the trains are so now, and this is all that was ever sent: it is drawn on, unless
-- that is the same column of the picture, and the smallest gap so far is that of now where that is smaller
pub record OneMore (event : Event) (word : Option Word) (trains : List Train) (all : List (List ℕ)) (before after : Drawing)
    : Type 0 where
  pub events : after.events ≡ min (before.events + 1) (2 ^ 64 - 1)
  pub ticks : after.ticks ≡ ticks_after event before.ticks
  pub scale : after.scale ≡ before.scale
  pub columns : after.columns ≡ before.columns
  pub same : column_of after ≡ column_of before → SameColumn event word before after
  pub next : column_of after ≢ column_of before → NextColumn event word trains before after
  pub messages : MessagesMore event all before after
  pub gap : Option Gap
  pub smallest : SmallestGap trains gap
  pub nearest : after.nearest ≡ nearest_of before.nearest gap after.events

-- how many columns a picture has: never more than events, and with many trains not so many
abbrev pub columns_of : Extent → (trains : ℕ) → ℕ
columns_of e trains = min (min e.events 1290) (25600 / max trains 1)

-- a drawing of a day that will have this extent, before its first event: the lines of each train begin where it stands
pub record Begun (extent : Extent) (trains : List Train) (drawing : Drawing) : Type 0 where
  pub scale : drawing.scale ≡ scale_for extent
  pub columns : drawing.columns ≡ columns_of extent (length trains)
  pub events : drawing.events ≡ 0
  pub ticks : drawing.ticks ≡ 0
  pub tracks : length drawing.tracks.items ≡ length trains
  pub lines : (n : ℕ) (train : Train) → slice_get trains n ≡ Some train →
      (track : Track) × (slice_get drawing.tracks.items n ≡ Some track) ×
      ((none : Lines) × NoLines none × Followed drawing.scale 0 train none track.lines)
  pub since : length drawing.since.items ≡ length trains
  pub nothing : NothingSince drawing.since.items
  pub restarts : drawing.restarts.items ≡ []
  pub restarted : drawing.restarted ≡ false
  pub messages : NoMessages drawing.messages
  pub nearest : drawing.nearest ≡ None
