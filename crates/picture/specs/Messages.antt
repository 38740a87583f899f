-- What goes over the radio. Assumes nothing: these are definitions.
use Rattle.std.specs.Prelude.{◌≡◌, ℕ, Bool, ◌+◌, ◌-◌, ◌^◌, min, List, [], ◌∷◌, ◌++◌, length, option_to_list, Ok, Err, Result, None, Some, Option, nat_lt, if◌then◌else◌}
use Rattle.braking.specs.declared.refusal.Refusal.{Refusal}
use Rattle.message.specs.declared.message.Message.{Message}
use Rattle.message.specs.Bytes.{received}
use Rattle.message.specs.Messages.{place_of}
use Rattle.picture.specs.declared.messages.Column.{Column}
use Rattle.picture.specs.declared.messages.Messages.{Messages}
use Rattle.page.specs.declared.scale.Scale.{Scale}
use Rattle.picture.specs.declared.sending.Hearing.{Hearing}
use Rattle.picture.specs.declared.sending.Kind.{Kind}
use Rattle.picture.specs.declared.sending.Kind.TheVariants.{Report, Words, Grant}
use Rattle.picture.specs.declared.sending.Sending.{Sending}
use Rattle.page.specs.Scales.{across, height}

abbrev pub place_of_read : Result Message Refusal → ℕ
place_of_read (Ok message) = place_of message
place_of_read (Err why) = 0

-- the place that a message says, and 0 where the bytes cannot be read
abbrev pub place_said : List ℕ → ℕ
place_said bytes = place_of_read (received bytes)

abbrev pub empty : Column
empty = record { report_sent = None; words_sent = None; grant_sent = None; report_heard = None; words_heard = None; grant_heard = None }

-- none was sent, and none heard
pub record NoMessages (messages : Messages) : Type 0 where
  pub sent : messages.sent.items ≡ []
  pub sendings : messages.sendings.items ≡ []
  pub hearings : messages.hearings.items ≡ []
  pub heard : messages.heard ≡ 0
  pub column : messages.column ≡ empty

-- of each kind a column has the first that was sent
abbrev pub first : Option Sending → Sending → Option Sending
first None next = Some next
first (Some before) next = Some before

abbrev pub with_sending : Kind → Column → Sending → Column
with_sending Report column next = record column { report_sent = first column.report_sent next }
with_sending Words column next = record column { words_sent = first column.words_sent next }
with_sending Grant column next = record column { grant_sent = first column.grant_sent next }

-- and the hearing of the earliest message, and of one message the first
abbrev pub earlier : Option Hearing → Hearing → Option Hearing
earlier None next = Some next
earlier (Some before) next = if nat_lt next.sending.number before.sending.number then Some next else Some before

abbrev pub with_hearing : Kind → Column → Hearing → Column
with_hearing Report column next = record column { report_heard = earlier column.report_heard next }
with_hearing Words column next = record column { words_heard = earlier column.words_heard next }
with_hearing Grant column next = record column { grant_heard = earlier column.grant_heard next }

-- one message more was sent, after so many events; its number is how many were sent before
pub record SentMore (s : Scale) (events : ℕ) (k : Kind) (bytes : List ℕ) (before after : Messages) : Type 0 where
  pub next : Sending
  pub number : next.number ≡ length before.sent.items
  pub kind : next.kind ≡ k
  pub place : next.place ≡ place_said bytes
  pub across : next.at.x ≡ across s events
  pub height : next.at.y ≡ height s next.place
  pub goes_on : after.sent.items ≡ before.sent.items ++ next ∷ []
  pub column : after.column ≡ with_sending k before.column next

-- one message more was heard or taken, after so many events
pub record HeardMore (s : Scale) (events : ℕ) (message : Sending) (t : Bool) (before after : Messages) : Type 0 where
  pub next : Hearing
  pub sending : next.sending ≡ message
  pub taken : next.taken ≡ t
  pub across : next.at.x ≡ across s events
  pub column : after.column ≡ with_hearing message.kind before.column next
  pub heard : after.heard ≡ min (before.heard + 1) (2 ^ 64 - 1)

-- one column of the picture more: what it has of each kind
pub record ColumnShown (before after : Messages) : Type 0 where
  pub sendings : after.sendings.items ≡ before.sendings.items ++ (option_to_list before.column.report_sent ++
      (option_to_list before.column.words_sent ++ option_to_list before.column.grant_sent))
  pub hearings : after.hearings.items ≡ before.hearings.items ++ (option_to_list before.column.report_heard ++
      (option_to_list before.column.words_heard ++ option_to_list before.column.grant_heard))
  pub sent : after.sent.items ≡ before.sent.items
  pub heard : after.heard ≡ before.heard
  pub column : after.column ≡ empty

-- what is drawn of the messages so far is as it was
pub record ShownKept (before after : Messages) : Type 0 where
  pub sendings : after.sendings.items ≡ before.sendings.items
  pub hearings : after.hearings.items ≡ before.hearings.items

-- all of the messages is as it was
pub record MessagesKept (before after : Messages) : Type 0 where
  pub sent : after.sent.items ≡ before.sent.items
  pub shown : ShownKept before after
  pub heard : after.heard ≡ before.heard
  pub column : after.column ≡ before.column
