-- What steps do to the devices.
use Rattle.std.specs.Prelude.{◌≡◌, ◌≤◌, ◌+◌, ◌^◌, ◌⊎◌, ℕ, Bool, List, [], ◌∷◌, ◌++◌, ◌==◌, if◌then◌else◌, map, take}
use Rattle.edge_io.specs.Edge.{Grew}
use Rattle.edge_io.specs.declared.datagram.Datagram.{Datagram}
use Rattle.edge_io.specs.Told.{Told}
use Rattle.turn_rules.specs.Works.{Post, Work}

-- What steps do, the newest of them first: the records of an actor, the datagrams and the lines, the oldest first.

abbrev pub own_records : ℕ → Work → List (List ℕ)
own_records actor s = if s.actor == actor then s.records else []

abbrev pub records_of : ℕ → List Work → List (List ℕ)
records_of actor [] = []
records_of actor (s ∷ ss) = records_of actor ss ++ own_records actor s

abbrev pub sent_by : ℕ → Post → Datagram
sent_by actor post = record { from = actor; to = post.to; bytes = post.bytes }

abbrev pub own_sends : Work → List Datagram
own_sends s = map (sent_by s.actor) s.posts

abbrev pub sends_of : List Work → List Datagram
sends_of [] = []
sends_of (s ∷ ss) = sends_of ss ++ own_sends s

abbrev pub lines_of : List Work → List ℕ
lines_of [] = []
lines_of (s ∷ ss) = lines_of ss ++ s.lines

-- a datagram that was to be sent, and whether it was
abbrev pub Try : Type 0
Try = Datagram × Bool

abbrev pub went : List Try → List Datagram
went [] = []
went (t ∷ ts) = if t.1 then t.0 ∷ went ts else went ts

abbrev pub lost : List Try → ℕ
lost [] = 0
lost (t ∷ ts) = if t.1 then lost ts else 1 + lost ts

-- so often at least has it failed, or the count stands at the end of its type
pub record FailedSince (n before now : ℕ) : Type 0 where
  pub later : before ≤ now
  pub count : (before + n ≤ now) ⊎ (2 ^ 64 ≤ now + 1)

-- All of these were to be sent, in this order; each that was left out is a failure of the links, and there were so many
-- others.
pub record Sent (all : List Datagram) (others : ℕ) (a b : Told) : Type 0 where
  pub tries : List Try
  pub whole : map (λ t. t.0) tries ≡ all
  pub sent : Grew a.sent b.sent (went tries)
  pub failed : FailedSince (lost tries + others) a.link_faults b.link_faults

-- All of these steps, and nothing else, were done: their records are kept, their datagrams sent, but for those that the
-- links failed to send, and their lines written.
pub record Did (works : List Work) (others : ℕ) (a b : Told) : Type 0 where
  pub kept : (actor : ℕ) → Grew (a.kept actor) (b.kept actor) (records_of actor works)
  pub sent : Sent (sends_of works) others a b
  pub lines : Grew a.held b.held (lines_of works)

-- what no step changes, and the counts that never fall
pub record Stays (a b : Told) : Type 0 where
  pub loans : b.loans ≡ a.loans
  pub opened : b.opened ≡ a.opened
  pub keeper : a.keep_faults ≤ b.keep_faults
  pub sink : a.sink_faults ≤ b.sink_faults
  pub clock : a.falls ≤ b.falls

-- What was done of a step in which the call ended: a front of its records; of its datagrams, where all its records are
-- kept; of its lines, where all its datagrams were to be sent.
pub record IsPart (part s : Work) : Type 0 where
  pub actor : part.actor ≡ s.actor
  pub records : (n : ℕ) × (part.records ≡ take n s.records)
  pub posts : (n : ℕ) × (part.posts ≡ take n s.posts)
  pub lines : (n : ℕ) × (part.lines ≡ take n s.lines)
  pub kept_first : (part.posts ≡ []) ⊎ (part.records ≡ s.records)
  pub sent_first : (part.lines ≡ []) ⊎ (part.posts ≡ s.posts)

-- the sink has this more, and nothing else has changed
pub record WroteMore (text : List ℕ) (a b : Told) : Type 0 where
  pub held : Grew a.held b.held text
  pub later : a.sink_faults ≤ b.sink_faults
  pub rest : b ≡ record a { held = b.held; sink_faults = b.sink_faults }
