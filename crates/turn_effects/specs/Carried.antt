-- What each part of carrying out a step does.
use Rattle.std.specs.Prelude.{◌≡◌, ◌≢◌, ◌≤◌, ℕ, List, [], ◌∷◌, take, Result, Ok, Err}
use Rattle.edge_io.specs.Edge.{Grew, HasRisen}
use Rattle.edge_io.specs.declared.datagram.Datagram.{Datagram}
use Rattle.edge_io.specs.Told.{Told}
use Rattle.turn_rules.specs.Effects.{Sent, Did, Stays, IsPart, WroteMore}
use Rattle.turn_rules.specs.Works.{Work}
use Rattle.turn_rules.specs.declared.stop_cause.StopCause.{StopCause}
use Rattle.turn_rules.specs.declared.stop_cause.StopCause.TheVariants as stop

-- the actor has these records more, and nothing else has changed
pub record KeptMore (actor : ℕ) (records : List (List ℕ)) (a b : Told) : Type 0 where
  pub own : Grew (a.kept actor) (b.kept actor) records
  pub others : (other : ℕ) → other ≢ actor → b.kept other ≡ a.kept other
  pub later : a.keep_faults ≤ b.keep_faults
  pub rest : b ≡ record a { kept = b.kept; keep_faults = b.keep_faults }

abbrev pub KeepsAll : ℕ → List (List ℕ) → Told → Told → Result (Unit {0}) StopCause → Type 0
KeepsAll actor records a b (Ok done) = KeptMore actor records a b
KeepsAll actor records a b (Err stop.OutOfMemory) = (n : ℕ) × KeptMore actor (take n records) a b
KeepsAll actor records a b (Err stop.KeepFault) = (n : ℕ) × (KeptMore actor (take n records) a b × HasRisen a.keep_faults b.keep_faults)
KeepsAll actor records a b _ = ⊥

-- these were to be sent, and nothing else has changed
pub record SentMore (all : List Datagram) (a b : Told) : Type 0 where
  pub sent : Sent all 0 a b
  pub opened : b.opened ≡ a.opened
  pub arrivals : (any : ℕ) → b.arrivals any ≡ a.arrivals any
  pub rest : b ≡ record a { opened = b.opened; arrivals = b.arrivals; sent = b.sent; link_faults = b.link_faults }

abbrev pub SendsAll : List Datagram → Told → Told → Result (Unit {0}) StopCause → Type 0
SendsAll all a b (Ok done) = SentMore all a b
SendsAll all a b (Err stop.OutOfMemory) = (n : ℕ) × SentMore (take n all) a b
SendsAll all a b _ = ⊥

-- the sink has a front of this more, or all of it
abbrev pub WritesAll : List ℕ → Told → Told → Result (Unit {0}) StopCause → Type 0
WritesAll text a b (Ok done) = WroteMore text a b
WritesAll text a b (Err stop.OutOfMemory) = (n : ℕ) × WroteMore (take n text) a b
WritesAll text a b (Err stop.WriteFault) = (n : ℕ) × (WroteMore (take n text) a b × HasRisen a.sink_faults b.sink_faults)
WritesAll text a b _ = ⊥

-- what a step does leaves what is handed in as it is
pub record CarriedMore (s : Work) (a b : Told) : Type 0 where
  pub did : Did (s ∷ []) 0 a b
  pub stays : Stays a b
  pub arrivals : (any : ℕ) → b.arrivals any ≡ a.arrivals any
  pub readings : b.readings ≡ a.readings
  pub last : b.last ≡ a.last
  pub falls : b.falls ≡ a.falls

-- a step is carried out, or a part of it
abbrev pub CarriesOut : Work → Told → Told → Result (Unit {0}) StopCause → Type 0
CarriesOut s a b (Ok done) = CarriedMore s a b
CarriesOut s a b (Err stop.OutOfMemory) = (part : Work) × (IsPart part s × CarriedMore part a b)
CarriesOut s a b (Err stop.WriteFault) = (part : Work) × (IsPart part s × CarriedMore part a b × HasRisen a.sink_faults b.sink_faults)
CarriesOut s a b (Err stop.KeepFault) = (part : Work) × (IsPart part s × CarriedMore part a b × (part.lines ≡ []) × (part.posts ≡ []) × HasRisen a.keep_faults b.keep_faults)
CarriesOut s a b _ = ⊥
