-- What the devices of a running program tell at a moment, and what each call makes of it.
use Rattle.std.specs.Prelude.{◌≡◌, ◌≢◌, ◌+◌, ℕ, List, [], ◌∷◌, ◌++◌, Option, Some, Result, if◌then◌else◌, IfOk, OnOk, OnErr, map, vec_items, Vec}
use Rattle.std.specs.Borrow.{GName}
use Rattle.std.specs.declared.alloc.Global.{Global}
use Rattle.edge_io.specs.Arrivals.{Receives as Takes}
use Rattle.edge_io.specs.Edge.{Tells, Grew, GrewByFront, GrewOrNot, HasCause, HasCauseOf}
use Rattle.edge_io.specs.Readings.{Gives, is_fall}
use Rattle.edge_io.specs.declared.endpoint.Endpoint.{Endpoint}
use Rattle.edge_io.specs.declared.datagram.Datagram.{Datagram}
use Rattle.edge_io.specs.declared.refusal.EdgeRefusal.{EdgeRefusal}
use Rattle.edge_io.specs.declared.refusal.EdgeRefusal.TheVariants as refusal
use Rattle.edge_io.specs.declared.refusal.Failed.{Failed}

-- Which borrowed devices these are: it stays, so what is told in the end is told by those that were lent.
pub record Loans : Type 0 where
  pub sink : GName
  pub links : GName
  pub keeps : GName
  pub clock : GName

-- Content is told where it is Some. The opened endpoints, the last reading and the counts are always told.
pub record Told : Type 0 where
  pub loans : Loans
  pub held : Option (List ℕ)
  pub sink_faults : ℕ
  pub kept : ℕ → Option (List (List ℕ))
  pub keep_faults : ℕ
  pub opened : List Endpoint
  pub arrivals : ℕ → Option (List (Option (List ℕ)))
  pub sent : Option (List Datagram)
  pub link_faults : ℕ
  pub readings : Option (List ℕ)
  pub last : Option ℕ
  pub falls : ℕ

pub record Listens (actor : ℕ) (at : List ℕ) (old : Told) (result : Result (Unit {0}) EdgeRefusal) (new : Told) : Type 0 where
  pub ok : OnOk result (new.opened ≡ old.opened ++ record { actor = actor; at = at } ∷ [])
  pub err : OnErr result (new.opened ≡ old.opened)
  pub cause : HasCauseOf refusal.Failed old.link_faults new.link_faults result
  pub sent : new.sent ≡ old.sent
  pub arrivals : (any : ℕ) → new.arrivals any ≡ old.arrivals any
  pub rest : new ≡ record old { opened = new.opened; arrivals = new.arrivals; sent = new.sent; link_faults = new.link_faults }

pub record Sends (from : ℕ) (to bytes : List ℕ) (old : Told) (result : Result (Unit {0}) EdgeRefusal) (new : Told) : Type 0 where
  pub ok : OnOk result (Grew old.sent new.sent (record { from = from; to = to; bytes = bytes } ∷ []))
  pub err : OnErr result (new.sent ≡ old.sent)
  pub cause : HasCauseOf refusal.Failed old.link_faults new.link_faults result
  pub opened : new.opened ≡ old.opened
  pub arrivals : (any : ℕ) → new.arrivals any ≡ old.arrivals any
  pub rest : new ≡ record old { opened = new.opened; arrivals = new.arrivals; sent = new.sent; link_faults = new.link_faults }

pub record Receives (actor : ℕ) (into : List ℕ) (old : Told) (result : Result (Option ℕ) Failed) (new : Told) : Type 0 where
  pub ok : IfOk result (λ answer. Takes (old.arrivals actor) answer into (new.arrivals actor))
  pub err : OnErr result (new.arrivals actor ≡ old.arrivals actor)
  pub others : (other : ℕ) → other ≢ actor → new.arrivals other ≡ old.arrivals other
  pub cause : HasCause old.link_faults new.link_faults result
  pub opened : new.opened ≡ old.opened
  pub sent : new.sent ≡ old.sent
  pub rest : new ≡ record old { opened = new.opened; arrivals = new.arrivals; sent = new.sent; link_faults = new.link_faults }

pub record Recalls (actor : ℕ) (old : Told) (result : Result (Vec (Vec ℕ Global) Global) EdgeRefusal) (new : Told) : Type 0 where
  pub ok : IfOk result (λ records. Tells (old.kept actor) (map vec_items records.items))
  pub same : (any : ℕ) → new.kept any ≡ old.kept any
  pub cause : HasCauseOf refusal.Failed old.keep_faults new.keep_faults result
  pub rest : new ≡ record old { kept = new.kept; keep_faults = new.keep_faults }

pub record Keeps (actor : ℕ) (bytes : List ℕ) (old : Told) (result : Result (Unit {0}) EdgeRefusal) (new : Told) : Type 0 where
  pub ok : OnOk result (Grew (old.kept actor) (new.kept actor) (bytes ∷ []))
  pub err : OnErr result (GrewOrNot (old.kept actor) (new.kept actor) (bytes ∷ []))
  pub others : (other : ℕ) → other ≢ actor → new.kept other ≡ old.kept other
  pub cause : HasCauseOf refusal.Failed old.keep_faults new.keep_faults result
  pub rest : new ≡ record old { kept = new.kept; keep_faults = new.keep_faults }

pub record ReadsClock (reading : ℕ) (old new : Told) : Type 0 where
  pub told : Gives old.readings reading new.readings
  pub last : new.last ≡ Some reading
  pub falls : new.falls ≡ (if is_fall old.last reading then old.falls + 1 else old.falls)
  pub rest : new ≡ record old { readings = new.readings; last = new.last; falls = new.falls }

pub record Writes (text : List ℕ) (old : Told) (result : Result (Unit {0}) EdgeRefusal) (new : Told) : Type 0 where
  pub ok : OnOk result (Grew old.held new.held text)
  pub err : OnErr result (GrewByFront old.held new.held text)
  pub cause : HasCauseOf refusal.Failed old.sink_faults new.sink_faults result
  pub rest : new ≡ record old { held = new.held; sink_faults = new.sink_faults }
