-- What contracts see of the devices in memory.
use Rattle.std.specs.Prelude.{ℕ, ◌==◌, List, [], ◌∷◌, map, filter, take, Option, None, option_map, Vec, vec_items}
use Rattle.std.specs.declared.alloc.Global.{Global}
use Rattle.edge_io.specs.declared.endpoint.Endpoint.{Endpoint}
use Rattle.edge_io.specs.declared.datagram.Datagram.{Datagram}
use Rattle.edge_io.specs.Limits.{most_datagram}
use Rattle.edge_io.specs.Lists.{Lists}
use Rattle.edge_io.specs.Plan.{Faults, fresh_faults}

-- a source: the bytes left, and how it fails
pub record ToldSource : Type 0 where
  pub left : List ℕ
  pub faults : Faults

-- a sink: the bytes held, and how it fails
pub record ToldSink : Type 0 where
  pub held : List ℕ
  pub faults : Faults

-- a keeper: the lists of records, and how it fails
pub record ToldKeeper : Type 0 where
  pub lists : Lists
  pub faults : Faults

-- links: what is still to arrive and for whom, what was sent, which endpoints were opened, and how they fail
pub record ToldLinks : Type 0 where
  pub arrivals : List (ℕ × Option (List ℕ))
  pub sent : List Datagram
  pub opened : List Endpoint
  pub faults : Faults

-- a clock: the readings to come, the last one, and how often it fell
pub record ToldClock : Type 0 where
  pub readings : List ℕ
  pub last : Option ℕ
  pub falls : ℕ

abbrev pub fresh_source : List ℕ → List ℕ → ToldSource
fresh_source bytes fail = record { left = bytes; faults = fresh_faults fail }

abbrev pub fresh_sink : List ℕ → ToldSink
fresh_sink fail = record { held = []; faults = fresh_faults fail }

abbrev pub fresh_keeper : Lists → List ℕ → ToldKeeper
fresh_keeper lists fail = record { lists = lists; faults = fresh_faults fail }

abbrev pub fresh_links : List (ℕ × Option (List ℕ)) → List ℕ → ToldLinks
fresh_links arrivals fail = record { arrivals = arrivals; sent = []; opened = []; faults = fresh_faults fail }

-- the readings to come: those left, or else the last one again
abbrev pub readings_or : List ℕ → ℕ → List ℕ
readings_or [] last = last ∷ []
readings_or (reading ∷ rest) last = reading ∷ rest

abbrev pub fresh_clock : List ℕ → ToldClock
fresh_clock readings = record { readings = readings_or readings 0; last = None; falls = 0 }

-- an actor's list of records, as it was handed in
abbrev pub told_list : (ℕ × Vec (Vec ℕ Global) Global) → ℕ × List (List ℕ)
told_list list = (list.0, map vec_items list.1.items)

-- a datagram, as it was handed in; what it has beyond a datagram's most bytes is lost
abbrev pub told_datagram : Option (Vec ℕ Global) → Option (List ℕ)
told_datagram datagram = option_map (λ v. take most_datagram v.items) datagram

-- an arrival, as it was handed in
abbrev pub told_arrival : (ℕ × Option (Vec ℕ Global)) → ℕ × Option (List ℕ)
told_arrival arrival = (arrival.0, told_datagram arrival.1)

-- what is to arrive at the actor
abbrev pub arrivals_at : ℕ → List (ℕ × Option (List ℕ)) → List (Option (List ℕ))
arrivals_at actor arrivals = map (λ a. a.1) (filter (λ a. a.0 == actor) arrivals)
