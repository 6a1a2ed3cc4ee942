-- A whole run: the records are read, the endpoints opened, the actors started, their turns taken, and the last line is
-- written.
use Rattle.std.specs.Prelude.{◌≡◌, ◌<◌, ◌≤◌, ◌⊎◌, ◌+◌, ℕ, List, [], ◌∷◌, ◌++◌, length, take, Option, None, Result, Ok, Err, codes, decimal}
use Rattle.edge_io.specs.Edge.{HasRisen}
use Rattle.edge_io.specs.declared.datagram.Datagram.{Datagram}
use Rattle.edge_io.specs.declared.endpoint.Endpoint.{Endpoint}
use Rattle.fabric_status.specs.Faults.{fault_line}
use Rattle.fabric_status.specs.declared.status.Status.{Status}
use Rattle.fabric_status.specs.declared.status.Status.TheVariants as status
use Rattle.fabric_terms.specs.declared.record.Record.{Record}
use Rattle.edge_io.specs.Told.{Told, Loans}
use Rattle.text_fields.specs.Texts.{spaced}
use Rattle.turn_rules.specs.Effects.{Did, Stays, WroteMore}
use Rattle.turn_rules.specs.Ends.{Stopped}
use Rattle.turn_rules.specs.Handed.{Handed, failures_of}
use Rattle.turn_rules.specs.Happenings.{History}
use Rattle.turn_rules.specs.Order.{IsInOrder, arrive}
use Rattle.turn_rules.specs.Plans.{Plan, Setting}
use Rattle.turn_rules.specs.Process.{after}
use Rattle.turn_rules.specs.Recalled.{Recalled, IsBadKeep, TellsKept}
use Rattle.turn_rules.specs.Works.{works_of}
use Rattle.turn_rules.specs.declared.stop_cause.StopCause.{StopCause}
use Rattle.turn_rules.specs.declared.stop_cause.StopCause.TheVariants as stop

-- a run of this plan, with these records kept before it
abbrev pub setting : Plan → List (List Record) → Setting
setting plan kept = record { plan = plan; kept = kept }

-- no step was taken: nothing is kept, sent or written, and nothing was handed in
pub record Untouched (a b : Told) : Type 0 where
  pub loans : b.loans ≡ a.loans
  pub held : b.held ≡ a.held
  pub kept : (actor : ℕ) → b.kept actor ≡ a.kept actor
  pub sent : b.sent ≡ a.sent
  pub arrivals : (actor : ℕ) → b.arrivals actor ≡ a.arrivals actor
  pub readings : b.readings ≡ a.readings
  pub keeper : a.keep_faults ≤ b.keep_faults
  pub links : a.link_faults ≤ b.link_faults
  pub sink : b.sink_faults ≡ a.sink_faults
  pub falls : b.falls ≡ a.falls
  pub last : b.last ≡ a.last

-- and so many of the endpoints were opened
pub record OpenedOnly (plan : Plan) (n : ℕ) (a b : Told) : Type 0 where
  pub untouched : Untouched a b
  pub opened : b.opened ≡ a.opened ++ take n plan.actors

-- the endpoints were being opened: the records of all actors are good, and the first so many endpoints are open
pub record Opening (plan : Plan) (n : ℕ) (a b : Told) : Type 0 where
  pub kept : List (List Record)
  pub recalled : Recalled plan.actors a kept
  pub all : length kept ≡ length plan.actors
  pub opened : OpenedOnly plan n a b

-- what is told once all endpoints are opened
abbrev pub with_endpoints : Plan → Told → Told
with_endpoints plan a = record a { opened = a.opened ++ plan.actors }

-- all turns are taken
pub record Whole (plan : Plan) (kept : List (List Record)) (a b : Told) : Type 0 where
  pub history : History
  pub order : IsInOrder plan history (arrive plan (plan.turns + 1) 0)
  pub on : (after (setting plan kept) history).end ≡ None
  pub did : Did (works_of plan.config (after (setting plan kept) history).steps) (failures_of history) (with_endpoints plan a) b
  pub handed : Handed plan history (with_endpoints plan a) b
  pub stays : Stays (with_endpoints plan a) b

-- the run has stopped so, some actor having been started
abbrev pub StoppedRun : Plan → Told → Told → StopCause → Type 0
StoppedRun plan a b stopped = (kept : List (List Record)) × (Recalled plan.actors a kept × (length kept ≡ length plan.actors) × Stopped (setting plan kept) (with_endpoints plan a) b stopped)

-- How the run of a plan ends.
abbrev pub Ends : Plan → Told → Result (Unit {0}) StopCause → Told → Type 0
Ends plan a (Ok done) b = (kept : List (List Record)) × (Recalled plan.actors a kept × (length kept ≡ length plan.actors) × Whole plan kept a b)
Ends plan a (Err stop.OutOfMemory) b = OpenedOnly plan 0 a b ⊎ (((n : ℕ) × Opening plan n a b) ⊎ StoppedRun plan a b stop.OutOfMemory)
Ends plan a (Err stop.KeepFault) b = (OpenedOnly plan 0 a b × HasRisen a.keep_faults b.keep_faults) ⊎ StoppedRun plan a b stop.KeepFault
Ends plan a (Err stop.LinkFault) b = (n : ℕ) × ((n < length plan.actors) × Opening plan n a b × HasRisen a.link_faults b.link_faults)
Ends plan a (Err (stop.BadKeep i)) b = IsBadKeep plan a i × OpenedOnly plan 0 a b
Ends plan a (Err stopped) b = StoppedRun plan a b stopped

abbrev pub status_of : Result (Unit {0}) StopCause → Status
status_of (Ok done) = status.Ok
status_of (Err stop.OutOfMemory) = status.OutOfMemory
status_of (Err stop.WriteFault) = status.WriteFault
status_of (Err stop.KeepFault) = status.KeepFault
status_of (Err stop.LinkFault) = status.LinkFault
status_of (Err (stop.ClockBack former latter)) = status.ClockBack former latter
status_of (Err (stop.Left why)) = status.Left why
status_of (Err (stop.BadKeep i)) = status.BadKeep i
status_of (Err stop.TableFull) = status.TableFull

-- the last line: where all turns are taken it says how many, and else it names the fault, where there is one
abbrev pub last_line : ℕ → Result (Unit {0}) StopCause → List ℕ
last_line turns (Ok done) = spaced (codes "end" ∷ decimal turns ∷ []) ++ codes "\n"
last_line turns (Err stopped) = fault_line (status_of (Err stopped))

-- The last line was written, and the status is that of the run; or a front of it, and memory was short or the sink failed.
abbrev pub Finishes : ℕ → Result (Unit {0}) StopCause → Told → Status → Told → Type 0
Finishes turns r b ended c =
    ((ended ≡ status_of r) × WroteMore (last_line turns r) b c)
    ⊎ (((ended ≡ status.OutOfMemory) × ((n : ℕ) × WroteMore (take n (last_line turns r)) b c))
    ⊎ ((ended ≡ status.WriteFault) × ((n : ℕ) × (WroteMore (take n (last_line turns r)) b c × HasRisen b.sink_faults c.sink_faults))))

-- The whole call: the run ends, and then the last line is written.
pub record Runs (plan : Plan) (a : Told) (ended : Status) (c : Told) : Type 0 where
  pub result : Result (Unit {0}) StopCause
  pub before_last : Told
  pub ends : Ends plan a result before_last
  pub finishes : Finishes plan.turns result before_last ended c

-- what four devices tell
abbrev pub told_of : Loans → Option (List ℕ) → ℕ → (ℕ → Option (List (List ℕ))) → ℕ → List Endpoint → (ℕ → Option (List (Option (List ℕ)))) → Option (List Datagram) → ℕ → Option (List ℕ) → Option ℕ → ℕ → Told
told_of loans held sink_faults kept keep_faults opened arrivals sent link_faults readings last falls = record {
  loans = loans;
  held = held;
  sink_faults = sink_faults;
  kept = kept;
  keep_faults = keep_faults;
  opened = opened;
  arrivals = arrivals;
  sent = sent;
  link_faults = link_faults;
  readings = readings;
  last = last;
  falls = falls;
}

-- why a status comes; a run ends with no other
abbrev pub Cause : Plan → Told → Status → Told → Type 0
Cause plan a status.KeepFault c = HasRisen a.keep_faults c.keep_faults
Cause plan a status.WriteFault c = HasRisen a.sink_faults c.sink_faults
Cause plan a status.LinkFault c = HasRisen a.link_faults c.link_faults × ((n : ℕ) × ((n < length plan.actors) × (c.opened ≡ a.opened ++ take n plan.actors)))
Cause plan a (status.ClockBack former latter) c = a.falls < c.falls
Cause plan a (status.BadKeep i) c = IsBadKeep plan a i
Cause plan a status.Ok c = Unit {0}
Cause plan a status.OutOfMemory c = Unit {0}
Cause plan a (status.Left why) c = Unit {0}
Cause plan a status.TableFull c = Unit {0}
Cause plan a _ c = ⊥

-- no count has risen, and no clock fell
pub record NoFault (a c : Told) : Type 0 where
  pub keeper : ¬ HasRisen a.keep_faults c.keep_faults
  pub sink : ¬ HasRisen a.sink_faults c.sink_faults
  pub falls : ¬ (a.falls < c.falls)

-- how a run ends where nothing fails and all records are good
abbrev pub IsComplete : Status → Type 0
IsComplete status.Ok = Unit {0}
IsComplete status.OutOfMemory = Unit {0}
IsComplete (status.Left why) = Unit {0}
IsComplete status.TableFull = Unit {0}
IsComplete _ = ⊥

abbrev pub Completes : Plan → Told → Status → Told → Type 0
Completes plan a ended c =
    NoFault a c → ((¬ HasRisen a.link_faults c.link_faults) ⊎ (c.opened ≡ a.opened ++ plan.actors)) → ((i : ℕ) → ¬ IsBadKeep plan a i) → IsComplete ended

-- how a run may end where a record is bad: with it, or before it was told, where the keeper or the sink failed or memory was
-- short
abbrev pub IsBadEnd : ℕ → Status → Type 0
IsBadEnd i (status.BadKeep j) = j ≡ i
IsBadEnd i status.KeepFault = Unit {0}
IsBadEnd i status.OutOfMemory = Unit {0}
IsBadEnd i status.WriteFault = Unit {0}
IsBadEnd i _ = ⊥

-- where the keeper tells, and a record is bad, no endpoint is opened
abbrev pub Bars : Plan → Told → Status → Told → Type 0
Bars plan a ended c = TellsKept plan.actors a → (i : ℕ) → IsBadKeep plan a i → IsBadEnd i ended × (c.opened ≡ a.opened)

-- The whole promise: how the call ends and what it leaves, why its status comes, that nothing else ends it, and that a bad
-- record does.
pub record IsRun (plan : Plan) (a : Told) (ended : Status) (c : Told) : Type 0 where
  pub runs : Runs plan a ended c
  pub cause : Cause plan a ended c
  pub complete : Completes plan a ended c
  pub bad : Bars plan a ended c
