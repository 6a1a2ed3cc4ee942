-- What runs above the ring at a node: the manager, and the replicas.
use Rattle.std.specs.Prelude.{ℕ, List, [], ◌∷◌, ◌++◌, flat_map, Option, Some, None, unwrap_or}
use Rattle.ring_points.specs.declared.interval.Interval.{Interval}
use Rattle.ring_points.specs.declared.unit.Epoch.{Epoch}
use Rattle.ring_points.specs.declared.who.Who.{Who}
use Rattle.fabric_lemmas.specs.Maps.{at, put}
use Rattle.fabric_terms.specs.declared.command.Command.{Command}
use Rattle.fabric_terms.specs.declared.command.Command.TheVariants as command
use Rattle.fabric_terms.specs.declared.message.Body.{Body}
use Rattle.fabric_terms.specs.declared.message.Body.TheVariants as body
use Rattle.fabric_terms.specs.declared.record.Record.{Record}
use Rattle.fabric_terms.specs.declared.report.Report.TheVariants as report
use Rattle.fabric_terms.specs.declared.report.Reason.TheVariants as reason
use Rattle.fabric_terms.specs.declared.report.Verb.TheVariants as verb
use Rattle.failover_units.specs.Units.{partitions_in}
use Rattle.ring_rules.specs.declared.input.Input.{Input}
use Rattle.ring_rules.specs.declared.input.Input.TheVariants as input
use Rattle.ring_rules.specs.Owns.{holds_point}
use Rattle.ring_rules.specs.Rings.{Ring}
use Rattle.unit_rules.specs.Deeds.{Deed, Tell, Acted, acted, still, refuse}
use Rattle.unit_rules.specs.Loads.{Site, loads}
use Rattle.unit_rules.specs.declared.reconfig.Kind.{Kind}
use Rattle.unit_rules.specs.declared.reconfig.Kind.TheVariants.{Create, Swap, Heal, Lose}
use Rattle.unit_rules.specs.Questions.{reconfig_fired}
use Rattle.unit_rules.specs.Manager.{Managed, reconfig_commanded, manager_answered}
use Rattle.unit_rules.specs.ReplicaStates.{ReplicaState, first_state}
use Rattle.unit_rules.specs.Promises.{promise_received}
use Rattle.unit_rules.specs.Copies.{sync_received, fetch_received, piece_received}
use Rattle.unit_rules.specs.Activations.{activate_received}
use Rattle.unit_rules.specs.Writes.{append_received, appended_received, write_commanded, state_fired}
use Rattle.unit_rules.specs.Answers.{resolve_commanded, names_commanded}
use Rattle.unit_rules.specs.Starts.{states_begun}

-- the manager, and the replicas by partition
pub record Failover : Type 0 where
  pub managed : Managed
  pub states : List (ℕ × ReplicaState)

-- the start of an instance: its replicas are those of its records, and it knows of no unit
abbrev pub failover_begun : List Record → Failover
failover_begun records = record { managed = record { units = []; reconfigs = [] }; states = states_begun records }

-- what was done at the manager

abbrev pub by_manager : Failover → Acted Managed → Acted Failover
by_manager s a = acted (record s { managed = a.state }) a.deeds

-- what was done at the replica of a partition

abbrev pub by_state : ℕ → Failover → Acted ReplicaState → Acted Failover
by_state partition s a = acted (record s { states = put partition a.state s.states }) a.deeds

-- a row of the partition's replica, which begins with the first such row
abbrev pub at_state : ℕ → (ReplicaState → Acted ReplicaState) → Failover → Acted Failover
at_state partition row s = by_state partition s (row (unwrap_or (at partition s.states) (first_state partition)))

-- a row of the replica that was found, or else this
abbrev pub at_found : ℕ → (ReplicaState → Acted ReplicaState) → Acted Failover → Failover → Option ReplicaState → Acted Failover
at_found partition row none s None = none
at_found partition row none s (Some state) = by_state partition s (row state)

abbrev pub at_standing : ℕ → (ReplicaState → Acted ReplicaState) → Acted Failover → Failover → Acted Failover
at_standing partition row none s = at_found partition row none s (at partition s.states)

-- an answer to the manager, which places by what is known and up at this reading
abbrev pub answer : Site → ℕ → Ring → ℕ → ℕ → Epoch → Body → Failover → Acted Failover
answer c now r actor partition epoch b s = by_manager s (manager_answered (loads c now r s.managed.units) actor partition epoch b s.managed)

-- The row of a frame; a frame of another kind is not of units.
abbrev pub frame_row : Site → ℕ → Ring → Who → Body → Failover → Acted Failover
frame_row c now r x (body.Prepared partition epoch done) s = answer c now r x.actor partition epoch (body.Prepared partition epoch done) s
frame_row c now r x (body.NoPrepare partition epoch kept) s = answer c now r x.actor partition epoch (body.NoPrepare partition epoch kept) s
frame_row c now r x (body.Voted partition epoch first) s = answer c now r x.actor partition epoch (body.Voted partition epoch first) s
frame_row c now r x (body.NoVote partition epoch kept) s = answer c now r x.actor partition epoch (body.NoVote partition epoch kept) s
frame_row c now r x (body.DoneKept partition epoch) s = answer c now r x.actor partition epoch (body.DoneKept partition epoch) s
frame_row c now r x (body.NoDone partition epoch kept) s = answer c now r x.actor partition epoch (body.NoDone partition epoch kept) s
frame_row c now r x (body.Promised partition epoch at last) s = answer c now r x.actor partition epoch (body.Promised partition epoch at last) s
frame_row c now r x (body.Adopted partition epoch last) s = answer c now r x.actor partition epoch (body.Adopted partition epoch last) s
frame_row c now r x (body.Activated partition epoch) s = answer c now r x.actor partition epoch (body.Activated partition epoch) s
frame_row c now r x (body.Older partition epoch kept) s = answer c now r x.actor partition epoch (body.Older partition epoch kept) s
frame_row c now r x (body.Promise partition epoch) s = at_state partition (promise_received x epoch) s
frame_row c now r x (body.Sync partition epoch origin last) s =
    at_state partition (sync_received r.me.actor (record { epoch = epoch; origin = origin; last = last; asker = x })) s
frame_row c now r x (body.Fetch partition epoch lsn) s = at_standing partition (fetch_received x epoch lsn) (still s) s
frame_row c now r x (body.Piece partition epoch lsn entry_epoch text) s =
    at_standing partition (piece_received epoch (record { epoch = entry_epoch; lsn = lsn; bytes = text })) (still s) s
frame_row c now r x (body.Activate config) s = at_state config.partition (activate_received r.me.actor x config) s
frame_row c now r x (body.Append partition epoch lsn text) s = at_state partition (append_received x epoch lsn text) s
frame_row c now r x (body.Appended partition epoch last) s = at_standing partition (appended_received x.actor epoch last) (still s) s
frame_row c now r x _ s = still s

-- a command to the manager, which is the node that holds ring point 0 at this reading
abbrev pub manage : Site → ℕ → Ring → ℕ → Kind → Failover → Acted Failover
manage c now r partition kind s = by_manager s (reconfig_commanded (holds_point c.ring now 0 r) c.ring.arbitrators partition kind s.managed)

-- write: at a node without a replica of the partition it is refused
abbrev pub write : ℕ → List ℕ → Failover → Acted Failover
write partition text s = at_standing partition (write_commanded text) (refuse verb.Write reason.NotPrimary s) s

-- resolve and names: at a node without a replica of the partition they are refused

abbrev pub resolve : ℕ → List ℕ → Failover → Acted Failover
resolve partition name s = at_standing partition (resolve_commanded name) (refuse verb.Resolve reason.NotPrimary s) s

abbrev pub list_names : ℕ → Interval → Failover → Acted Failover
list_names partition range s = at_standing partition (names_commanded range) (refuse verb.Names reason.NotPrimary s) s

-- units: the partitions in the range whose configurations are known
abbrev pub list_units : Interval → Failover → Acted Failover
list_units range s = acted s (Tell (report.UnitList (partitions_in range s.managed.units)) ∷ [])

-- The row of a command; another command is not of units.
abbrev pub command_row : Site → ℕ → Ring → Command → Failover → Acted Failover
command_row c now r (command.Create partition count) s = manage c now r partition (Create count) s
command_row c now r (command.Swap partition node) s = manage c now r partition (Swap node) s
command_row c now r (command.Heal partition count) s = manage c now r partition (Heal count) s
command_row c now r (command.Lose partition node) s = manage c now r partition (Lose node) s
command_row c now r (command.Write partition text) s = write partition text s
command_row c now r (command.Units range) s = list_units range s
command_row c now r (command.Resolve partition name) s = resolve partition name s
command_row c now r (command.Names partition range) s = list_names partition range s
command_row c now r _ s = still s

-- a firing: the reconfigurations, then the replicas, each by rising partition
abbrev pub fired : Failover → List Deed
fired s = flat_map (λ e. reconfig_fired e.1) s.managed.reconfigs ++ flat_map (λ e. state_fired e.1) s.states

abbrev pub input_row : Site → ℕ → Ring → Input → Failover → Acted Failover
input_row c now r input.Fire s = acted s (fired s)
input_row c now r (input.Frame m) s = frame_row c now r m.from m.body s
input_row c now r (input.Do d) s = command_row c now r d s

unfoldable pub failover_step : Site → ℕ → Ring → Failover → Input → Acted Failover
failover_step c now r s i = input_row c now r i s
