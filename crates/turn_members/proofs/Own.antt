-- What a node records above the ring is a node's own: no record of an arbitrator is among it.
use Rattle.std.proofs.Common.{◌≡◌, ℕ, ◌+◌, Bool, true, false, List, [], ◌∷◌, ◌++◌, Option, None, Some, Ok, Err, refl, sym, ap, subst}
use Rattle.std.specs.Prelude.{◌==◌, ◌||◌, if◌then◌else◌, map, not, ◌&&◌}
use Rattle.std.specs.List.{list_any}
use Rattle.unit_rules.specs.Fabric.{fabric}
use Rattle.fabric_lemmas.specs.Maps.{at}
use Rattle.fabric_terms.specs.declared.command.Command.{Command}
use Rattle.fabric_terms.specs.declared.command.Command.TheVariants as command
use Rattle.fabric_terms.specs.declared.config.FabricConfig.{FabricConfig}
use Rattle.fabric_terms.specs.declared.message.Body.{Body}
use Rattle.fabric_terms.specs.declared.message.Body.TheVariants as body
use Rattle.fabric_terms.specs.declared.record.Record.{Record}
use Rattle.fabric_terms.specs.declared.report.Reason.TheVariants as reason
use Rattle.fabric_terms.specs.declared.report.Verb.TheVariants as verb
use Rattle.join_phases.specs.Phases.{is_left}
use Rattle.keep_log.specs.Amounts.{is_arbiters}
use Rattle.replica_records.proofs.Silent.{Silent, answered_silent, commanded_silent}
use Rattle.replica_records.proofs.Stepping.{fired_quiet}
use Rattle.replica_records.proofs.Writing.{committed_noted}
use Rattle.replica_core.specs.Calls.{Outcome, activate_call, adopt_call, adopt_own_call, append_call, idle_call, promise_call}
use Rattle.replica_core.specs.declared.entry.Entry.{Entry}
use Rattle.replica_core.specs.declared.refusal.Done.{Done}
use Rattle.replica_core.specs.declared.refusal.Done.TheVariants.{New, Held}
use Rattle.replica_core.specs.declared.refusal.ReplicaRefusal.{ReplicaRefusal}
use Rattle.replica_core.specs.declared.refusal.ReplicaRefusal.TheVariants.{Older, NotMember, Gap, LogFull, OutOfMemory}
use Rattle.replica_core.specs.declared.role.Role.{Role}
use Rattle.replica_core.specs.declared.role.Role.TheVariants.{None as NoRole, IdleSecondary, ActiveSecondary, Primary}
use Rattle.replica_core.specs.Replicas.{Replica}
use Rattle.ring_points.specs.Epochs.{same_epoch}
use Rattle.ring_points.specs.declared.unit.Config.{Config}
use Rattle.ring_points.specs.declared.unit.Epoch.{Epoch}
use Rattle.ring_points.specs.declared.who.Who.{Who}
use Rattle.ring_rules.specs.Owns.{holds_point}
use Rattle.ring_rules.specs.Rings.{Ring, settings_of}
use Rattle.ring_rules.specs.Steps.{ring_step}
use Rattle.ring_rules.specs.declared.input.Input.{Input}
use Rattle.ring_rules.specs.declared.input.Input.TheVariants as input
use Rattle.unit_rules.specs.Activations.{activate_answered, activate_received, role_begun, same_role, say_activated}
use Rattle.unit_rules.specs.Answers.{OnlyAnswers, names_commanded, resolve_commanded}
use Rattle.unit_rules.specs.Copies.{adoption, copy_begun, entry_given, fetch_next, fetch_received, is_wanted, log_adopted, log_taken, nothing_adopted, own_adopted, piece_collected, piece_for, piece_received, sync_answered, sync_received, sync_taken}
use Rattle.unit_rules.specs.Deeds.{Acted, Deed, Send, acted, records_of, refuse, still}
use Rattle.unit_rules.specs.Progress.{confirmed_by, progress_of}
use Rattle.unit_rules.specs.Loads.{Site, loads, site_of}
use Rattle.unit_rules.specs.Promises.{promise_answered, promise_received, say_older}
use Rattle.unit_rules.specs.ReplicaStates.{ReplicationProgress, ReplicaState, entry_at, last_of, replica_put}
use Rattle.unit_rules.specs.Steps.{Failover, answer, at_found, at_standing, command_row, failover_step, fired, frame_row, manage}
use Rattle.unit_rules.specs.Writes.{append_answered, append_received, append_to, appended_received, appended_to, committed, say_appended, write_answered, write_commanded, write_to}
use Rattle.unit_rules.proofs.Answered.{names_only_answer, resolve_only_answers}
use Rattle.unit_rules.specs.declared.progress.PeerProgress.{PeerProgress}
use Rattle.unit_rules.specs.declared.progress.CatchUp.{CatchUp}
use Rattle.unit_rules.specs.declared.reconfig.Kind.{Kind}
use Rattle.unit_rules.specs.declared.reconfig.Kind.TheVariants.{Create, Swap, Heal, Lose}
use Rattle.world_rules.specs.Nodes.{NodeState, above_if, comes_above, node_step}

-- none of these is an arbitrator's
abbrev pub AreNodes : List Record → Type 0
AreNodes rs = list_any is_arbiters rs ≡ false

abbrev Own : List Deed → Type 0
Own ds = AreNodes (records_of ds)

silent_own : (ds : List Deed) → Silent ds → Own ds
silent_own ds quiet = ap (λ (rs : List Record). list_any is_arbiters rs) quiet

older_own : (asker : Who) (q : ℕ) (e : Epoch) (why : ReplicaRefusal) → Own (say_older asker q e why)
older_own asker q e (Older promised) = refl
older_own asker q e NotMember = refl
older_own asker q e (Gap last) = refl
older_own asker q e LogFull = refl
older_own asker q e OutOfMemory = refl

-- The rows of a replica.

module _ (s : ReplicaState) where
  promise_own : (from : Who) (e : Epoch) → Own (promise_received from e s).deeds
  unfolding promise_received
  promise_own from e = by (promise_call e s.replica)
    where
      by : (o : Outcome Done) → Own (promise_answered from e s o).deeds
      by (Err why, r) = older_own from r.partition e why
      by (Ok New, r) = refl
      by (Ok Held, r) = refl

  fetch_own : (from : Who) (e : Epoch) (lsn : ℕ) → Own (fetch_received from e lsn s).deeds
  unfolding fetch_received
  fetch_own from e lsn = by (same_epoch s.replica.promised e)
    where
      given : (o : Option Entry) → Own (entry_given from e s o).deeds
      given None = refl
      given (Some entry) = refl

      by : (b : Bool) → Own (let a : Acted ReplicaState = if b then entry_given from e s (entry_at lsn s.replica.log) else still s in a).deeds
      by true = given (entry_at lsn s.replica.log)
      by false = refl

  piece_own : (e : Epoch) (x : Entry) → Own (piece_received e x s).deeds
  unfolding piece_received
  piece_own e x = go s.catch_up
    where
      adopted : (t : CatchUp) (r : Replica) (none : Bool) → Own (if none then nothing_adopted r.partition t else log_adopted r.partition t false)
      adopted t r true = refl
      adopted t r false = refl

      on : (t : CatchUp) (r : Replica) (last : Bool) → Own (if last then adoption r.partition t false else fetch_next t r ∷ [])
      on t r true = adopted t r (t.last == 0)
      on t r false = refl

      collected : (t : CatchUp) (o : Outcome Done) → Own (piece_collected t x s o).deeds
      collected t (Err why, r) = refl
      collected t (Ok d, r) = on t r (x.lsn == t.last)

      by : (t : CatchUp) (b : Bool) → Own (let a : Acted ReplicaState = if b then piece_collected t x s (adopt_call t.epoch x t.last s.replica) else still s in a).deeds
      by t true = collected t (adopt_call t.epoch x t.last s.replica)
      by t false = refl

      go : (o : Option CatchUp) → Own (piece_for e x s o).deeds
      go None = refl
      go (Some t) = by t (is_wanted t e x.lsn s.replica)

  activate_own : (me : ℕ) (from : Who) (config : Config) → Own (activate_received me from config s).deeds
  unfolding activate_received
  activate_own me from config = go (activate_call me config s.replica)
    where
      takes : (b : Bool) (role : Role) (r : Replica) → Own (let a : Acted ReplicaState = if b then acted s (say_activated from config ∷ []) else role_begun me from config s r role in a).deeds
      takes true role r = refl
      takes false NoRole r = refl
      takes false IdleSecondary r = refl
      takes false ActiveSecondary r = refl
      takes false Primary r = refl

      go : (o : Outcome Role) → Own (activate_answered me from config s o).deeds
      go (Err why, r) = older_own from config.partition config.epoch why
      go (Ok role, r) = takes (same_role s.replica.role role) role r

  append_own : (from : Who) (e : Epoch) (lsn : ℕ) (text : List ℕ) → Own (append_received from e lsn text s).deeds
  unfolding append_received
  append_own from e lsn text = go (append_call e lsn text s.replica)
    where
      gap : (b : Bool) (r : Replica) → Own (let a : Acted ReplicaState = if b then acted s (say_appended from e r ∷ []) else still s in a).deeds
      gap true r = refl
      gap false r = refl

      go : (o : Outcome Done) → Own (append_answered from e lsn text s o).deeds
      go (Ok New, r) = refl
      go (Ok Held, r) = refl
      go (Err (Gap last), r) = gap (same_epoch r.at e) r
      go (Err (Older x), r) = refl
      go (Err NotMember, r) = refl
      go (Err LogFull, r) = refl
      go (Err OutOfMemory, r) = refl

  appended_own : (node : ℕ) (e : Epoch) (last : ℕ) → Own (appended_received node e last s).deeds
  unfolding appended_received
  appended_own node e last = go (progress_of s)
    where
      by : (l : ReplicationProgress) (b : Bool) → Own (let a : Acted ReplicaState = if b then committed l s else still s in a).deeds
      by l true = silent_own (committed l s).deeds (committed_noted l s).silent
      by l false = refl

      go : (o : Option ReplicationProgress) → Own (appended_to node e last s o).deeds
      go None = refl
      go (Some l) = by (confirmed_by node last (last_of s.replica) l) (same_epoch s.replica.at e)

  write_own : (text : List ℕ) → Own (write_commanded text s).deeds
  unfolding write_commanded
  write_own text = go (progress_of s)
    where
      sent : (l : ReplicationProgress) (r : Replica) (peers : List PeerProgress) → Own (map (append_to r.at r (last_of r) text) peers ++ (committed l (replica_put s r)).deeds)
      sent l r [] = silent_own (committed l (replica_put s r)).deeds (committed_noted l (replica_put s r)).silent
      sent l r (p ∷ ps) = sent l r ps

      by : (l : ReplicationProgress) (o : Outcome Done) → Own (write_answered text l s o).deeds
      by l (Err (Older x), r) = refl
      by l (Err NotMember, r) = refl
      by l (Err (Gap last), r) = refl
      by l (Err LogFull, r) = refl
      by l (Err OutOfMemory, r) = refl
      by l (Ok d, r) = sent l r l.peers

      go : (o : Option ReplicationProgress) → Own (write_to text s o).deeds
      go None = refl
      go (Some l) = by l (append_call s.replica.at (last_of s.replica + 1) text s.replica)

-- an answer about names records nothing
answer_own : (s : ReplicaState) (a : Acted ReplicaState) → OnlyAnswers s a → Own a.deeds
answer_own s a h = subst (λ (b : Acted ReplicaState). Own b.deeds) (sym h.is) refl

-- a Sync, by what the promise answers

module _ (me : ℕ) (t : CatchUp) where
  log_own : (s : ReplicaState) → Own (log_taken me t s).deeds
  log_own s = go (t.last == 0 || t.origin == me)
    where
      adopted : (r : Replica) (none : Bool) → Own (if none then nothing_adopted r.partition t else log_adopted r.partition t true)
      adopted r true = refl
      adopted r false = refl

      by : (o : Outcome Done) → Own (own_adopted t s o).deeds
      by (Err why, r) = refl
      by (Ok d, r) = adopted r (t.last == 0)

      go : (b : Bool) → Own (let a : Acted ReplicaState = if b then own_adopted t s (adopt_own_call t.epoch t.last s.replica) else acted s (fetch_next t s.replica ∷ []) in a).deeds
      go true = by (adopt_own_call t.epoch t.last s.replica)
      go false = refl

  taken_own : (s : ReplicaState) → Own (sync_taken me t s).deeds
  taken_own s = go (same_epoch s.replica.at t.epoch)
    where
      said : Deed
      said = Send t.asker (body.Adopted s.replica.partition t.epoch (last_of s.replica))

      go : (b : Bool) → Own (let a : Acted ReplicaState = if b then acted s (said ∷ []) else copy_begun me t s in a).deeds
      go true = refl
      go false = log_own (record s { replica = (idle_call t.epoch s.replica).1; catch_up = Some t })

  sync_own : (s : ReplicaState) → Own (sync_received me t s).deeds
  unfolding sync_received
  sync_own s = go (promise_call t.epoch s.replica)
    where
      go : (o : Outcome Done) → Own (sync_answered me t s o).deeds
      go (Err why, r) = older_own t.asker r.partition t.epoch why
      go (Ok New, r) = taken_own (replica_put s r)
      go (Ok Held, r) = taken_own (replica_put s r)

-- The rows of a node.

module _ (c : Site) (now : ℕ) (r : Ring) (s : Failover) where
  standing_own : (q : ℕ) (row : ReplicaState → Acted ReplicaState) (none : Acted Failover) → Own none.deeds → ((t : ReplicaState) → Own (row t).deeds) → Own (at_standing q row none s).deeds
  standing_own q row none otherwise each = go (at q s.states)
    where
      go : (o : Option ReplicaState) → Own (at_found q row none s o).deeds
      go None = otherwise
      go (Some t) = each t

  answered_own : (from : Who) (q : ℕ) (e : Epoch) (b : Body) → Own (answer c now r from.actor q e b s).deeds
  answered_own from q e b = silent_own (answer c now r from.actor q e b s).deeds (answered_silent (loads c now r s.managed.units) from.actor q e b s.managed)

  commanded_own : (q : ℕ) (kind : Kind) → Own (manage c now r q kind s).deeds
  commanded_own q kind = silent_own (manage c now r q kind s).deeds (commanded_silent (holds_point c.ring now 0 r) c.ring.arbitrators q kind s.managed)

  frame_own : (from : Who) (b : Body) → Own (frame_row c now r from b s).deeds
  frame_own from (body.Prepared q e done) = answered_own from q e (body.Prepared q e done)
  frame_own from (body.NoPrepare q e higher) = answered_own from q e (body.NoPrepare q e higher)
  frame_own from (body.Voted q e first) = answered_own from q e (body.Voted q e first)
  frame_own from (body.NoVote q e higher) = answered_own from q e (body.NoVote q e higher)
  frame_own from (body.DoneKept q e) = answered_own from q e (body.DoneKept q e)
  frame_own from (body.NoDone q e higher) = answered_own from q e (body.NoDone q e higher)
  frame_own from (body.Promised q e at last) = answered_own from q e (body.Promised q e at last)
  frame_own from (body.Adopted q e last) = answered_own from q e (body.Adopted q e last)
  frame_own from (body.Activated q e) = answered_own from q e (body.Activated q e)
  frame_own from (body.Older q e higher) = answered_own from q e (body.Older q e higher)
  frame_own from (body.Promise q e) = promise_own _ from e
  frame_own from (body.Sync q e origin last) = sync_own r.me.actor (record { epoch = e; origin = origin; last = last; asker = from }) _
  frame_own from (body.Fetch q e lsn) = standing_own q (fetch_received from e lsn) (still s) refl (λ t. fetch_own t from e lsn)
  frame_own from (body.Piece q e lsn entry_epoch text) =
      standing_own q (piece_received e (record { epoch = entry_epoch; lsn = lsn; bytes = text })) (still s) refl
      (λ t. piece_own t e (record { epoch = entry_epoch; lsn = lsn; bytes = text }))
  frame_own from (body.Activate config) = activate_own _ r.me.actor from config
  frame_own from (body.Append q e lsn text) = append_own _ from e lsn text
  frame_own from (body.Appended q e last) = standing_own q (appended_received from.actor e last) (still s) refl (λ t. appended_own t from.actor e last)
  frame_own from b = refl

  command_own : (d : Command) → Own (command_row c now r d s).deeds
  command_own (command.Create q count) = commanded_own q (Create count)
  command_own (command.Swap q node) = commanded_own q (Swap node)
  command_own (command.Heal q count) = commanded_own q (Heal count)
  command_own (command.Lose q node) = commanded_own q (Lose node)
  command_own (command.Write q text) = standing_own q (write_commanded text) (refuse verb.Write reason.NotPrimary s) refl (λ t. write_own t text)
  command_own (command.Units range) = refl
  command_own (command.Resolve q name) =
      standing_own q (resolve_commanded name) (refuse verb.Resolve reason.NotPrimary s) refl (λ t. answer_own t (resolve_commanded name t) (resolve_only_answers name t))
  command_own (command.Names q range) =
      standing_own q (names_commanded range) (refuse verb.Names reason.NotPrimary s) refl (λ t. answer_own t (names_commanded range t) (names_only_answer range t))
  command_own d = refl

  row_own : (i : Input) → Own (failover_step c now r s i).deeds
  unfolding failover_step
  row_own input.Fire = silent_own (fired s) (fired_quiet s)
  row_own (input.Frame m) = frame_own m.from m.body
  row_own (input.Do d) = command_own d

pub own_records : (c : FabricConfig) (now : ℕ) (i : Input) (s : NodeState fabric) → AreNodes (node_step fabric c now i s).records
unfolding node_step
own_records c now i s =
    by (ring_step (settings_of c s.ring.me.actor) now i s.ring).ring (not (is_left (ring_step (settings_of c s.ring.me.actor) now i s.ring).ring.phase) && comes_above (settings_of c s.ring.me.actor) s.ring i)
  where
    by : (r : Ring) (b : Bool) → AreNodes (above_if fabric c now r s.above i b).records
    by r true = row_own (site_of c r.me.actor) now r s.above i
    by r false = refl
