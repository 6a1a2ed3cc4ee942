-- Each step of a whole node is deeds of the machines, and so is each answer of an arbitrator.
use Rattle.std.proofs.Common.{◌≡◌, ℕ, ◌<◌, Option, None, Some, refl, sym, ap, subst, ◌⊎◌, ⊎_elim, arith}
use Rattle.std.specs.Prelude.{unwrap_or}
use Rattle.fabric_lemmas.specs.Maps.{at}
use Rattle.ring_points.specs.declared.unit.Config.{Config}
use Rattle.ring_points.specs.declared.unit.Epoch.{Epoch}
use Rattle.ring_points.specs.declared.who.Who.{Who}
use Rattle.fabric_terms.specs.declared.command.Command.{Command}
use Rattle.fabric_terms.specs.declared.command.Command.TheVariants as command
use Rattle.fabric_terms.specs.declared.message.Body.{Body}
use Rattle.fabric_terms.specs.declared.message.Body.TheVariants as body
use Rattle.fabric_terms.specs.declared.message.Message.{Message}
use Rattle.fabric_terms.specs.declared.report.Reason.TheVariants as reason
use Rattle.fabric_terms.specs.declared.report.Verb.TheVariants as verb
use Rattle.ring_rules.specs.declared.input.Input.TheVariants as input
use Rattle.ring_rules.specs.Owns.{holds_point}
use Rattle.ring_rules.specs.Rings.{Ring}
use Rattle.epoch_machine.specs.Invariant.{Invariant}
use Rattle.unit_rules.specs.declared.reconfig.Kind.{Kind}
use Rattle.unit_rules.specs.declared.reconfig.Kind.TheVariants.{Create, Swap, Heal, Lose}
use Rattle.unit_rules.specs.Activations.{activate_received}
use Rattle.unit_rules.specs.Answers.{names_commanded, resolve_commanded}
use Rattle.unit_rules.specs.Copies.{sync_received, fetch_received, piece_received}
use Rattle.unit_rules.specs.Deeds.{Acted, still, refuse}
use Rattle.unit_rules.specs.Loads.{Site, loads}
use Rattle.unit_rules.specs.Manager.{reconfig_commanded}
use Rattle.unit_rules.specs.ReplicaStates.{ReplicaState, first_state}
use Rattle.unit_rules.specs.Steps.{Failover, by_manager, at_state, at_found, at_standing, answer, frame_row, manage, command_row, failover_step}
use Rattle.unit_rules.specs.Writes.{appended_received, write_commanded}
use Rattle.unit_rules.proofs.Answered.{names_only_answer, resolve_only_answers}
use Rattle.replica_records.specs.ReplicaStates.{state_at}
use Rattle.epoch_refinement.specs.Epochs.{settings_to}
use Rattle.epoch_refinement.specs.Laws.{StepsAreDeeds}
use Rattle.epoch_refinement.specs.Nodes.{Machines, ShowsNode, NodeRefined, Arrives}
use Rattle.epoch_refinement.specs.Reconfigs.{IsAnswerOf}
use Rattle.epoch_refinement.specs.Refined.{Refined}
use Rattle.epoch_refinement.specs.Rows.{state_received}
use Rattle.epoch_refinement.specs.Shown.{partition_of, Shown, ShownPrepared}
use Rattle.epoch_refinement.proofs.Doing.{answer_refined}
use Rattle.epoch_refinement.proofs.Firing.{fired_step}
use Rattle.epoch_refinement.proofs.Managers.{answered_step, commanded_step}
use Rattle.epoch_refinement.proofs.Parts.{between_none, state_step}
use Rattle.epoch_refinement.proofs.Rows.{frames_are_deeds_lem, writes_are_deeds_lem}

module _ {k : ℕ} {m : Machines} {x : Who} {s : Failover} (inv : (p : ℕ) → Invariant (settings_to k) (m p)) (shows : ShowsNode k m x s)
    (me : 0 < x.instance) where
  -- nothing is done
  nothing : NodeRefined k m x (still s)
  nothing = record { after = m; between = λ p. between_none (inv p); shows = shows; sent = tt; told = λ p. refl; real = tt }

  -- a row of the replica that was found, or else nothing of the kind
  standing : (q : ℕ) (row : ReplicaState → Acted ReplicaState) (none : Acted Failover) → NodeRefined k m x none → Refined (settings_to k) (m q) q x (row (state_at q s)) →
      NodeRefined k m x (at_standing q row none s)
  standing q row none otherwise r = go (at q s.states) refl
    where
      go : (o : Option ReplicaState) → at q s.states ≡ o → NodeRefined k m x (at_found q row none s o)
      go None i = otherwise
      go (Some state) i =
          let same : state_at q s ≡ state = ap (λ o. unwrap_or o (first_state q)) i in
          state_step inv shows q (row state) (subst (λ z. Refined (settings_to k) (m q) q x (row z)) same r)

  -- a frame that comes to the replica
  received : (f : Message) → Arrives m x f → Refined (settings_to k) (m (partition_of f.body)) (partition_of f.body) x
      (state_received x f.from f.body (state_at (partition_of f.body) s))
  received f h =
      frames_are_deeds_lem (settings_to k) (m (partition_of f.body)) (partition_of f.body) x (state_at (partition_of f.body) s) (inv (partition_of f.body))
      (shows.states (partition_of f.body)) f.from f.to f.body h.here h.shown

  module _ (c : Site) (now : ℕ) (r : Ring) (is_me : r.me ≡ x) where
    -- an answer that comes to the manager
    answered : (from : Who) (q : ℕ) (e : Epoch) (b : Body) → IsAnswerOf e b → Shown (m q) q from x b → NodeRefined k m x (answer c now r from.actor q e b s)
    answered from q e b of shown = answered_step inv shows me q (loads c now r s.managed.units) from e b of shown

    commanded : c.ring.arbitrators ≡ k → (q : ℕ) (kind : Kind) → NodeRefined k m x (manage c now r q kind s)
    commanded same q kind =
        subst (λ n. NodeRefined k m x (by_manager s (reconfig_commanded (holds_point c.ring now 0 r) n q kind s.managed))) (sym same)
        (commanded_step inv shows me q (holds_point c.ring now 0 r) kind)

    -- whoever is answered is this instance
    prepared : (from to : Who) (q : ℕ) (e : Epoch) (done : Option Config) → (to.instance ≡ 0) ⊎ (to ≡ x) → ShownPrepared (m q) q from.actor to e done →
        ShownPrepared (m q) q from.actor x e done
    prepared from to q e done which shown = ⊎_elim (λ zero. absurd (let some = shown.asker in omega arith))
        (λ same. subst (λ z. ShownPrepared (m q) q from.actor z e done) same shown) which

    frame_step : (from to : Who) (b : Body) → Arrives m x (record { from = from; to = to; body = b }) → NodeRefined k m x (frame_row c now r from b s)
    frame_step from to (body.Prepared q e done) h = answered from q e (body.Prepared q e done) refl (prepared from to q e done h.to h.shown)
    frame_step from to (body.NoPrepare q e kept) h = answered from q e (body.NoPrepare q e kept) refl h.shown
    frame_step from to (body.Voted q e first) h = answered from q e (body.Voted q e first) refl h.shown
    frame_step from to (body.NoVote q e kept) h = answered from q e (body.NoVote q e kept) refl h.shown
    frame_step from to (body.DoneKept q e) h = answered from q e (body.DoneKept q e) refl h.shown
    frame_step from to (body.NoDone q e kept) h = answered from q e (body.NoDone q e kept) refl h.shown
    frame_step from to (body.Promised q e at last) h = answered from q e (body.Promised q e at last) refl h.shown
    frame_step from to (body.Adopted q e last) h = answered from q e (body.Adopted q e last) refl h.shown
    frame_step from to (body.Activated q e) h = answered from q e (body.Activated q e) refl h.shown
    frame_step from to (body.Older q e kept) h = answered from q e (body.Older q e kept) refl h.shown
    frame_step from to (body.Promise q e) h = state_step inv shows q _ (received (record { from = from; to = to; body = body.Promise q e }) h)
    frame_step from to (body.Sync q e origin last) h =
        subst (λ (y : Who). NodeRefined k m x (at_state q (sync_received y.actor (record {
          epoch = e;
          origin = origin;
          last = last;
          asker = from;
        })) s)) (sym is_me)
        (state_step inv shows q _ (received (record { from = from; to = to; body = body.Sync q e origin last }) h))
    frame_step from to (body.Fetch q e lsn) h =
        standing q (fetch_received from e lsn) (still s) nothing (received (record { from = from; to = to; body = body.Fetch q e lsn }) h)
    frame_step from to (body.Piece q e lsn entry_epoch text) h =
        standing q (piece_received e (record { epoch = entry_epoch; lsn = lsn; bytes = text })) (still s) nothing
        (received (record { from = from; to = to; body = body.Piece q e lsn entry_epoch text }) h)
    frame_step from to (body.Activate config) h =
        subst (λ (y : Who). NodeRefined k m x (at_state config.partition (activate_received y.actor from config) s)) (sym is_me)
        (state_step inv shows config.partition _ (received (record { from = from; to = to; body = body.Activate config }) h))
    frame_step from to (body.Append q e lsn text) h = state_step inv shows q _ (received (record { from = from; to = to; body = body.Append q e lsn text }) h)
    frame_step from to (body.Appended q e last) h =
        standing q (appended_received from.actor e last) (still s) nothing (received (record { from = from; to = to; body = body.Appended q e last }) h)
    frame_step from to b h = nothing

    command_step : c.ring.arbitrators ≡ k → (d : Command) → NodeRefined k m x (command_row c now r d s)
    command_step same (command.Create q count) = commanded same q (Create count)
    command_step same (command.Swap q node) = commanded same q (Swap node)
    command_step same (command.Heal q count) = commanded same q (Heal count)
    command_step same (command.Lose q node) = commanded same q (Lose node)
    command_step same (command.Write q text) =
        standing q (write_commanded text) (refuse verb.Write reason.NotPrimary s)
        (record { after = m; between = λ p. between_none (inv p); shows = shows; sent = tt; told = λ p. refl; real = (tt, tt) })
        (writes_are_deeds_lem (settings_to k) (m q) q x (state_at q s) (inv q) (shows.states q) text)
    command_step same (command.Units range) =
        record { after = m; between = λ p. between_none (inv p); shows = shows; sent = tt; told = λ p. refl; real = (tt, tt) }
    command_step same (command.Resolve q name) =
        standing q (resolve_commanded name) (refuse verb.Resolve reason.NotPrimary s)
        (record { after = m; between = λ p. between_none (inv p); shows = shows; sent = tt; told = λ p. refl; real = (tt, tt) })
        (answer_refined (inv q) (shows.states q) (resolve_commanded name (state_at q s)) (resolve_only_answers name (state_at q s)))
    command_step same (command.Names q range) =
        standing q (names_commanded range) (refuse verb.Names reason.NotPrimary s)
        (record { after = m; between = λ p. between_none (inv p); shows = shows; sent = tt; told = λ p. refl; real = (tt, tt) })
        (answer_refined (inv q) (shows.states q) (names_commanded range (state_at q s)) (names_only_answer range (state_at q s)))
    command_step same d = nothing

pub steps_lem : StepsAreDeeds
unfolding failover_step
steps_lem c now r k m s input.Fire inv same me shows comes = fired_step inv shows me
steps_lem c now r k m s (input.Frame f) inv same me shows comes = frame_step inv shows me c now r refl f.from f.to f.body comes
steps_lem c now r k m s (input.Do d) inv same me shows comes = command_step inv shows me c now r refl same d
