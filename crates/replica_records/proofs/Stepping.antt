-- Each step of a whole node is recorded.
use Rattle.std.proofs.Common.{◌≡◌, ℕ, Bool, true, false, cond, ◌==◌, List, [], ◌∷◌, ◌++◌, Option, None, Some, refl, sym, ap, ◌∙◌, subst}
use Rattle.std.proofs.lemmas.Bool.{eqb-true, eqb-false}
use Rattle.std.specs.Prelude.{unwrap_or}
use Rattle.std.specs.List.{flat_map}
use Rattle.fabric_lemmas.specs.Maps.{at, put}
use Rattle.fabric_lemmas.proofs.Maps.{at-put}
use Rattle.fabric_terms.specs.declared.command.Command.{Command}
use Rattle.fabric_terms.specs.declared.command.Command.TheVariants as command
use Rattle.fabric_terms.specs.declared.message.Body.{Body}
use Rattle.fabric_terms.specs.declared.message.Body.TheVariants as body
use Rattle.fabric_terms.specs.declared.record.Record.{Record}
use Rattle.fabric_terms.specs.declared.report.Reason.TheVariants as reason
use Rattle.fabric_terms.specs.declared.report.Verb.TheVariants as verb
use Rattle.ring_points.specs.declared.who.Who.{Who}
use Rattle.ring_points.specs.declared.unit.Epoch.{Epoch}
use Rattle.ring_rules.specs.declared.input.Input.TheVariants as input
use Rattle.ring_rules.specs.Owns.{holds_point}
use Rattle.ring_rules.specs.Rings.{Ring}
use Rattle.unit_rules.specs.declared.reconfig.Kind.{Kind}
use Rattle.unit_rules.specs.declared.reconfig.Kind.TheVariants.{Create, Swap, Heal, Lose}
use Rattle.unit_rules.specs.Answers.{names_commanded, resolve_commanded}
use Rattle.unit_rules.specs.Copies.{fetch_received, piece_received}
use Rattle.unit_rules.specs.Deeds.{Acted, acted, still, refuse, records_of}
use Rattle.unit_rules.specs.Loads.{Site, loads}
use Rattle.unit_rules.specs.Questions.{reconfig_fired}
use Rattle.unit_rules.specs.Reconfigs.{Reconfig}
use Rattle.unit_rules.specs.ReplicaStates.{ReplicaState, first_state}
use Rattle.unit_rules.specs.Starts.{replica_of, replicas_after_all}
use Rattle.unit_rules.specs.Steps.{Failover, by_state, at_found, at_standing, answer, frame_row, manage, command_row, fired, failover_step}
use Rattle.unit_rules.specs.Writes.{appended_received, write_commanded, state_fired}
use Rattle.replica_records.specs.ReplicaStates.{state_at}
use Rattle.unit_rules.proofs.Answered.{names_only_answer, resolve_only_answers}
use Rattle.replica_records.specs.Kept.{without_role, AreKept, IsFit}
use Rattle.replica_records.specs.Laws.{StepsAreKept}
use Rattle.replica_records.proofs.Folding.{replica_after_all, all_here, all_there, after_join}
use Rattle.replica_records.proofs.Recorded.{Recorded, silent_join}
use Rattle.replica_records.proofs.Promising.{promise_recorded, sync_recorded, fetch_recorded, activate_recorded}
use Rattle.replica_records.proofs.Copying.{piece_recorded}
use Rattle.replica_records.proofs.Writing.{append_recorded, appended_recorded, write_recorded, answer_recorded, fired_silent}
use Rattle.replica_records.proofs.Silent.{Silent, answered_silent, commanded_silent, asked_silent}

-- a firing records nothing
pub fired_quiet : (s : Failover) → Silent (fired s)
fired_quiet s =
    silent_join (flat_map (λ e. reconfig_fired e.1) s.managed.reconfigs) (flat_map (λ e. state_fired e.1) s.states)
    (asked s.managed.reconfigs) (sent s.states)
  where
    asked : (es : List (ℕ × Reconfig)) → Silent (flat_map (λ e. reconfig_fired e.1) es)
    asked [] = refl
    asked (e ∷ es) = silent_join (reconfig_fired e.1) (flat_map (λ e. reconfig_fired e.1) es) (asked_silent e.1) (asked es)

    sent : (es : List (ℕ × ReplicaState)) → Silent (flat_map (λ e. state_fired e.1) es)
    sent [] = refl
    sent (e ∷ es) = silent_join (state_fired e.1) (flat_map (λ e. state_fired e.1) es) (fired_silent e.1) (sent es)

-- with what is recorded of it, what stands after a step is kept
abbrev Keeps : List Record → Acted Failover → Type 0
Keeps records a = AreKept (records ++ records_of a.deeds) a.state

module _ (records : List Record) (s : Failover) (fit : (p : ℕ) → IsFit p (state_at p s)) (kept : AreKept records s) where
  -- nothing is recorded, and the replicas stay
  silent : (a : Acted Failover) → Silent a.deeds → a.state.states ≡ s.states → Keeps records a
  silent a quiet same p =
      ap (λ (rs : List Record). replica_of p (replicas_after_all [] (records ++ rs))) quiet
      ∙ (ap (replica_of p) (after_join [] records []) ∙ (kept p
      ∙ sym (ap (λ (es : List (ℕ × ReplicaState)). without_role (unwrap_or (at p es) (first_state p)).replica) same)))

  module _ (q : ℕ) (a : Acted ReplicaState) (r : Recorded q (state_at q s) a) where
    put_state : (p : ℕ) (b : Bool) → (q == p) ≡ b → state_at p (record s { states = put q a.state s.states }) ≡ cond b a.state (state_at p s)
    put_state p true h =
        ap (λ o. unwrap_or o (first_state p)) (at-put q a.state s.states p ∙ ap (λ t. cond t (Some a.state) (at p s.states)) h)
    put_state p false h =
        ap (λ o. unwrap_or o (first_state p)) (at-put q a.state s.states p ∙ ap (λ t. cond t (Some a.state) (at p s.states)) h)

    here : replica_of q (replicas_after_all [] (records ++ records_of a.deeds)) ≡ without_role a.state.replica
    here =
        ap (replica_of q) (after_join [] records (records_of a.deeds))
        ∙ (all_here q (records_of a.deeds) r.of (replicas_after_all [] records)
        ∙ (ap (λ z. replica_after_all z (records_of a.deeds)) (kept q) ∙ r.folds))

    there : (p : ℕ) → (q ≡ p → ⊥) → replica_of p (replicas_after_all [] (records ++ records_of a.deeds)) ≡ without_role (state_at p s).replica
    there p d =
        ap (replica_of p) (after_join [] records (records_of a.deeds))
        ∙ (all_there q (records_of a.deeds) r.of (replicas_after_all [] records) p d ∙ kept p)

    -- a row of the partition's replica
    state_keeps : Keeps records (by_state q s a)
    state_keeps p = go (q == p) refl
      where
        go : (b : Bool) → (q == p) ≡ b →
            replica_of p (replicas_after_all [] (records ++ records_of a.deeds))
            ≡ without_role (state_at p (record s { states = put q a.state s.states })).replica
        go true h =
            subst (λ t. replica_of t (replicas_after_all [] (records ++ records_of a.deeds)) ≡ without_role a.state.replica) (eqb-true q p h) here
            ∙ sym (ap (λ (z : ReplicaState). without_role z.replica) (put_state p true h))
        go false h = there p (eqb-false q p h) ∙ sym (ap (λ (z : ReplicaState). without_role z.replica) (put_state p false h))

  -- a row of the replica that was found, or else nothing of the kind
  standing : (q : ℕ) (row : ReplicaState → Acted ReplicaState) (none : Acted Failover) → Keeps records none → Recorded q (state_at q s) (row (state_at q s)) →
      Keeps records (at_standing q row none s)
  standing q row none otherwise r = go (at q s.states) refl
    where
      go : (o : Option ReplicaState) → at q s.states ≡ o → Keeps records (at_found q row none s o)
      go None i = otherwise
      go (Some state) i =
          let same : state_at q s ≡ state = ap (λ o. unwrap_or o (first_state q)) i in
          state_keeps q (row state) (subst (λ (z : ReplicaState). Recorded q (state_at q s) (row z)) same r)

  nothing : Keeps records (still s)
  nothing = silent (still s) refl refl

  module _ (c : Site) (now : ℕ) (r : Ring) where
    answered : (from : Who) (q : ℕ) (e : Epoch) (b : Body) → Keeps records (answer c now r from.actor q e b s)
    answered from q e b =
        silent (answer c now r from.actor q e b s) (answered_silent (loads c now r s.managed.units) from.actor q e b s.managed) refl

    commanded : (q : ℕ) (kind : Kind) → Keeps records (manage c now r q kind s)
    commanded q kind = silent (manage c now r q kind s) (commanded_silent (holds_point c.ring now 0 r) c.ring.arbitrators q kind s.managed) refl

    frame_keeps : (from : Who) (b : Body) → Keeps records (frame_row c now r from b s)
    frame_keeps from (body.Prepared q e done) = answered from q e (body.Prepared q e done)
    frame_keeps from (body.NoPrepare q e higher) = answered from q e (body.NoPrepare q e higher)
    frame_keeps from (body.Voted q e first) = answered from q e (body.Voted q e first)
    frame_keeps from (body.NoVote q e higher) = answered from q e (body.NoVote q e higher)
    frame_keeps from (body.DoneKept q e) = answered from q e (body.DoneKept q e)
    frame_keeps from (body.NoDone q e higher) = answered from q e (body.NoDone q e higher)
    frame_keeps from (body.Promised q e at last) = answered from q e (body.Promised q e at last)
    frame_keeps from (body.Adopted q e last) = answered from q e (body.Adopted q e last)
    frame_keeps from (body.Activated q e) = answered from q e (body.Activated q e)
    frame_keeps from (body.Older q e higher) = answered from q e (body.Older q e higher)
    frame_keeps from (body.Promise q e) = state_keeps q _ (promise_recorded q (state_at q s) (fit q).partition from e)
    frame_keeps from (body.Sync q e origin last) =
        state_keeps q _ (sync_recorded q r.me.actor (record { epoch = e; origin = origin; last = last; asker = from }) (state_at q s) (fit q).partition)
    frame_keeps from (body.Fetch q e lsn) = standing q (fetch_received from e lsn) (still s) nothing (fetch_recorded q (state_at q s) from e lsn)
    frame_keeps from (body.Piece q e lsn entry_epoch text) =
        standing q (piece_received e (record { epoch = entry_epoch; lsn = lsn; bytes = text })) (still s) nothing
        (piece_recorded q (state_at q s) (fit q) e (record { epoch = entry_epoch; lsn = lsn; bytes = text }))
    frame_keeps from (body.Activate config) =
        state_keeps config.partition _
        (activate_recorded config.partition (state_at config.partition s) (fit config.partition).at_promised r.me.actor from config)
    frame_keeps from (body.Append q e lsn text) = state_keeps q _ (append_recorded q (state_at q s) (fit q).partition from e lsn text)
    frame_keeps from (body.Appended q e last) =
        standing q (appended_received from.actor e last) (still s) nothing (appended_recorded q (state_at q s) from.actor e last)
    frame_keeps from b = nothing

    command_keeps : (d : Command) → Keeps records (command_row c now r d s)
    command_keeps (command.Create q count) = commanded q (Create count)
    command_keeps (command.Swap q node) = commanded q (Swap node)
    command_keeps (command.Heal q count) = commanded q (Heal count)
    command_keeps (command.Lose q node) = commanded q (Lose node)
    command_keeps (command.Write q text) =
        standing q (write_commanded text) (refuse verb.Write reason.NotPrimary s) (silent (refuse verb.Write reason.NotPrimary s) refl refl)
        (write_recorded q (state_at q s) (fit q).partition text)
    command_keeps (command.Units range) = silent (command_row c now r (command.Units range) s) refl refl
    command_keeps (command.Resolve q name) =
        standing q (resolve_commanded name) (refuse verb.Resolve reason.NotPrimary s) (silent (refuse verb.Resolve reason.NotPrimary s) refl refl)
        (answer_recorded q (state_at q s) (resolve_commanded name (state_at q s)) (resolve_only_answers name (state_at q s)))
    command_keeps (command.Names q range) =
        standing q (names_commanded range) (refuse verb.Names reason.NotPrimary s) (silent (refuse verb.Names reason.NotPrimary s) refl refl)
        (answer_recorded q (state_at q s) (names_commanded range (state_at q s)) (names_only_answer range (state_at q s)))
    command_keeps d = nothing

  fire_keeps : Keeps records (acted s (fired s))
  fire_keeps = silent (acted s (fired s)) (fired_quiet s) refl

pub steps_lem : StepsAreKept
unfolding failover_step
steps_lem c now r s input.Fire records fit kept = fire_keeps records s fit kept
steps_lem c now r s (input.Frame f) records fit kept = frame_keeps records s fit kept c now r f.from f.body
steps_lem c now r s (input.Do d) records fit kept = command_keeps records s fit kept c now r d
