-- After each step of a whole node what is recorded is what stands, exactly.
use Rattle.std.proofs.Common.{◌≡◌, ⊎_elim, ℕ, Bool, true, false, cond, ◌==◌, ◌&&◌, List, [], ◌++◌, Option, None, Some, refl, sym, ap, ◌∙◌, subst}
use Rattle.std.proofs.lemmas.Bool.{eqb-true, eqb-false, and_parts, leb-true}
use Rattle.std.specs.Prelude.{unwrap_or, IsTrue}
use Rattle.fabric_lemmas.specs.Maps.{at, put, rises}
use Rattle.fabric_lemmas.proofs.Maps.{at-put, rises-put}
use Rattle.fabric_terms.specs.Fields.{is_unit, is_node, is_last, is_sender, is_addressee}
use Rattle.fabric_terms.specs.Messages.{is_sound_body}
use Rattle.fabric_terms.specs.declared.command.Command.{Command}
use Rattle.fabric_terms.specs.declared.command.Command.TheVariants as command
use Rattle.fabric_terms.specs.declared.message.Body.{Body}
use Rattle.fabric_terms.specs.declared.message.Body.TheVariants as body
use Rattle.fabric_terms.specs.declared.record.Record.{Record}
use Rattle.fabric_terms.specs.declared.report.Reason.TheVariants as reason
use Rattle.fabric_terms.specs.declared.report.Verb.TheVariants as verb
use Rattle.ring_points.specs.Limits.{most_log_entries}
use Rattle.ring_points.specs.declared.unit.Epoch.{Epoch}
use Rattle.ring_points.specs.declared.who.Who.{Who}
use Rattle.ring_rules.specs.declared.input.Input.{Input}
use Rattle.ring_rules.specs.declared.input.Input.TheVariants as input
use Rattle.ring_rules.specs.Owns.{holds_point}
use Rattle.ring_rules.specs.Rings.{Ring}
use Rattle.replica_core.specs.declared.entry.Entry.{Entry}
use Rattle.replica_core.specs.Replicas.{first_replica}
use Rattle.unit_rules.specs.declared.progress.CatchUp.{CatchUp}
use Rattle.unit_rules.specs.declared.reconfig.Kind.{Kind}
use Rattle.unit_rules.specs.declared.reconfig.Kind.TheVariants.{Create, Swap, Heal, Lose}
use Rattle.unit_rules.specs.Answers.{names_commanded, resolve_commanded}
use Rattle.unit_rules.specs.Copies.{fetch_received, piece_received}
use Rattle.unit_rules.specs.Deeds.{Acted, acted, still, refuse, records_of}
use Rattle.unit_rules.specs.Loads.{Site, loads}
use Rattle.unit_rules.specs.ReplicaStates.{ReplicaState, first_state}
use Rattle.unit_rules.specs.Starts.{Replicas, replica_of, replicas_after_all}
use Rattle.unit_rules.specs.Steps.{Failover, by_state, at_found, at_standing, answer, frame_row, manage, command_row, fired, failover_step}
use Rattle.unit_rules.specs.Writes.{appended_received, write_commanded}
use Rattle.replica_records.specs.ReplicaStates.{state_at}
use Rattle.unit_rules.proofs.Answered.{names_only_answer, resolve_only_answers}
use Rattle.replica_records.specs.Kept.{without_role, IsFit}
use Rattle.replica_records.specs.Named.{is_named, KeptAs, FitsFrame}
use Rattle.replica_records.proofs.Copying.{piece_recorded}
use Rattle.replica_records.proofs.Fitting.{recorded_fit}
use Rattle.replica_records.specs.Laws.{StepsStayKept}
use Rattle.replica_records.proofs.Folding.{replica_after_all, all_here, at_there, after_join}
use Rattle.replica_records.proofs.Named.{shown, Full, named_full, full_of, kept_as}
use Rattle.replica_records.proofs.Promising.{promise_recorded, sync_recorded, fetch_recorded, activate_recorded}
use Rattle.replica_records.proofs.Recorded.{Recorded}
use Rattle.replica_records.proofs.Rows.{Stood, promise_stood, fetch_stood, piece_stood, activate_stood, append_stood, appended_stood, write_stood, answer_stood}
use Rattle.replica_records.proofs.Silent.{Silent, answered_silent, commanded_silent}
use Rattle.replica_records.proofs.Stepping.{fired_quiet, steps_lem}
use Rattle.replica_records.proofs.Syncs.{sync_stood}
use Rattle.replica_records.proofs.Writing.{append_recorded, appended_recorded, write_recorded, answer_recorded}

-- what a step leaves of the replicas: each is fit, they rise, and the records name each replica that they give
record Leaves (records : List Record) (a : Acted Failover) : Type 0 where
  fit : (p : ℕ) → IsFit p (state_at p a.state)
  rise : rises a.state.states ≡ true
  full : Full (replicas_after_all [] (records ++ records_of a.deeds))

module _ (records : List Record) (s : Failover) (k : KeptAs records s) where
  -- nothing is recorded, and the replicas stay
  quiet : (a : Acted Failover) → Silent a.deeds → a.state.states ≡ s.states → Leaves records a
  quiet a none same = record {
    fit = λ p. subst (λ (es : List (ℕ × ReplicaState)). IsFit p (unwrap_or (at p es) (first_state p))) (sym same) (k.fit p);
    rise = ap (λ (es : List (ℕ × ReplicaState)). rises es) same ∙ k.rise;
    full =
        subst Full (sym (ap (λ (rs : List Record). replicas_after_all [] (records ++ rs)) none ∙ after_join [] records []))
        (full_of records s k);
  }

  module _ (q : ℕ) (a : Acted ReplicaState) (r : Recorded q (state_at q s) a) (st : Stood a) where
    state_put : (p : ℕ) (b : Bool) → (q == p) ≡ b → state_at p (record s { states = put q a.state s.states }) ≡ cond b a.state (state_at p s)
    state_put p true h =
        ap (λ o. unwrap_or o (first_state p)) (at-put q a.state s.states p ∙ ap (λ t. cond t (Some a.state) (at p s.states)) h)
    state_put p false h =
        ap (λ o. unwrap_or o (first_state p)) (at-put q a.state s.states p ∙ ap (λ t. cond t (Some a.state) (at p s.states)) h)

    fit_put : (p : ℕ) → IsFit p (state_at p (record s { states = put q a.state s.states }))
    fit_put p = go (q == p) refl
      where
        go : (b : Bool) → (q == p) ≡ b → IsFit p (state_at p (record s { states = put q a.state s.states }))
        go true h =
            subst (λ (z : ReplicaState). IsFit p z) (sym (state_put p true h))
            (subst (λ t. IsFit t a.state) (eqb-true q p h) (recorded_fit q (state_at q s) a r (k.fit q) st.room))
        go false h = subst (λ (z : ReplicaState). IsFit p z) (sym (state_put p false h)) (k.fit p)

    abbrev before : Replicas
    before = replicas_after_all [] records

    abbrev folded : Replicas
    folded = replicas_after_all before (records_of a.deeds)

    here : replica_of q folded ≡ without_role a.state.replica
    here =
        all_here q (records_of a.deeds) r.of before
        ∙ (ap (λ z. replica_after_all z (records_of a.deeds)) (k.stands q) ∙ r.folds)

    full_put : Full folded
    full_put = ⊎_elim none some st.named
      where
        none : records_of a.deeds ≡ [] → Full folded
        none h = subst (λ rs. Full (replicas_after_all before rs)) (sym h) (full_of records s k)

        some : is_named a.state.replica ≡ true → Full folded
        some h p = go (q == p) refl
          where
            go : (b : Bool) → (q == p) ≡ b → at p folded ≡ shown (replica_of p folded)
            go true e =
                subst (λ t. at t folded ≡ shown (replica_of t folded)) (eqb-true q p e) (named_full q folded (ap is_named here ∙ h))
            go false e =
                let same : at p folded ≡ at p before = at_there q (records_of a.deeds) r.of before p (eqb-false q p e) in
                same ∙ (full_of records s k p ∙ sym (ap (λ o. shown (unwrap_or o (first_replica p))) same))

    -- a row of the partition's replica
    state : Leaves records (by_state q s a)
    state = record {
      fit = fit_put;
      rise = rises-put q a.state s.states k.rise;
      full = subst Full (sym (after_join [] records (records_of a.deeds))) full_put;
    }

  -- a row of the replica that was found, or else nothing of the kind
  standing : (q : ℕ) (row : ReplicaState → Acted ReplicaState) (none : Acted Failover) → Leaves records none → Recorded q (state_at q s) (row (state_at q s)) →
      Stood (row (state_at q s)) → Leaves records (at_standing q row none s)
  standing q row none otherwise r st = go (at q s.states) refl
    where
      go : (o : Option ReplicaState) → at q s.states ≡ o → Leaves records (at_found q row none s o)
      go None i = otherwise
      go (Some found) i =
          let same : state_at q s ≡ found = ap (λ o. unwrap_or o (first_state q)) i in
          state q (row found) (subst (λ (z : ReplicaState). Recorded q (state_at q s) (row z)) same r) (subst (λ (z : ReplicaState). Stood (row z)) same st)

  nothing : Leaves records (still s)
  nothing = quiet (still s) refl refl

  module _ (c : Site) (now : ℕ) (r : Ring) where
    answered : (from : Who) (q : ℕ) (e : Epoch) (b : Body) → Leaves records (answer c now r from.actor q e b s)
    answered from q e b =
        quiet (answer c now r from.actor q e b s) (answered_silent (loads c now r s.managed.units) from.actor q e b s.managed) refl

    commanded : (q : ℕ) (kind : Kind) → Leaves records (manage c now r q kind s)
    commanded q kind = quiet (manage c now r q kind s) (commanded_silent (holds_point c.ring now 0 r) c.ring.arbitrators q kind s.managed) refl

    frame_leaves : (from : Who) (b : Body) → IsTrue (is_sound_body b) → Leaves records (frame_row c now r from b s)
    frame_leaves from (body.Prepared q e done) h = answered from q e (body.Prepared q e done)
    frame_leaves from (body.NoPrepare q e higher) h = answered from q e (body.NoPrepare q e higher)
    frame_leaves from (body.Voted q e first) h = answered from q e (body.Voted q e first)
    frame_leaves from (body.NoVote q e higher) h = answered from q e (body.NoVote q e higher)
    frame_leaves from (body.DoneKept q e) h = answered from q e (body.DoneKept q e)
    frame_leaves from (body.NoDone q e higher) h = answered from q e (body.NoDone q e higher)
    frame_leaves from (body.Promised q e at last) h = answered from q e (body.Promised q e at last)
    frame_leaves from (body.Adopted q e last) h = answered from q e (body.Adopted q e last)
    frame_leaves from (body.Activated q e) h = answered from q e (body.Activated q e)
    frame_leaves from (body.Older q e higher) h = answered from q e (body.Older q e higher)
    frame_leaves from (body.Promise q e) h =
        state q _ (promise_recorded q (state_at q s) (k.fit q).partition from e) (promise_stood (state_at q s) (k.fit q).room from e)
    frame_leaves from (body.Sync q e origin last) h =
        let t : CatchUp = record { epoch = e; origin = origin; last = last; asker = from } in
        let small = leb-true last most_log_entries (and_parts (is_unit q e && is_node origin) (is_last last) h).1 in
        state q _ (sync_recorded q r.me.actor t (state_at q s) (k.fit q).partition)
        (sync_stood r.me.actor t small (state_at q s) (k.fit q).room (k.fit q).at_promised)
    frame_leaves from (body.Fetch q e lsn) h =
        standing q (fetch_received from e lsn) (still s) nothing (fetch_recorded q (state_at q s) from e lsn)
        (fetch_stood (state_at q s) (k.fit q).room from e lsn)
    frame_leaves from (body.Piece q e lsn entry_epoch text) h =
        let x : Entry = record { epoch = entry_epoch; lsn = lsn; bytes = text } in
        standing q (piece_received e x) (still s) nothing (piece_recorded q (state_at q s) (k.fit q) e x)
        (piece_stood (state_at q s) (k.fit q).room (k.fit q).at_promised e x)
    frame_leaves from (body.Activate config) h =
        let q = config.partition in
        state q _ (activate_recorded q (state_at q s) (k.fit q).at_promised r.me.actor from config)
        (activate_stood (state_at q s) (k.fit q).room r.me.actor from config)
    frame_leaves from (body.Append q e lsn text) h =
        state q _ (append_recorded q (state_at q s) (k.fit q).partition from e lsn text) (append_stood (state_at q s) (k.fit q).room from e lsn text)
    frame_leaves from (body.Appended q e last) h =
        standing q (appended_received from.actor e last) (still s) nothing (appended_recorded q (state_at q s) from.actor e last)
        (appended_stood (state_at q s) (k.fit q).room from.actor e last)
    frame_leaves from b h = nothing

    command_leaves : (d : Command) → Leaves records (command_row c now r d s)
    command_leaves (command.Create q count) = commanded q (Create count)
    command_leaves (command.Swap q node) = commanded q (Swap node)
    command_leaves (command.Heal q count) = commanded q (Heal count)
    command_leaves (command.Lose q node) = commanded q (Lose node)
    command_leaves (command.Write q text) =
        standing q (write_commanded text) (refuse verb.Write reason.NotPrimary s) (quiet (refuse verb.Write reason.NotPrimary s) refl refl)
        (write_recorded q (state_at q s) (k.fit q).partition text) (write_stood (state_at q s) (k.fit q).room text)
    command_leaves (command.Units range) = quiet (command_row c now r (command.Units range) s) refl refl
    command_leaves (command.Resolve q name) =
        let h = resolve_only_answers name (state_at q s) in
        standing q (resolve_commanded name) (refuse verb.Resolve reason.NotPrimary s) (quiet (refuse verb.Resolve reason.NotPrimary s) refl refl)
        (answer_recorded q (state_at q s) (resolve_commanded name (state_at q s)) h) (answer_stood (state_at q s) (k.fit q).room (resolve_commanded name (state_at q s)) h)
    command_leaves (command.Names q range) =
        let h = names_only_answer range (state_at q s) in
        standing q (names_commanded range) (refuse verb.Names reason.NotPrimary s) (quiet (refuse verb.Names reason.NotPrimary s) refl refl)
        (answer_recorded q (state_at q s) (names_commanded range (state_at q s)) h) (answer_stood (state_at q s) (k.fit q).room (names_commanded range (state_at q s)) h)
    command_leaves d = nothing

step_leaves : (c : Site) (now : ℕ) (r : Ring) (s : Failover) (i : Input) (records : List Record) → FitsFrame i → KeptAs records s →
    Leaves records (failover_step c now r s i)
unfolding failover_step
step_leaves c now r s input.Fire records h k = quiet records s k (acted s (fired s)) (fired_quiet s) refl
step_leaves c now r s (input.Frame m) records h k =
    frame_leaves records s k c now r m.from m.body (and_parts (is_sender m.from && is_addressee m.to) (is_sound_body m.body) h).1
step_leaves c now r s (input.Do d) records h k = command_leaves records s k c now r d

pub stay_lem : StepsStayKept
stay_lem c now r s i records h k =
    let after : Leaves records (failover_step c now r s i) = step_leaves c now r s i records h k in
    let a : Acted Failover = failover_step c now r s i in
    kept_as (records ++ records_of a.deeds) a.state after.fit after.rise (steps_lem c now r s i records k.fit k.stands) after.full
