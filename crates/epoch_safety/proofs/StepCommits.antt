-- Of each step of a node: who reports an entry committed holds it committed then, and who answers about names was asked.
use Rattle.std.proofs.Common.{◌≡◌, ℕ, Bool, true, false, cond, List, [], ◌∷◌, Option, None, Some, refl, sym, ap, ◌∙◌, subst, inl, inr}
use Rattle.std.specs.Prelude.{unwrap_or}
use Rattle.std.specs.List.{flat_map}
use Rattle.std.proofs.lemmas.Bool.{eq-eqb}
use Rattle.fabric_lemmas.specs.Maps.{at, put}
use Rattle.fabric_lemmas.specs.Members.{IsMember}
use Rattle.fabric_lemmas.proofs.Maps.{at-put}
use Rattle.fabric_terms.specs.declared.command.Command.{Command}
use Rattle.fabric_terms.specs.declared.command.Command.TheVariants as command
use Rattle.fabric_terms.specs.declared.message.Body.{Body}
use Rattle.fabric_terms.specs.declared.message.Body.TheVariants as body
use Rattle.fabric_terms.specs.declared.report.Report.{Report}
use Rattle.fabric_terms.specs.declared.report.Report.TheVariants as report
use Rattle.fabric_terms.specs.declared.report.Reason.TheVariants as reason
use Rattle.fabric_terms.specs.declared.report.Verb.TheVariants as verb
use Rattle.ring_points.specs.declared.unit.Epoch.{Epoch}
use Rattle.ring_points.specs.declared.who.Who.{Who}
use Rattle.ring_rules.specs.declared.input.Input.{Input}
use Rattle.ring_rules.specs.declared.input.Input.TheVariants as input
use Rattle.ring_rules.specs.Owns.{holds_point}
use Rattle.ring_rules.specs.Rings.{Ring}
use Rattle.unit_rules.specs.declared.reconfig.Kind.{Kind}
use Rattle.unit_rules.specs.declared.reconfig.Kind.TheVariants.{Create, Swap, Heal, Lose}
use Rattle.unit_rules.specs.Answers.{OnlyAnswers, is_answer, names_commanded, resolve_commanded}
use Rattle.unit_rules.specs.Copies.{fetch_received, piece_received}
use Rattle.unit_rules.specs.Deeds.{Deed, Keep, Send, Tell, Acted, acted, still, refuse, reports_of}
use Rattle.unit_rules.specs.Loads.{Site, loads}
use Rattle.unit_rules.specs.Questions.{reconfig_fired}
use Rattle.unit_rules.specs.Reconfigs.{Reconfig}
use Rattle.unit_rules.specs.ReplicaStates.{ReplicaState, first_state}
use Rattle.unit_rules.specs.Steps.{Failover, answer, at_found, at_standing, by_state, command_row, failover_step, fired, frame_row, manage}
use Rattle.unit_rules.specs.Writes.{appended_received, state_fired, write_commanded}
use Rattle.world_rules.specs.Above.{is_ring_report}
use Rattle.replica_records.specs.ReplicaStates.{state_at}
use Rattle.unit_rules.proofs.Answered.{names_only_answer, resolve_only_answers}
use Rattle.run_promises.specs.Questions.{asks_names}
use Rattle.epoch_safety.proofs.Committing.{LeadsAt, CommitsOf, IsCommitOf, ArePlain, IsPlain, plain_join, promise_plain, sync_plain, fetch_plain, piece_plain, activate_plain, append_plain, fired_plain, appended_commits, write_commits}
use Rattle.epoch_safety.proofs.Managing.{answered_plain, commanded_plain, fires_plain}

-- each replica is of the partition under which it stands
abbrev pub AreOwn : Failover → Type 0
AreOwn s = (p : ℕ) → (state_at p s).replica.partition ≡ p

-- what a step may report, by what stood before it and what stands now: a commit by its partition's primary at this node, and
-- names only where it is asked about them
abbrev pub IsTold : Bool → (old new : Failover) → Report → Type 0
IsTold asked old new (report.Committed p e last) = AreOwn old → LeadsAt (state_at p new) e last
IsTold asked old new (report.Resolved p name value) = asked ≡ true
IsTold asked old new (report.Unresolved p name) = asked ≡ true
IsTold asked old new (report.NameList p names) = asked ≡ true
IsTold asked old new _ = Unit {0}

abbrev pub AreTold : Bool → (old new : Failover) → List Deed → Type 0
AreTold asked old new [] = Unit {0}
AreTold asked old new (Keep r ∷ ds) = AreTold asked old new ds
AreTold asked old new (Send to b ∷ ds) = AreTold asked old new ds
AreTold asked old new (Tell r ∷ ds) = IsTold asked old new r × AreTold asked old new ds

-- the input asks about names
abbrev pub asks_in : Input → Bool
asks_in (input.Do d) = asks_names d
asks_in _ = false

module _ (asked : Bool) (s : Failover) where
  plain_told : (new : Failover) (ds : List Deed) → ArePlain ds → AreTold asked s new ds
  plain_told new [] h = tt
  plain_told new (Keep r ∷ ds) h = plain_told new ds h
  plain_told new (Send to b ∷ ds) h = plain_told new ds h
  plain_told new (Tell r ∷ ds) h = (one r h.0, plain_told new ds h.1)
    where
      one : (r : Report) → IsPlain r → IsTold asked s new r
      one (report.Committed p e last) n = absurd n
      one (report.Resolved p name value) n = absurd n
      one (report.Unresolved p name) n = absurd n
      one (report.NameList p names) n = absurd n
      one r n = tt

  state_told : (p q : ℕ) (a : ReplicaState) (new : Failover) → (AreOwn s → p ≡ q) → state_at q new ≡ a → (ds : List Deed) → CommitsOf p a ds → AreTold asked s new ds
  state_told p q a new own is [] h = tt
  state_told p q a new own is (Keep r ∷ ds) h = state_told p q a new own is ds h
  state_told p q a new own is (Send to b ∷ ds) h = state_told p q a new own is ds h
  state_told p q a new own is (Tell r ∷ ds) h = (one r h.0, state_told p q a new own is ds h.1)
    where
      one : (r : Report) → IsCommitOf p a r → IsTold asked s new r
      one (report.Committed of e last) n =
          λ are. subst (λ z. LeadsAt (state_at z new) e last) (sym (n.0 ∙ own are)) (subst (λ (z : ReplicaState). LeadsAt z e last) (sym is) n.1)
      one (report.Resolved of name value) n = absurd n
      one (report.Unresolved of name) n = absurd n
      one (report.NameList of names) n = absurd n
      one r n = tt

  answer_told : asked ≡ true → (new : Failover) (z : ReplicaState) (a : Acted ReplicaState) → OnlyAnswers z a → AreTold asked s new a.deeds
  answer_told is_asked new z a h = subst (λ (b : Acted ReplicaState). AreTold asked s new b.deeds) (sym h.is) (one h.told h.answers, tt)
    where
      one : (r : Report) → is_answer r ≡ true → IsTold asked s new r
      one (report.Resolved p name value) h = is_asked
      one (report.Unresolved p name) h = is_asked
      one (report.NameList p names) h = is_asked
      one (report.Committed p e last) h = absurd (cc (h))
      one r h = tt

  abbrev Fine : Acted Failover → Type 0
  Fine a = AreTold asked s a.state a.deeds

  silently : (a : Acted Failover) → ArePlain a.deeds → Fine a
  silently a h = plain_told a.state a.deeds h

  -- Rows of a replica that stands.

  standing : (q : ℕ) (row : ReplicaState → Acted ReplicaState) (none : Acted Failover) → ArePlain none.deeds →
      ((z : ReplicaState) → CommitsOf z.replica.partition (row z).state (row z).deeds) → Fine (at_standing q row none s)
  standing q row none otherwise h = go (at q s.states) refl
    where
      is : (a : ReplicaState) → state_at q (record s { states = put q a s.states }) ≡ a
      is a = ap (λ o. unwrap_or o (first_state q)) (at-put q a s.states q ∙ ap (λ b. cond b (Some a) (at q s.states)) (eq-eqb q q refl))

      go : (o : Option ReplicaState) → at q s.states ≡ o → Fine (at_found q row none s o)
      go None i = silently none otherwise
      go (Some z) i =
          state_told z.replica.partition q (row z).state (by_state q s (row z)).state
          (λ are. sym (ap (λ (o : Option ReplicaState). (unwrap_or o (first_state q)).replica.partition) i) ∙ are q) (is (row z).state) (row z).deeds (h z)

  standing_plain : (q : ℕ) (row : ReplicaState → Acted ReplicaState) (none : Acted Failover) → ArePlain none.deeds → ((z : ReplicaState) → ArePlain (row z).deeds) →
      Fine (at_standing q row none s)
  standing_plain q row none otherwise h = go (at q s.states)
    where
      go : (o : Option ReplicaState) → Fine (at_found q row none s o)
      go None = silently none otherwise
      go (Some z) = silently (by_state q s (row z)) (h z)

  standing_answers : asked ≡ true → (q : ℕ) (row : ReplicaState → Acted ReplicaState) (none : Acted Failover) → ArePlain none.deeds → ((z : ReplicaState) → OnlyAnswers z (row z)) →
      Fine (at_standing q row none s)
  standing_answers is_asked q row none otherwise h = go (at q s.states)
    where
      go : (o : Option ReplicaState) → Fine (at_found q row none s o)
      go None = silently none otherwise
      go (Some z) = answer_told is_asked (by_state q s (row z)).state z (row z) (h z)

  module _ (c : Site) (now : ℕ) (r : Ring) where
    answered : (from : Who) (q : ℕ) (e : Epoch) (b : Body) → Fine (answer c now r from.actor q e b s)
    answered from q e b =
        silently (answer c now r from.actor q e b s) (answered_plain (loads c now r s.managed.units) from.actor q e b s.managed)

    commanded : (q : ℕ) (kind : Kind) → Fine (manage c now r q kind s)
    commanded q kind =
        silently (manage c now r q kind s) (commanded_plain (holds_point c.ring now 0 r) c.ring.arbitrators q kind s.managed)

    frame_told : (from : Who) (b : Body) → Fine (frame_row c now r from b s)
    frame_told from (body.Prepared q e done) = answered from q e (body.Prepared q e done)
    frame_told from (body.NoPrepare q e higher) = answered from q e (body.NoPrepare q e higher)
    frame_told from (body.Voted q e first) = answered from q e (body.Voted q e first)
    frame_told from (body.NoVote q e higher) = answered from q e (body.NoVote q e higher)
    frame_told from (body.DoneKept q e) = answered from q e (body.DoneKept q e)
    frame_told from (body.NoDone q e higher) = answered from q e (body.NoDone q e higher)
    frame_told from (body.Promised q e at last) = answered from q e (body.Promised q e at last)
    frame_told from (body.Adopted q e last) = answered from q e (body.Adopted q e last)
    frame_told from (body.Activated q e) = answered from q e (body.Activated q e)
    frame_told from (body.Older q e higher) = answered from q e (body.Older q e higher)
    frame_told from (body.Promise q e) = silently (frame_row c now r from (body.Promise q e) s) (promise_plain from e (state_at q s))
    frame_told from (body.Sync q e origin last) =
        silently (frame_row c now r from (body.Sync q e origin last) s)
        (sync_plain r.me.actor (record { epoch = e; origin = origin; last = last; asker = from }) (state_at q s))
    frame_told from (body.Fetch q e lsn) = standing_plain q (fetch_received from e lsn) (still s) tt (fetch_plain from e lsn)
    frame_told from (body.Piece q e lsn entry_epoch text) =
        standing_plain q (piece_received e (record { epoch = entry_epoch; lsn = lsn; bytes = text })) (still s) tt
        (piece_plain e (record { epoch = entry_epoch; lsn = lsn; bytes = text }))
    frame_told from (body.Activate config) =
        silently (frame_row c now r from (body.Activate config) s) (activate_plain r.me.actor from config (state_at config.partition s))
    frame_told from (body.Append q e lsn text) =
        silently (frame_row c now r from (body.Append q e lsn text) s) (append_plain from e lsn text (state_at q s))
    frame_told from (body.Appended q e last) =
        standing q (appended_received from.actor e last) (still s) tt (λ z. appended_commits z.replica.partition from.actor e last z refl)
    frame_told from b = tt

    command_told : (d : Command) → asks_names d ≡ asked → Fine (command_row c now r d s)
    command_told (command.Create q count) h = commanded q (Create count)
    command_told (command.Swap q node) h = commanded q (Swap node)
    command_told (command.Heal q count) h = commanded q (Heal count)
    command_told (command.Lose q node) h = commanded q (Lose node)
    command_told (command.Write q text) h =
        standing q (write_commanded text) (refuse verb.Write reason.NotPrimary s) (tt, tt) (λ z. write_commits z.replica.partition text z refl)
    command_told (command.Units range) h = (tt, tt)
    command_told (command.Resolve q name) h =
        standing_answers (sym h) q (resolve_commanded name) (refuse verb.Resolve reason.NotPrimary s) (tt, tt) (resolve_only_answers name)
    command_told (command.Names q range) h =
        standing_answers (sym h) q (names_commanded range) (refuse verb.Names reason.NotPrimary s) (tt, tt) (names_only_answer range)
    command_told d h = tt

  fire_told : Fine (acted s (fired s))
  fire_told = silently (acted s (fired s)) (plain_join (flat_map (λ e. reconfig_fired e.1) s.managed.reconfigs) _ (again s.managed.reconfigs) (sent s.states))
    where
      again : (es : List (ℕ × Reconfig)) → ArePlain (flat_map (λ e. reconfig_fired e.1) es)
      again [] = tt
      again (e ∷ es) = plain_join (reconfig_fired e.1) _ (fires_plain e.1) (again es)

      sent : (es : List (ℕ × ReplicaState)) → ArePlain (flat_map (λ e. state_fired e.1) es)
      sent [] = tt
      sent (e ∷ es) = plain_join (state_fired e.1) _ (fired_plain e.1) (sent es)

  pub step_told : (c : Site) (now : ℕ) (r : Ring) (i : Input) → asks_in i ≡ asked → Fine (failover_step c now r s i)
  unfolding failover_step
  step_told c now r input.Fire h = fire_told
  step_told c now r (input.Frame f) h = frame_told c now r f.from f.body
  step_told c now r (input.Do d) h = command_told c now r d h

  -- so of each report
  pub reports_told : (new : Failover) (ds : List Deed) (r : Report) → AreTold asked s new ds → IsMember r (reports_of ds) → IsTold asked s new r
  reports_told new [] r h m = absurd m
  reports_told new (Keep z ∷ ds) r h m = reports_told new ds r h m
  reports_told new (Send to b ∷ ds) r h m = reports_told new ds r h m
  reports_told new (Tell z ∷ ds) r h m = go (is_ring_report z) m (λ n. reports_told new ds r h.1 n)
    where
      go : (b : Bool) → IsMember r (cond b (reports_of ds) (z ∷ reports_of ds)) → (IsMember r (reports_of ds) → IsTold asked s new r) → IsTold asked s new r
      go true n again = again n
      go false (inl e) again = subst (IsTold asked s new) (sym e) h.0
      go false (inr n) again = again n
