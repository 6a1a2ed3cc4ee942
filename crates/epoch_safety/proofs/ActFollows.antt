-- The machines follow a step of a node.
use Rattle.std.proofs.Common.{◌≡◌, ℕ, ◌<◌, ◌≤◌, Bool, true, false, not, ◌&&◌, ◌||◌, ◌==◌, List, [], ◌++◌, Some, refl, sym, ap, ◌∙◌, subst, ◌⊎◌, inl, inr, ⊎_elim, arith}
use Rattle.std.specs.Prelude.{Contains, length}
use Rattle.std.specs.List.{list_any}
use Rattle.std.proofs.lemmas.Bool.{and_parts, eqb-true, or_cases}
use Rattle.std.proofs.lemmas.List.{append-nil}
use Rattle.fabric_lemmas.specs.Maps.{at}
use Rattle.fabric_lemmas.specs.Members.{IsMember}
use Rattle.fabric_terms.specs.declared.config.FabricConfig.{FabricConfig}
use Rattle.fabric_terms.specs.declared.message.Body.{Body}
use Rattle.fabric_terms.specs.declared.message.Message.{Message}
use Rattle.fabric_terms.specs.declared.record.Record.{Record}
use Rattle.fabric_terms.specs.declared.report.Report.{Report}
use Rattle.fabric_terms.specs.declared.report.Report.TheVariants as report
use Rattle.fabric_terms.specs.Places.{tells_leave}
use Rattle.join_phases.specs.Phases.{is_left}
use Rattle.ring_points.specs.declared.unit.Epoch.{Epoch}
use Rattle.ring_points.specs.declared.who.Who.{Who}
use Rattle.ring_points.specs.Whos.{node_instance}
use Rattle.ring_rules.specs.declared.input.Input.{Input}
use Rattle.ring_rules.specs.declared.input.Input.TheVariants as input
use Rattle.ring_rules.specs.Frames.{is_for, may_send, is_between_nodes, is_arbiters_answer}
use Rattle.ring_rules.specs.Owns.{own_after, own_unless, is_same_own}
use Rattle.ring_rules.specs.Rings.{Ring, Settings, Work, settings_of}
use Rattle.ring_rules.specs.Steps.{ring_step}
use Rattle.replica_core.specs.Replicas.{Replica}
use Rattle.epoch_machine.specs.Logs.{Entry}
use Rattle.epoch_machine.specs.World as machine
use Rattle.unit_rules.specs.Deeds.{Acted, did, records_of, frames_of, reports_of}
use Rattle.unit_rules.specs.Loads.{site_of}
use Rattle.unit_rules.specs.Starts.{replica_of, replicas_after_all}
use Rattle.unit_rules.specs.Steps.{Failover, failover_begun, failover_step}
use Rattle.unit_rules.specs.Units.{units}
use Rattle.world_rules.specs.Nodes.{NodeState, boots_of, both_did, comes_above}
use Rattle.world_rules.specs.Uppers.{Did, idle}
use Rattle.world_rules.specs.Worlds.{World, Running, kept_of}
use Rattle.run_facts.proofs.Happens.{CameTo}
use Rattle.run_facts.proofs.Kept.{boots_append}
use Rattle.run_facts.proofs.Steps.{Stepped, ring_stepped}
use Rattle.replica_records.specs.ReplicaStates.{state_at, begun_again}
use Rattle.epoch_refinement.specs.Epochs.{settings_to}
use Rattle.epoch_refinement.specs.Nodes.{Machines, ShowsNode, NodeRefined, Comes}
use Rattle.epoch_refinement.specs.Reconfigs.{ShowsManager}
use Rattle.epoch_refinement.specs.ReplicaStates.{ShowsReplicaState}
use Rattle.epoch_refinement.specs.Shown.{partition_of, Shown}
use Rattle.epoch_refinement.proofs.Stepping as deeds
use Rattle.replica_records.specs.Kept.{AreKept}
use Rattle.epoch_refinement.proofs.Kept.{fit_lem}
use Rattle.replica_records.proofs.Starting.{go_on_lem}
use Rattle.replica_records.proofs.Stepping as records
use Rattle.run_facts.specs.RingApart.{is_unit_frame, is_unit_report}
use Rattle.run_facts.proofs.ApartSteps.{steps_apart_lem}
use Rattle.epoch_safety.proofs.Entries.{AreReal, no_commit, real_join, real_apart}
use Rattle.epoch_safety.proofs.Follows.{Acting, Follows}
use Rattle.epoch_safety.proofs.NodeFollows.{Follow}
use Rattle.epoch_safety.proofs.Sending.{append_cases, none_passes, shown_apart, frames_shown}
use Rattle.epoch_safety.proofs.Telling.{Tellings, tells_on, tells_join, tells_none, tells_reports}
use Rattle.epoch_safety.proofs.Members.{contained}

-- the names of running instances
pub record Numbered (w : World units) : Type 0 where
  pub name : (node : ℕ) (s : Running units) → at node w.nodes ≡ Some s → s.node.ring.me ≡ node_instance node (boots_of (kept_of w node))
  pub counted : (node : ℕ) (s : Running units) → at node w.nodes ≡ Some s → 0 < boots_of (kept_of w node)

-- what is owned is no affair of a partition
pub own_apart : (set : Settings) (old new : Ring) → list_any is_unit_report (own_after set old new) ≡ false
own_apart set old new = go (is_same_own set old new)
  where
    go : (b : Bool) → list_any is_unit_report (own_unless set new b) ≡ false
    go true = refl
    go false = refl

-- with what the ring tells before and after
between_reports : (p node : ℕ) (log : List Entry) (first middle last : List Report) (before : List machine.Report) →
    list_any is_unit_report first ≡ false → list_any is_unit_report last ≡ false →
    tells_on p node log (first ++ middle ++ last) before ≡ tells_on p node log middle before
between_reports p node log first middle last before h k =
    tells_join p node log (first ++ middle) last before
    ∙ (tells_none p node log last _ k
    ∙ (tells_join p node log first middle before ∙ ap (tells_on p node log middle) (tells_none p node log first before h)))

module _ (c : FabricConfig) (w : World units) (t : Tellings) (m : Machines) (n : Numbered w) (f : Follows (length c.arbiters) w t m) (node : ℕ)
    (i : Input) (s : Running units) (there : at node w.nodes ≡ Some s) where
  abbrev k : ℕ
  k = length c.arbiters

  abbrev set : Settings
  set = settings_of c s.node.ring.me.actor

  abbrev new : Work
  new = ring_step set s.reading i s.node.ring

  abbrev kept : List Record
  kept = kept_of w node

  stepped : Stepped s.node.ring new
  stepped = ring_stepped set s.reading i s.node.ring

  abbrev x : Who
  x = new.ring.me

  is_me : x ≡ node_instance node (boots_of kept)
  is_me = stepped.name ∙ n.name node s there

  pub actor : x.actor ≡ node
  actor = ap (λ (z : Who). z.actor) is_me

  counted : (more : List Record) → x.instance ≤ boots_of (kept ++ more)
  counted more = let sum = boots_append kept more in let e : x.instance ≡ boots_of kept = ap (λ (z : Who). z.instance) is_me in omega arith

  -- who has not left now had not left before
  stayed : is_left new.ring.phase ≡ false → is_left s.node.ring.phase ≡ false
  stayed stay = go (list_any tells_leave new.told) (is_left s.node.ring.phase) (stepped.leaves ∙ stay)
    where
      go : (a b : Bool) → (a || b) ≡ false → b ≡ false
      go true b h = absurd (cc (h))
      go false b h = h

  rings : (v : Machines) (z : Who × Body) → IsMember z new.sent → Shown (v (partition_of z.1)) (partition_of z.1) x z.0 z.1
  rings v z h =
      shown_apart (v (partition_of z.1)) (partition_of z.1) x z.0 z.1
      (none_passes (λ (q : Who × Body). is_unit_frame q.1) new.sent z (steps_apart_lem set s.reading i s.node.ring).sends h)

  abbrev own : List Report
  own = own_after set s.node.ring new.ring

  quiet_reports : (p : ℕ) (log : List Entry) (middle : List Report) (before : List machine.Report) →
      tells_on p node log (new.told ++ middle ++ own) before ≡ tells_on p node log middle before
  quiet_reports p log middle before =
      between_reports p node log new.told middle own before (steps_apart_lem set s.reading i s.node.ring).tells (own_apart set s.node.ring new.ring)

  pub real_reports : (middle : List Report) → AreReal middle → AreReal (new.told ++ middle ++ own)
  real_reports middle h =
      real_join (new.told ++ middle) own (real_join new.told middle (real_apart new.told (steps_apart_lem set s.reading i s.node.ring).tells) h)
      (real_apart own (own_apart set s.node.ring new.ring))

  -- what is told of a commit is told above
  pub commit_above : (middle : List Report) (p : ℕ) (e : Epoch) (last : ℕ) → Contains (new.told ++ middle ++ own) (report.Committed p e last) →
      IsMember (report.Committed p e last) middle
  commit_above middle p e last h = ⊎_elim
      (λ a. ⊎_elim (λ b. absurd (no_commit new.told p e last (steps_apart_lem set s.reading i s.node.ring).tells b)) (λ b. b) (append_cases _ new.told middle a))
      (λ a. absurd (no_commit own p e last (own_apart set s.node.ring new.ring) a))
      (append_cases _ (new.told ++ middle) own (contained (report.Committed p e last) (new.told ++ middle ++ own) h))

  -- nothing comes to what runs above
  abbrev silent : Did (NodeState units)
  silent = both_did units c s.node.ring new (idle s.node.above)

  pub silent_follows : Follow k w m m x node (f.last node) silent
  silent_follows = record {
    name = refl;
    actor = actor;
    low = f.low node s there;
    counted = counted [];
    inv = f.inv;
    keeps = λ p g h. h;
    others = λ p q d. record { promised = refl; joined = refl; log = refl; collected = refl; role = refl };
    registers = λ p a. record { prepared = refl; preparer = refl; done = refl };
    managers = λ p y u d shows. shows;
    states = λ p. f.states node p;
    begins = λ p.
        subst (λ (r : List Record). state_at p (failover_begun r) ≡ begun_again (state_at p (f.last node))) (sym (append-nil kept))
        (f.begins node p (f.low node s there));
    here = λ stay. f.here node s there (stayed stay);
    acts = λ stay.
        subst (λ (z : Who × List Record). Acting k m z.1 z.0 s.node.above) (λ j. (sym stepped.name j, sym (append-nil kept) j))
        (f.acts node s there (stayed stay));
    sent = λ z h. ⊎_elim (λ a. rings m z a) (λ a. absurd a) (append_cases z new.sent [] h);
    told = λ p. sym (quiet_reports p _ [] (m p).told);
  }

  -- a frame that comes is for this instance
  comes : comes_above set s.node.ring i ≡ true → CameTo w node i → Comes m x i
  comes h came = go i h came
    where
      here : (g : Message) → is_for s.node.ring.me g.to ≡ true → (g.to.actor ≡ x.actor) × ((g.to.instance ≡ 0) ⊎ (g.to ≡ x))
      here g h =
          let both = and_parts (g.to.actor == s.node.ring.me.actor) (g.to.instance == 0 || g.to.instance == s.node.ring.me.instance) h in
          let same : g.to.actor ≡ s.node.ring.me.actor = eqb-true g.to.actor s.node.ring.me.actor both.0 in (
            same ∙ ap (λ (z : Who). z.actor) (sym stepped.name),
            ⊎_elim (λ a. inl (eqb-true g.to.instance 0 a))
                (λ a.
                let one : g.to.instance ≡ s.node.ring.me.instance = eqb-true g.to.instance s.node.ring.me.instance a in
                inr ((λ j. record { actor = same j; instance = one j }) ∙ sym stepped.name))
                (or_cases (g.to.instance == 0) (g.to.instance == s.node.ring.me.instance) both.1),
          )

      go : (i : Input) → comes_above set s.node.ring i ≡ true → CameTo w node i → Comes m x i
      go input.Fire h came = tt
      go (input.Do command) h came = tt
      go (input.Frame g) h came =
          let first = and_parts (is_for s.node.ring.me g.to && not _) (may_send set s.node.ring g.from.actor (is_between_nodes g.body) (is_arbiters_answer g.body)) h in
          let second = and_parts (is_for s.node.ring.me g.to) (not _) first.0 in
          let to = here g second.0 in
          record { here = to.0; to = to.1; shown = f.frames g came.0 }

  -- what comes to what runs above is done there
  module _ (stay : is_left new.ring.phase ≡ false) (passed : comes_above set s.node.ring i ≡ true) (came : CameTo w node i) where
    abbrev old : Failover
    old = s.node.above

    abbrev a : Acted Failover
    a = failover_step (site_of c x.actor) s.reading new.ring old i

    abbrev busy : Did (NodeState units)
    busy = both_did units c s.node.ring new (did a)

    acting : Acting k m kept s.node.ring.me old
    acting = f.acts node s there (stayed stay)

    pub shows : ShowsNode k m x old
    shows = record {
      states = λ p.
          subst (λ (z : ℕ × Failover). ShowsReplicaState (m p) p z.0 (state_at p z.1)) (λ j. (sym actor j, f.here node s there (stayed stay) j)) (f.states node p);
      managers = λ p. subst (λ (z : Who). ShowsManager (m p) k p z old.managed) (sym stepped.name) (acting.managers p);
      states_rise = acting.states_rise;
      reconfigs_rise = acting.reconfigs_rise;
    }

    pub refined : NodeRefined k m x a
    refined =
        deeds.steps_lem (site_of c x.actor) s.reading new.ring k m old i f.inv refl
        (let e : x.instance ≡ boots_of kept = ap (λ (z : Who). z.instance) is_me in let lt = n.counted node s there in omega arith) shows (comes passed came)

    pub kept_now : AreKept (kept ++ records_of a.deeds) a.state
    kept_now =
        records.steps_lem (site_of c x.actor) s.reading new.ring old i kept
        (λ p. fit_lem (settings_to k) (m p) p x.actor (state_at p old) (f.inv p) (shows.states p)) acting.kept

    pub busy_follows : Follow k w m refined.after x node a.state busy
    busy_follows = record {
      name = refl;
      actor = actor;
      low = f.low node s there;
      counted = counted (records_of a.deeds);
      inv = λ p. (refined.between p).inv;
      keeps = λ p. (refined.between p).keeps;
      others = λ p q d. (refined.between p).states q (λ e. d (sym actor ∙ e));
      registers = λ p b. (refined.between p).registers b;
      managers = λ p y u d. (refined.between p).managers y u d;
      states = λ p. subst (λ z. ShowsReplicaState (refined.after p) p z (state_at p a.state)) actor (refined.shows.states p);
      begins = λ p. go_on_lem (kept ++ records_of a.deeds) a.state kept_now p;
      here = λ stay. refl;
      acts = λ stay. record {
        managers = refined.shows.managers;
        states_rise = refined.shows.states_rise;
        reconfigs_rise = refined.shows.reconfigs_rise;
        kept = kept_now;
      };
      sent = λ z h. ⊎_elim (λ b. rings refined.after z b) (λ b. frames_shown refined.after x a.deeds z refined.sent b)
          (append_cases z new.sent (frames_of a.deeds) h);
      told = λ p.
          refined.told p
          ∙ (sym (tells_reports p x.actor (state_at p a.state).replica.log a.deeds (m p).told)
          ∙ ((λ j. tells_on p (actor j) (sym (ap (λ (r : Replica). r.log) (kept_now p)) j) (reports_of a.deeds) (m p).told)
          ∙ sym (quiet_reports p (replica_of p (replicas_after_all [] (kept ++ records_of a.deeds))).log (reports_of a.deeds) (m p).told)));
    }
