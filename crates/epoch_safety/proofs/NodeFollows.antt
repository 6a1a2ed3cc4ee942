-- The machines follow what one node does, while all other actors stay as they are.
use Rattle.std.proofs.Common.{◌≡◌, ℕ, ◌<◌, ◌≤◌, Bool, true, false, cond, ◌==◌, List, [], ◌++◌, Some, refl, sym, ap, ◌∙◌, subst, ⊎_elim, arith}
use Rattle.std.proofs.lemmas.Bool.{eqb-true, eqb-false, eq-eqb}
use Rattle.drift_clock.specs.Within.{Pair}
use Rattle.fabric_lemmas.specs.Maps.{at}
use Rattle.fabric_lemmas.specs.Members.{IsMember}
use Rattle.fabric_terms.specs.declared.message.Body.{Body}
use Rattle.fabric_terms.specs.declared.message.Message.{Message}
use Rattle.fabric_terms.specs.declared.record.Record.{Record}
use Rattle.join_phases.specs.Phases.{is_left}
use Rattle.ring_points.specs.declared.who.Who.{Who}
use Rattle.ring_points.specs.Whos.{arbiter_actor}
use Rattle.epoch_machine.specs.Invariant.{Invariant}
use Rattle.unit_rules.specs.Manager.{Managed}
use Rattle.unit_rules.specs.Registers.{registers_after, register_of}
use Rattle.unit_rules.specs.Starts.{replica_of, replicas_after_all}
use Rattle.unit_rules.specs.Steps.{Failover, failover_begun}
use Rattle.unit_rules.specs.Units.{units}
use Rattle.world_rules.specs.Nodes.{NodeState, boots_of}
use Rattle.world_rules.specs.Uppers.{Did}
use Rattle.world_rules.specs.Worlds.{World, Running, kept_of, node_acted, posted}
use Rattle.run_facts.proofs.Kept.{put_cases, kept_here, kept_there, boots_append}
use Rattle.replica_records.specs.ReplicaStates.{state_at, begun_again}
use Rattle.epoch_refinement.specs.Epochs.{settings_to}
use Rattle.epoch_refinement.specs.Facts.{Fact, Has, SameReplicaState, SameRegister}
use Rattle.epoch_refinement.specs.Nodes.{Machines}
use Rattle.epoch_refinement.specs.Reconfigs.{ShowsManager}
use Rattle.epoch_refinement.specs.Registers.{ShowsRegister}
use Rattle.epoch_refinement.specs.ReplicaStates.{ShowsReplicaState}
use Rattle.epoch_refinement.specs.Shown.{partition_of, Shown}
use Rattle.replica_records.specs.Kept.{AreKept}
use Rattle.epoch_safety.proofs.Follows.{Acting, Follows, no_units, registers_in, posted_cases}
use Rattle.epoch_safety.proofs.Lasting.{shown_lasts, state_lasts, register_lasts}
use Rattle.epoch_safety.proofs.Telling.{Tellings, tells_on, tells_after}

-- what is under each number
abbrev pub Named : World units → Type 0
Named w = (node : ℕ) (s : Running units) → at node w.nodes ≡ Some s → s.node.ring.me.actor ≡ node

-- what the node of x does, in the machines before and after; `last` is its state above the ring now, or the last one
pub record Follow (k : ℕ) (w : World units) (m v : Machines) (x : Who) (node : ℕ) (last : Failover) (d : Did (NodeState units)) : Type 0 where
  pub name : d.state.ring.me ≡ x
  pub actor : x.actor ≡ node
  pub low : node < 32768
  pub counted : x.instance ≤ boots_of (kept_of w node ++ d.records)
  pub inv : (p : ℕ) → Invariant (settings_to k) (v p)
  pub keeps : (p : ℕ) (f : Fact) → Has (m p) f → Has (v p) f
  pub others : (p q : ℕ) → (node ≡ q → ⊥) → SameReplicaState (m p) (v p) q
  pub registers : (p a : ℕ) → SameRegister (m p) (v p) a
  pub managers : (p : ℕ) (y : Who) (s : Managed) → (x ≡ y → ⊥) → ShowsManager (m p) k p y s → ShowsManager (v p) k p y s
  pub states : (p : ℕ) → ShowsReplicaState (v p) p node (state_at p last)
  pub begins : (p : ℕ) → state_at p (failover_begun (kept_of w node ++ d.records)) ≡ begun_again (state_at p last)
  pub here : is_left d.state.ring.phase ≡ false → last ≡ d.state.above
  pub acts : is_left d.state.ring.phase ≡ false → Acting k v (kept_of w node ++ d.records) x d.state.above
  pub sent : (z : Who × Body) → IsMember z d.sent → Shown (v (partition_of z.1)) (partition_of z.1) x z.0 z.1
  pub told : (p : ℕ) → (v p).told ≡ tells_on p node (replica_of p (replicas_after_all [] (kept_of w node ++ d.records))).log d.told (m p).told

module _ {k : ℕ} {w : World units} {t : Tellings} {m v : Machines} {x : Who} {node : ℕ} {last : Failover} (reading : ℕ) (pairs : List Pair)
    (d : Did (NodeState units)) (named : Named w) (f : Follows k w t m) (e : Follow k w m v x node last d) where
  abbrev new : Running units
  new = record { node = d.state; reading = reading; pairs = pairs }

  abbrev after : World units
  after = (node_acted units w node reading pairs d).world

  abbrev records : List Record
  records = kept_of w node ++ d.records

  abbrev latest : ℕ → Failover
  latest q = cond (node == q) last (f.last q)

  at_node : d.state.ring.me.actor ≡ node
  at_node = ap (λ (z : Who). z.actor) e.name ∙ e.actor

  pub kept_at : (q : ℕ) → node ≡ q → kept_of after q ≡ records
  kept_at q same =
      subst (λ n. kept_of after n ≡ records) (at_node ∙ same)
      (kept_here w d.state.ring.me d.records d.sent ∙ ap (λ n. kept_of w n ++ d.records) at_node)

  kept_apart : (q : ℕ) → (node == q) ≡ false → kept_of after q ≡ kept_of w q
  kept_apart q h = kept_there w d.state.ring.me d.records d.sent q (ap (λ z. z == q) at_node ∙ h)

  -- an arbitrator's actor is none of a node
  apart_from : (arbiter : ℕ) → (node == arbiter_actor arbiter) ≡ false
  apart_from arbiter = go (node == arbiter_actor arbiter) refl
    where
      go : (b : Bool) → (node == arbiter_actor arbiter) ≡ b → b ≡ false
      go true h = absurd (let same = eqb-true node (arbiter_actor arbiter) h in let low = e.low in omega arith)
      go false h = refl

  registers_same : (arbiter : ℕ) → registers_in after arbiter ≡ registers_in w arbiter
  registers_same arbiter = ap (registers_after []) (kept_apart (arbiter_actor arbiter) (apart_from arbiter))

  other_who : (q : ℕ) (s : Running units) → (node == q) ≡ false → at q w.nodes ≡ Some s → x ≡ s.node.ring.me → ⊥
  other_who q s apart there same =
      eqb-false node q apart (sym e.actor ∙ (ap (λ (z : Who). z.actor) same ∙ named q s there))

  states_now : (q p : ℕ) → ShowsReplicaState (v p) p q (state_at p (latest q))
  states_now q p = go (node == q) refl
    where
      go : (b : Bool) → (node == q) ≡ b → ShowsReplicaState (v p) p q (state_at p (cond b last (f.last q)))
      go true h = subst (λ n. ShowsReplicaState (v p) p n (state_at p last)) (eqb-true node q h) (e.states p)
      go false h = state_lasts (m p) (v p) (e.keeps p) (e.others p q (eqb-false node q h)) (f.states q p)

  begins_now : (q p : ℕ) → q < 32768 → state_at p (failover_begun (kept_of after q)) ≡ begun_again (state_at p (latest q))
  begins_now q p low = go (node == q) refl
    where
      go : (b : Bool) → (node == q) ≡ b → state_at p (failover_begun (kept_of after q)) ≡ begun_again (state_at p (cond b last (f.last q)))
      go true h = ap (λ (r : List Record). state_at p (failover_begun r)) (kept_at q (eqb-true node q h)) ∙ e.begins p
      go false h = ap (λ (r : List Record). state_at p (failover_begun r)) (kept_apart q h) ∙ f.begins q p low

  latest_at : (q : ℕ) → node ≡ q → latest q ≡ last
  latest_at q same = ap (λ b. cond b last (f.last q)) (eq-eqb node q same)

  latest_apart : (q : ℕ) → (node == q) ≡ false → latest q ≡ f.last q
  latest_apart q h = ap (λ b. cond b last (f.last q)) h

  -- another node goes on
  other_acts : (q : ℕ) (s : Running units) → (node == q) ≡ false → at q w.nodes ≡ Some s → is_left s.node.ring.phase ≡ false →
      Acting k v (kept_of after q) s.node.ring.me s.node.above
  other_acts q s apart there stay =
      let a = f.acts q s there stay in record {
        managers = λ p. e.managers p s.node.ring.me s.node.above.managed (other_who q s apart there) (a.managers p);
        states_rise = a.states_rise;
        reconfigs_rise = a.reconfigs_rise;
        kept = subst (λ (r : List Record). AreKept r s.node.above) (sym (kept_apart q apart)) a.kept;
      }

  fresh_now : (y : Who) (p : ℕ) → boots_of (kept_of after y.actor) < y.instance → ShowsManager (v p) k p y no_units
  fresh_now y p lt = go (node == y.actor) refl
    where
      here : (h : node ≡ y.actor) → (boots_of (kept_of w y.actor) < y.instance) × (x ≡ y → ⊥)
      here h =
          let now : boots_of (kept_of after y.actor) ≡ boots_of records = ap boots_of (kept_at y.actor h) in
          let sum = boots_append (kept_of w node) d.records in
          let before : boots_of (kept_of w y.actor) ≡ boots_of (kept_of w node) = ap (λ n. boots_of (kept_of w n)) (sym h) in
          (omega arith, λ same. let i : x.instance ≡ y.instance = ap (λ (z : Who). z.instance) same in let c = e.counted in omega arith)

      go : (b : Bool) → (node == y.actor) ≡ b → ShowsManager (v p) k p y no_units
      go true h = let z = here (eqb-true node y.actor h) in e.managers p y _ z.1 (f.fresh y p z.0)
      go false h =
          e.managers p y _ (λ same. eqb-false node y.actor h (sym e.actor ∙ ap (λ (z : Who). z.actor) same))
          (f.fresh y p (let same = ap boots_of (kept_apart y.actor h) in omega arith))

  frames_now : (g : Message) → IsMember g (posted d.state.ring.me d.sent w.frames) → Shown (v (partition_of g.body)) (partition_of g.body) g.from g.to g.body
  frames_now g h =
      ⊎_elim (λ old. shown_lasts (m (partition_of g.body)) (v (partition_of g.body)) (e.keeps (partition_of g.body)) (partition_of g.body) g.from g.to g.body (f.frames g old))
      (λ new.
      subst (λ (g : Message). Shown (v (partition_of g.body)) (partition_of g.body) g.from g.to g.body)
      (sym (new.2 ∙ (λ i. record { from = e.name i; to = new.0.0; body = new.0.1 }))) (e.sent new.0 new.1))
      (posted_cases d.state.ring.me d.sent w.frames g h)

  told_now : (p : ℕ) → (v p).told ≡ tells_after p (node_acted units w node reading pairs d) (t p)
  told_now p =
      e.told p
      ∙ (λ i. tells_on p (sym at_node i) (replica_of p (replicas_after_all [] (sym (kept_at d.state.ring.me.actor (sym at_node)) i))).log d.told (f.told p i))

  pub node_follows : Follows k after (λ p. tells_after p (node_acted units w node reading pairs d) (t p)) v
  node_follows = record {
    inv = e.inv;
    last = latest;
    states = states_now;
    begins = begins_now;
    low = λ q s h. put_cases (λ z. q < 32768) node new w.nodes q s h (λ same. subst (λ n. n < 32768) same e.low) (λ apart there. f.low q s there);
    here = λ q s h.
        put_cases (λ (z : Running units). is_left z.node.ring.phase ≡ false → latest q ≡ z.node.above) node new w.nodes q s h
        (λ same stay. latest_at q same ∙ e.here stay) (λ apart there stay. latest_apart q apart ∙ f.here q s there stay);
    acts = λ q s h.
        put_cases (λ (z : Running units). is_left z.node.ring.phase ≡ false → Acting k v (kept_of after q) z.node.ring.me z.node.above) node new w.nodes q s h
        (λ same stay. subst (λ (z : Who × List Record). Acting k v z.1 z.0 d.state.above) (λ i. (sym e.name i, sym (kept_at q same) i)) (e.acts stay))
        (λ apart there stay. other_acts q s apart there stay);
    fresh = fresh_now;
    registers = λ arbiter p.
        subst (λ rs. ShowsRegister (v p) p (arbiter_actor arbiter) (register_of p rs)) (sym (registers_same arbiter))
        (register_lasts (m p) (v p) (e.keeps p) (e.registers p (arbiter_actor arbiter)) (f.registers arbiter p));
    beside = λ arbiter s there. f.beside arbiter s there ∙ sym (registers_same arbiter);
    frames = frames_now;
    told = told_now;
  }
