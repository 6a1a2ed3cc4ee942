-- What one actor does leaves what all others show.
use Rattle.std.proofs.Common.{◌≡◌, ℕ, Option, Some, sym, ap, ◌∙◌, subst, ⊎_elim}
use Rattle.fabric_lemmas.specs.Members.{IsMember}
use Rattle.ring_points.specs.declared.unit.Config.{Config}
use Rattle.ring_points.specs.declared.unit.Epoch.{Epoch}
use Rattle.ring_points.specs.declared.who.Who.{Who}
use Rattle.failover_units.specs.Units.{unit_of}
use Rattle.epoch_machine.specs.Plans.{Plan, Attempt}
use Rattle.epoch_machine.specs.World.{World}
use Rattle.unit_rules.specs.Manager.{Managed}
use Rattle.unit_rules.specs.Reconfigs.{Reconfig, Prepare, Phase0, Phase1, Decide, Phase2, Phase3, Phase4}
use Rattle.unit_rules.specs.Registers.{Register}
use Rattle.unit_rules.specs.ReplicaStates.{ReplicaState}
use Rattle.epoch_refinement.specs.Epochs.{IsEpoch}
use Rattle.epoch_refinement.specs.Facts.{Actor, of_arbiter, of_node, of_manager, is_attempt, is_plan, is_synced, is_asked, is_adopted, is_kept, is_active, is_answer, is_promise, Later}
use Rattle.epoch_refinement.specs.Reconfigs.{HasLeft, ShowsPhase, ShowsReconfig, ShowsManager, Went}
use Rattle.epoch_refinement.specs.Registers.{ShowsRegister}
use Rattle.epoch_refinement.specs.ReplicaStates.{ShowsReplicaState}
use Rattle.epoch_refinement.specs.Shown.{IsDone, ShownPrepared, ShownPromised}
use Rattle.epoch_refinement.proofs.Lasting.{voted_later}
use Rattle.epoch_refinement.proofs.Promising.{shows_later}

module _ {x : Actor} {w v : World} (later : Later x w v) where
  pub state_elsewhere : (p m : ℕ) (s : ReplicaState) → (x ≡ of_node m → ⊥) → ShowsReplicaState w p m s → ShowsReplicaState v p m s
  state_elsewhere p m s d shows =
      let same = later.beside.states m d in shows_later later same.promised same.joined same.log same.collected same.role shows

  pub register_elsewhere : (p a : ℕ) (r : Register) → (x ≡ of_arbiter a → ⊥) → ShowsRegister w p a r → ShowsRegister v p a r
  register_elsewhere p a r d shows =
      let same = later.beside.registers a d in record {
        nothing = λ h. same.prepared ∙ shows.nothing h;
        prepared = λ k h. let q = shows.prepared k h in (subst (λ n. IsEpoch n k.epoch) (sym same.prepared) q.0, same.preparer ∙ q.1);
        votes = λ u m. voted_later later (shows.votes u m);
        done = subst (λ o. IsDone p o r.done) (sym same.done) shows.done;
      }

  prepared_later : {p a : ℕ} {to : Who} {e : Epoch} {o : Option Config} → ShownPrepared w p a to e o → ShownPrepared v p a to e o
  prepared_later s =
      record { epoch = s.epoch; plan = s.plan; epoch_is = s.epoch_is; answered = later.keeps (is_answer _) s.answered; is = s.is; asker = s.asker }

  promised_later : {m : ℕ} {e at : Epoch} {last : ℕ} → ShownPromised w m e at last → ShownPromised v m e at last
  promised_later s = record {
    epoch = s.epoch;
    joined = s.joined;
    log = s.log;
    promised = later.keeps (is_promise _) s.promised;
    epoch_is = s.epoch_is;
    joined_is = s.joined_is;
    last_is = s.last_is;
    room = s.room;
  }

  -- a phase still shows, as long as nobody left Prepare of its epoch for its Who, and nobody proposed for it
  phase_later : (k p : ℕ) (y : Who) (n : ℕ) (r : Reconfig) → ((t : Attempt) → IsMember t v.attempts → t.who ≡ y → IsMember t w.attempts) →
      ((plan : Plan) → HasLeft w y n plan → (q : Plan) → IsMember q v.plans → q.epoch ≡ n → ⊥) → ShowsPhase w k p y n r → ShowsPhase v k p y n r
  phase_later k p y n (Prepare q) old none s = (λ t m h. s.0 t (old t m h) h, s.1, λ a d m. prepared_later (s.2 a d m))
  phase_later k p y n (Phase0 q) old none s =
      ((s.0.0, s.0.1, record { entered = later.keeps (is_attempt _) s.0.2.entered; none = none s.0.0 s.0.2 }), s.1)
  phase_later k p y n (Phase1 q) old none s = (
    (s.0.0, record { entered = later.keeps (is_attempt _) s.0.1.entered; none = none s.0.0 s.0.1 }, s.0.2),
    s.1,
    λ m z i. promised_later (s.2 m z i),
  )
  phase_later k p y n (Decide q) old none s =
      ((s.0.0, later.keeps (is_plan _) s.0.1, s.0.2), s.1, s.2, λ a u m. let h = s.3 a u m in (voted_later later h.0, h.1))
  phase_later k p y n (Phase2 q) old none s = ((s.0.0, later.keeps (is_synced _) s.0.1, s.0.2), s.1, λ m i. later.keeps (is_adopted _) (s.2 m i))
  phase_later k p y n (Phase3 q) old none s =
      (record { plan = s.0.plan; asked = later.keeps (is_asked _) s.0.asked; is = s.0.is }, s.1, s.2, λ a m. later.keeps (is_kept _) (s.3 a m))
  phase_later k p y n (Phase4 q) old none s = (record { plan = s.0.plan; activated = later.keeps (is_active _) s.0.activated; is = s.0.is }, s.1)

  -- a manager still shows, where what is new of attempts and plans is not its own
  manager_later : (k p : ℕ) (y : Who) (s : Managed) → ((t : Attempt) → IsMember t v.attempts → t.who ≡ y → IsMember t w.attempts) →
      ((n : ℕ) (plan : Plan) → HasLeft w y n plan → (q : Plan) → IsMember q v.plans → q.epoch ≡ n → ⊥) → ShowsManager w k p y s → ShowsManager v k p y s
  manager_later k p y s old none shows = record {
    small = shows.small;
    idle = λ h t m same. shows.idle h t (old t m same) same;
    busy = λ r h. let q = shows.busy r h in (still r q.0, q.1);
  }
    where
      still : (r : Reconfig) → ShowsReconfig w k p y (unit_of p s.units).highest r → ShowsReconfig v k p y (unit_of p s.units).highest r
      still r q = record {
        partition = q.partition;
        arbitrators = q.arbitrators;
        number = q.number;
        is = q.is;
        some = q.some;
        opens = q.opens;
        phase = phase_later k p y q.number r old (none q.number) q.phase;
        below = λ t m same. q.below t (old t m same) same;
        before = λ b t m same. q.before b t (old t m same) same;
      }

  -- what arbitrators and replicas do leaves each manager
  pub manager_elsewhere : (k p : ℕ) (y : Who) (s : Managed) → (x ≡ of_manager → ⊥) → ShowsManager w k p y s → ShowsManager v k p y s
  manager_elsewhere k p y s d shows =
      manager_later k p y s (λ t m h. subst (λ ts. IsMember t ts) (later.beside.attempts d) m)
      (λ n plan left q m same. left.none q (subst (λ qs. IsMember q qs) (later.beside.plans d) m) same) shows

-- and so does what another manager does
pub manager_beside : {k : ℕ} {w : World} {z : Who} {e : ℕ} {Holds : World → Type 0} (g : Went k w z e Holds) (p : ℕ) (y : Who) (s : Managed) → (z ≡ y → ⊥) →
    ShowsManager w k p y s → ShowsManager g.after k p y s
manager_beside {k = k} {w = w} {z = z} {e = e} g p y s d shows =
    manager_later g.later k p y s
    (λ t m h. ⊎_elim (λ i. i) (λ i. absurd (d (sym i.0 ∙ h))) (g.attempts t m))
    (λ n plan left q m same. ⊎_elim (λ i. left.none q i same)
    (λ i.
    let mine = g.later.keeps (is_attempt (record { who = y; epoch = n; prev = Some plan })) left.entered in
    let o = i.1 in
    let one =
    g.inv.attempts.once (record { who = z; epoch = e; prev = o.prev }) (record { who = y; epoch = n; prev = Some plan }) o.entered mine
    (sym i.0 ∙ same) in
    d (ap (λ (t : Attempt). t.who) one))
    (g.plans q m)) shows
