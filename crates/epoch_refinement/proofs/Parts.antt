-- What is done in one partition, seen in all partitions.
use Rattle.std.proofs.Common.{◌≡◌, ℕ, ◌<◌, Bool, true, false, cond, ◌==◌, List, [], ◌∷◌, Some, None, refl, sym, ap, ◌∙◌, subst}
use Rattle.std.proofs.lemmas.Bool.{eqb-true, eq-eqb}
use Rattle.std.specs.Prelude.{is_some, unwrap_or}
use Rattle.fabric_lemmas.specs.Maps.{at, put, rises}
use Rattle.fabric_lemmas.proofs.Maps.{at-put, rises-put}
use Rattle.ring_points.specs.declared.who.Who.{Who}
use Rattle.fabric_terms.specs.declared.report.Report.{Report}
use Rattle.fabric_terms.specs.declared.report.Report.TheVariants as report
use Rattle.failover_units.specs.Units.{unit_of}
use Rattle.failover_units.specs.declared.unit.KnownUnit.{KnownUnit}
use Rattle.epoch_machine.specs.Epochs.{number_of}
use Rattle.epoch_machine.specs.Logs.{Entry}
use Rattle.epoch_machine.specs.World.{World, replaced}
use Rattle.epoch_machine.specs.World as machine
use Rattle.epoch_machine.specs.Invariant.{Invariant}
use Rattle.epoch_machine.proofs.Replaced.{put_at, put_cases}
use Rattle.unit_rules.specs.Deeds.{Deed, Keep, Send, Tell, Acted, acted}
use Rattle.unit_rules.specs.Manager.{Managed}
use Rattle.unit_rules.specs.ReplicaStates.{ReplicaState, first_state}
use Rattle.unit_rules.specs.Steps.{Failover, by_manager, by_state}
use Rattle.replica_records.specs.ReplicaStates.{state_at}
use Rattle.epoch_refinement.specs.Epochs.{settings_to}
use Rattle.epoch_refinement.specs.Facts.{of_node, Later}
use Rattle.epoch_refinement.specs.Nodes.{Machines, ShowsNode, AllSent, is_told_of, tells_of, IsRealIn, AllReal, Between, NodeRefined}
use Rattle.epoch_refinement.specs.Reconfigs.{NoneAbove, ShowsReconfig, ShowsManager, Went, ManagerWent}
use Rattle.epoch_refinement.specs.Refined.{AllShown, Refined}
use Rattle.epoch_refinement.specs.ReplicaStates.{ShowsReplicaState}
use Rattle.epoch_refinement.specs.Shown.{Shown}
use Rattle.epoch_refinement.specs.Told.{tells, tells_all, IsOf}
use Rattle.epoch_refinement.proofs.Elsewhere.{state_elsewhere, manager_elsewhere, manager_beside}

-- Deeds of one partition.

pub all_sent : (m : Machines) (p : ℕ) (x : Who) (ds : List Deed) → AllShown (m p) p x ds → AllSent m x ds
all_sent m p x [] s = tt
all_sent m p x (Keep r ∷ ds) s = all_sent m p x ds s
all_sent m p x (Send to b ∷ ds) s = (subst (λ q. Shown (m q) q x to b) (sym s.0) s.1, all_sent m p x ds s.2)
all_sent m p x (Tell r ∷ ds) s = all_sent m p x ds s.1

told_one : (p node : ℕ) (log : List Entry) (r : Report) → IsOf p r → (before : List machine.Report) →
    cond (is_told_of p r) (tells node log r before) before ≡ tells node log r before
told_one p node log (report.Promised q e) s before = ap (λ b. cond b (tells node log (report.Promised q e) before) before) (eq-eqb q p s.0)
told_one p node log (report.Accepted q e lsn) s before = ap (λ b. cond b (tells node log (report.Accepted q e lsn) before) before) (eq-eqb q p s.0)
told_one p node log (report.IsPrimary q e) s before = ap (λ b. cond b (tells node log (report.IsPrimary q e) before) before) (eq-eqb q p s.0)
told_one p node log (report.Committed q e lsn) s before = ap (λ b. cond b (tells node log (report.Committed q e lsn) before) before) (eq-eqb q p s.0)
told_one p node log r s before = refl

pub told_here : (w : World) (p node : ℕ) (log : List Entry) (x : Who) (ds : List Deed) → AllShown w p x ds → (before : List machine.Report) →
    tells_of p node log ds before ≡ tells_all node log ds before
told_here w p node log x [] s before = refl
told_here w p node log x (Keep r ∷ ds) s before = told_here w p node log x ds s before
told_here w p node log x (Send to b ∷ ds) s before = told_here w p node log x ds s.2 before
told_here w p node log x (Tell r ∷ ds) s before =
    ap (λ l. tells_of p node log ds l) (told_one p node log r s.0 before) ∙ told_here w p node log x ds s.1 (tells node log r before)

apart : (p q r : ℕ) → r ≡ q → (q ≡ p → ⊥) → (r == p) ≡ false
apart p q r same d = go (r == p) refl
  where
    go : (b : Bool) → (r == p) ≡ b → b ≡ false
    go true e = absurd (d (sym same ∙ eqb-true r p e))
    go false e = refl

told_none : (p q node : ℕ) (log : List Entry) (r : Report) → IsOf q r → (q ≡ p → ⊥) → (before : List machine.Report) →
    cond (is_told_of p r) (tells node log r before) before ≡ before
told_none p q node log (report.Promised t e) s d before = ap (λ b. cond b (tells node log (report.Promised t e) before) before) (apart p q t s.0 d)
told_none p q node log (report.Accepted t e lsn) s d before = ap (λ b. cond b (tells node log (report.Accepted t e lsn) before) before) (apart p q t s.0 d)
told_none p q node log (report.IsPrimary t e) s d before = ap (λ b. cond b (tells node log (report.IsPrimary t e) before) before) (apart p q t s.0 d)
told_none p q node log (report.Committed t e lsn) s d before = ap (λ b. cond b (tells node log (report.Committed t e lsn) before) before) (apart p q t s.0 d)
told_none p q node log r s d before = refl

pub told_there : (w : World) (p q node : ℕ) (log : List Entry) (x : Who) (ds : List Deed) → AllShown w q x ds → (q ≡ p → ⊥) → (before : List machine.Report) →
    tells_of p node log ds before ≡ before
told_there w p q node log x [] s d before = refl
told_there w p q node log x (Keep r ∷ ds) s d before = told_there w p q node log x ds s d before
told_there w p q node log x (Send to b ∷ ds) s d before = told_there w p q node log x ds s.2 d before
told_there w p q node log x (Tell r ∷ ds) s d before =
    ap (λ l. tells_of p node log ds l) (told_none p q node log r s.0 d before) ∙ told_there w p q node log x ds s.1 d before

real_one : (p : ℕ) (r : Report) → IsOf p r → IsRealIn r
real_one p (report.Promised q e) s = s.1
real_one p (report.Accepted q e lsn) s = s.1
real_one p (report.IsPrimary q e) s = s.1
real_one p (report.Committed q e lsn) s = s.1
real_one p r s = tt

pub all_real : (w : World) (p : ℕ) (x : Who) (ds : List Deed) → AllShown w p x ds → AllReal ds
all_real w p x [] s = tt
all_real w p x (Keep r ∷ ds) s = all_real w p x ds s
all_real w p x (Send to b ∷ ds) s = all_real w p x ds s.2
all_real w p x (Tell r ∷ ds) s = (real_one p r s.0, all_real w p x ds s.1)

-- What lies between two worlds.

pub between_none : {k p : ℕ} {x : Who} {w : World} → Invariant (settings_to k) w → Between k p x w w
between_none inv = record {
  inv = inv;
  keeps = λ f h. h;
  states = λ n d. record { promised = refl; joined = refl; log = refl; collected = refl; role = refl };
  registers = λ a. record { prepared = refl; preparer = refl; done = refl };
  managers = λ y s d shows. shows;
}

pub between_node : {k p : ℕ} {x : Who} {w v : World} → Invariant (settings_to k) v → Later (of_node x.actor) w v → Between k p x w v
between_node {k = k} {p = p} {x = x} inv later = record {
  inv = inv;
  keeps = later.keeps;
  states = λ n d. later.beside.states n (λ e. d cc);
  registers = λ a. later.beside.registers a (λ e. cc (e));
  managers = λ y s d shows. manager_elsewhere later k p y s (λ e. cc (e)) shows;
}

pub between_manager : {k p : ℕ} {x : Who} {w : World} {n : ℕ} {Holds : World → Type 0} (g : Went k w x n Holds) → Between k p x w g.after
between_manager {p = p} g = record {
  inv = g.inv;
  keeps = g.later.keeps;
  states = λ n d. g.later.beside.states n (λ e. cc (e));
  registers = λ a. g.later.beside.registers a (λ e. cc (e));
  managers = λ y s d shows. manager_beside g p y s d shows;
}

-- a manager's state that is the same in partition p shows the same there
pub same_shows : {w : World} {k p : ℕ} {x : Who} {s t : Managed} → at p t.reconfigs ≡ at p s.reconfigs → at p t.units ≡ at p s.units →
    ShowsManager w k p x s → ShowsManager w k p x t
same_shows {w = w} {k = k} {p = p} {x = x} {s = s} {t = t} reconfigs units shows = record {
  small = subst (λ (u : KnownUnit). u.highest.configuration < 4294967296) (sym unit) shows.small;
  idle = λ none. subst (λ (u : KnownUnit). NoneAbove w x (number_of u.highest)) (sym unit) (shows.idle (sym reconfigs ∙ none));
  busy = λ r is.
      let b = shows.busy r (sym reconfigs ∙ is) in
      (subst (λ (u : KnownUnit). ShowsReconfig w k p x u.highest r) (sym unit) b.0, ap is_some units ∙ b.1);
}
  where
    unit : unit_of p t.units ≡ unit_of p s.units
    unit = ap (λ o. unwrap_or o (record { config = None; highest = record { data_loss = 0; configuration = 0 } })) units

module _ {k : ℕ} {m : Machines} {x : Who} {s : Failover} (inv : (p : ℕ) → Invariant (settings_to k) (m p)) (shows : ShowsNode k m x s) (q : ℕ) where
  -- in the partition q something is done, and the new state is the old one elsewhere
  pub one_part : (v : World) (t : Failover) (ds : List Deed) → Between k q x (m q) v → ShowsReplicaState v q x.actor (state_at q t) → ShowsManager v k q x t.managed →
      ((p : ℕ) → (q ≡ p → ⊥) → ShowsReplicaState (m p) p x.actor (state_at p t) × ShowsManager (m p) k p x t.managed) →
      (rises t.states ≡ true) → (rises t.managed.reconfigs ≡ true) → AllShown v q x ds →
      v.told ≡ tells_all x.actor (state_at q t).replica.log ds (m q).told → NodeRefined k m x (acted t ds)
  one_part v t ds between state manager others states_rise reconfigs_rise shown told = record {
    after = replaced m q v;
    between = put_cases (λ p u. Between k p x (m p) u) m q v between (λ p d. between_none (inv p));
    shows = record {
      states = put_cases (λ p u. ShowsReplicaState u p x.actor (state_at p t)) m q v state (λ p d. (others p d).0);
      managers = put_cases (λ p u. ShowsManager u k p x t.managed) m q v manager (λ p d. (others p d).1);
      states_rise = states_rise;
      reconfigs_rise = reconfigs_rise;
    };
    sent = all_sent (replaced m q v) q x ds (subst (λ u. AllShown u q x ds) (sym (put_at m q v)) shown);
    told = put_cases (λ p u. u.told ≡ tells_of p x.actor (state_at p t).replica.log ds (m p).told) m q v
        (told ∙ sym (told_here v q x.actor (state_at q t).replica.log x ds shown (m q).told))
        (λ p d. sym (told_there v p q x.actor (state_at p t).replica.log x ds shown d (m p).told));
    real = all_real v q x ds shown;
  }

  put_there : (p : ℕ) → (q ≡ p → ⊥) → (a : ReplicaState) → at p (put q a s.states) ≡ at p s.states
  put_there p d a = at-put q a s.states p ∙ ap (λ b. cond b (Some a) (at p s.states)) (apart p q q refl d)

  put_here : (a : ReplicaState) → state_at q (record s { states = put q a s.states }) ≡ a
  put_here a = ap (λ o. unwrap_or o (first_state q)) (at-put q a s.states q ∙ ap (λ b. cond b (Some a) (at q s.states)) (eq-eqb q q refl))

  -- a row of the partition's replica
  pub state_step : (a : Acted ReplicaState) → Refined (settings_to k) (m q) q x a → NodeRefined k m x (by_state q s a)
  state_step a r =
      one_part r.after (record s { states = put q a.state s.states }) a.deeds (between_node r.inv r.later)
      (subst (ShowsReplicaState r.after q x.actor) (sym (put_here a.state)) r.shows)
      (manager_elsewhere r.later k q x s.managed (λ e. cc (e)) (shows.managers q))
      (λ p d. (subst (ShowsReplicaState (m p) p x.actor) (ap (λ o. unwrap_or o (first_state p)) (sym (put_there p d a.state))) (shows.states p), shows.managers p))
      (rises-put q a.state s.states shows.states_rise) shows.reconfigs_rise r.sent
      (r.told ∙ ap (λ (z : ReplicaState). tells_all x.actor z.replica.log a.deeds (m q).told) (sym (put_here a.state)))

  -- a row of its manager, which leaves what it knows of other partitions
  pub manager_step : (a : Acted Managed) → ManagerWent k q (m q) x a →
      ((p : ℕ) → (q ≡ p → ⊥) → (at p a.state.reconfigs ≡ at p s.managed.reconfigs) × (at p a.state.units ≡ at p s.managed.units)) →
      rises a.state.reconfigs ≡ true → ((w : World) (log : List Entry) → AllShown w q x a.deeds → (before : List machine.Report) →
      tells_all x.actor log a.deeds before ≡ before) →
      NodeRefined k m x (by_manager s a)
  manager_step a went beside rises_on silent =
      let g = went.1 in
      one_part g.after (record s { managed = a.state }) a.deeds (between_manager g)
      (state_elsewhere g.later q x.actor (state_at q s) (λ e. cc (e)) (shows.states q)) g.holds.0
      (λ p d. (shows.states p, let b = beside p d in same_shows b.0 b.1 (shows.managers p))) shows.states_rise rises_on g.holds.1
      (g.told ∙ sym (silent g.after (state_at q s).replica.log g.holds.1 (m q).told))
