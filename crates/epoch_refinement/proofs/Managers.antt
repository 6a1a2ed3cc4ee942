-- What a manager does, seen in all partitions.
use Rattle.std.proofs.Common.{◌≡◌, ℕ, ◌<◌, Bool, true, false, List, Option, None, Some, Ok, Err, refl}
use Rattle.std.specs.Prelude.{Result, not, is_some, if◌then◌else◌}
use Rattle.fabric_lemmas.specs.Maps.{at}
use Rattle.fabric_lemmas.proofs.Maps.{rises-put}
use Rattle.ring_points.specs.declared.unit.Epoch.{Epoch}
use Rattle.ring_points.specs.declared.who.Who.{Who}
use Rattle.fabric_terms.specs.declared.message.Body.{Body}
use Rattle.fabric_terms.specs.declared.report.Reason.{Reason}
use Rattle.fabric_terms.specs.declared.report.Reason.TheVariants as reason
use Rattle.failover_units.specs.declared.refusal.UnitRefusal.{UnitRefusal}
use Rattle.failover_units.specs.Units.{Table, unit_of}
use Rattle.epoch_machine.specs.Invariant.{Invariant}
use Rattle.replica_place.specs.declared.load.NodeLoad.{NodeLoad}
use Rattle.unit_rules.specs.declared.reconfig.Kind.{Kind}
use Rattle.unit_rules.specs.Deeds.{still, refuse}
use Rattle.unit_rules.specs.Epochs.{is_past_end}
use Rattle.unit_rules.specs.Manager.{verb_of, reason_of, epoch_of, entered, task_commanded, begins, begins_in, stands_after, answer_for, manager_answered, reconfig_commanded}
use Rattle.unit_rules.specs.Polls.{arbiters_to}
use Rattle.unit_rules.specs.Questions.{asks}
use Rattle.unit_rules.specs.Reconfigs.{Reconfig, task_of}
use Rattle.unit_rules.specs.Steps.{Failover, by_manager}
use Rattle.unit_rules.specs.Transitions.{begun, answer_received}
use Rattle.epoch_refinement.specs.Epochs.{settings_to}
use Rattle.epoch_refinement.specs.Nodes.{Machines, ShowsNode, NodeRefined}
use Rattle.epoch_refinement.specs.Reconfigs.{IsAnswerOf}
use Rattle.epoch_refinement.specs.Shown.{Shown}
use Rattle.epoch_refinement.proofs.Answering.{answer_refines}
use Rattle.epoch_refinement.proofs.Asking.{still_went, went_map}
use Rattle.epoch_refinement.proofs.Managing.{step_stands, began, entered_same}
use Rattle.epoch_refinement.proofs.Parts.{manager_step}
use Rattle.epoch_refinement.proofs.Beside.{put_other, stands_beside, entered_other}
use Rattle.replica_records.proofs.ManagerDeeds.{answer_managed, asks_managed, stands_managed}
use Rattle.epoch_refinement.proofs.Quiet.{managed_quiet}

module _ {k : ℕ} {m : Machines} {x : Who} {s : Failover} (inv : (p : ℕ) → Invariant (settings_to k) (m p)) (shows : ShowsNode k m x s) (me : 0 < x.instance)
    (q : ℕ) where
  pub answered_step : (nodes : List NodeLoad) (from : Who) (e : Epoch) (b : Body) → IsAnswerOf e b → Shown (m q) q from x b →
      NodeRefined k m x (by_manager s (manager_answered nodes from.actor q e b s.managed))
  unfolding manager_answered
  answered_step nodes from e b of shown = go (at q s.managed.reconfigs) refl
    where
      go : (o : Option Reconfig) → at q s.managed.reconfigs ≡ o → NodeRefined k m x (by_manager s (answer_for nodes from.actor e b s.managed o))
      go None i =
          manager_step inv shows q (still s.managed) (0, still_went (inv q) (shows.managers q, tt)) (λ p d. (refl, refl)) shows.reconfigs_rise
          (λ w log a before. refl)
      go (Some r) i =
          let busy = shows.managers q in
          let c = (busy.busy r i).0 in
          let g = answer_refines (inv q) q x (unit_of q s.managed.units).highest nodes from r me c e b of shown in
          let beside =
          stands_beside g.after k x (unit_of q s.managed.units).highest c.number q (task_of r) c.partition s.managed
          (answer_received nodes from.actor e b r).state
          (answer_received nodes from.actor e b r).deeds g.holds.0 in
          manager_step inv shows q (stands_after (task_of r) s.managed (answer_received nodes from.actor e b r)) (
            c.number,
            went_map g (λ a. step_stands q x s.managed (m q) (shows.managers q) r i g.after c.number (answer_received nodes from.actor e b r).state
                (answer_received nodes from.actor e b r).deeds a.0 a.1),
          )
          (λ p d. (beside.reconfigs p d, beside.units p d)) (beside.rises_on shows.reconfigs_rise)
          (λ w log a before.
          managed_quiet (stands_after (task_of r) s.managed (answer_received nodes from.actor e b r)).deeds
          (stands_managed (task_of r) s.managed (answer_received nodes from.actor e b r).state (answer_received nodes from.actor e b r).deeds
          (answer_managed nodes from.actor e b r))
          x.actor log before)

  pub commanded_step : (is_manager : Bool) (kind : Kind) → NodeRefined k m x (by_manager s (reconfig_commanded is_manager k q kind s.managed))
  unfolding reconfig_commanded
  commanded_step is_manager kind = go is_manager (at q s.managed.reconfigs) refl (entered kind q s.managed.units) refl
    where
      refused : (why : Reason) → NodeRefined k m x (by_manager s (refuse (verb_of kind) why s.managed))
      refused why =
          manager_step inv shows q (refuse (verb_of kind) why s.managed) (0, still_went (inv q) (shows.managers q, (tt, tt))) (λ p d. (refl, refl))
          shows.reconfigs_rise (λ w log a before. refl)

      in_it : at q s.managed.reconfigs ≡ None → (o : Result Table UnitRefusal) → entered kind q s.managed.units ≡ o →
          NodeRefined k m x (by_manager s (begins_in (task_commanded k q kind s.managed.units) s.managed o))
      in_it free (Err u) i = refused (reason_of u)
      in_it free (Ok units) i = fits (is_past_end (epoch_of kind (unit_of q s.managed.units).highest)) refl
        where
          fits : (b : Bool) → is_past_end (epoch_of kind (unit_of q s.managed.units).highest) ≡ b →
              NodeRefined k m x
              (by_manager s (if b then refuse (verb_of kind) reason.Counters s.managed else begins (task_commanded k q kind s.managed.units) units s.managed))
          fits true j = refused reason.Counters
          fits false j =
              let e = entered_same (inv q) q x s.managed (shows.managers q) me kind units i in
              manager_step inv shows q (begins (task_commanded k q kind s.managed.units) units s.managed)
              (began (inv q) q x s.managed (shows.managers q) me kind j free units e.0 e.1)
              (λ p d. (
                put_other q (begun (task_commanded k q kind s.managed.units)) s.managed.reconfigs p d,
                entered_other kind q s.managed.units units i p d,
              ))
              (rises-put q (begun (task_commanded k q kind s.managed.units)) s.managed.reconfigs shows.reconfigs_rise)
              (λ w log a before.
              managed_quiet (asks (begun (task_commanded k q kind s.managed.units)) (arbiters_to k))
              (asks_managed (begun (task_commanded k q kind s.managed.units)) (arbiters_to k)) x.actor log before)

      go : (manages : Bool) (o : Option Reconfig) → at q s.managed.reconfigs ≡ o → (u : Result Table UnitRefusal) → entered kind q s.managed.units ≡ u →
          NodeRefined k m x
          (by_manager s
          (if not manages then refuse (verb_of kind) reason.NotManager s.managed
          else if is_some o then refuse (verb_of kind) reason.Busy s.managed
          else begins_in (task_commanded k q kind s.managed.units) s.managed u))
      go false o i u j = refused reason.NotManager
      go true (Some r) i u j = refused reason.Busy
      go true None i u j = in_it i u j
