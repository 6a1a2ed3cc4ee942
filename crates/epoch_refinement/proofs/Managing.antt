-- The manager of a partition: its commands, what answers make of it, and its firing.
use Rattle.std.proofs.Common.{◌≡◌, ℕ, ◌<◌, Bool, true, false, nat_lt, List, Option, None, Some, Ok, Err, refl, sym, ap, ◌∙◌, subst, arith}
use Rattle.std.proofs.lemmas.Bool.{ltb-false, or_parts}
use Rattle.std.specs.Prelude.{Result, not, is_some, unwrap_or, if◌then◌else◌}
use Rattle.fabric_lemmas.specs.Maps.{at, put, without}
use Rattle.ring_points.specs.declared.unit.Epoch.{Epoch}
use Rattle.ring_points.specs.declared.who.Who.{Who}
use Rattle.fabric_terms.specs.declared.message.Body.{Body}
use Rattle.failover_units.specs.declared.refusal.UnitRefusal.{UnitRefusal}
use Rattle.failover_units.specs.declared.refusal.UnitRefusal.TheVariants.{Exists, Full}
use Rattle.failover_units.specs.declared.unit.KnownUnit.{KnownUnit}
use Rattle.failover_units.specs.Units.{Table, unit_of, seen_at, noted, is_full_for, changed}
use Rattle.token_core.specs.Tokens.{last_number}
use Rattle.replica_core.specs.Replicas.{first_epoch}
use Rattle.epoch_machine.specs.Epochs.{number_of}
use Rattle.epoch_machine.specs.Settings.{Opens}
use Rattle.epoch_machine.specs.World.{World}
use Rattle.epoch_machine.specs.Invariant.{Invariant}
use Rattle.replica_place.specs.declared.load.NodeLoad.{NodeLoad}
use Rattle.unit_rules.specs.declared.reconfig.Kind.{Kind}
use Rattle.unit_rules.specs.declared.reconfig.Kind.TheVariants.{Create, Swap, Heal, Lose}
use Rattle.unit_rules.specs.declared.reconfig.Task.{Task}
use Rattle.fabric_terms.specs.declared.report.Reason.TheVariants as reason
use Rattle.unit_rules.specs.Deeds.{Deed, refuse}
use Rattle.unit_rules.specs.Epochs.{epoch_after_loss, is_past_end}
use Rattle.unit_rules.specs.Manager.{Managed, verb_of, epoch_of, entered, task, task_commanded, begins, begins_in, reconfig_commanded, table_or, stands, answer_for, manager_answered}
use Rattle.unit_rules.specs.Polls.{arbiters_to}
use Rattle.unit_rules.specs.Questions.{awaited, reconfig_fired}
use Rattle.unit_rules.specs.Reconfigs.{Reconfig, Step, Stay, Finished, Superseded, Refused, task_of}
use Rattle.unit_rules.specs.Transitions.{begun, answer_received}
use Rattle.epoch_refinement.specs.Epochs.{IsEpoch, settings_to}
use Rattle.epoch_refinement.specs.Reconfigs.{is_lose, NoneAbove, ShowsPhase, ShowsTask, ShowsReconfig, ShowsManager, ShowsStep, IsAnswerOf, ManagerWent}
use Rattle.epoch_refinement.specs.Laws.{ManagerAnswersAreDeeds, CommandsAreDeeds, QuestionsAreShown}
use Rattle.epoch_refinement.specs.Refined.{AllShown}
use Rattle.epoch_refinement.specs.Shown.{Shown}
use Rattle.epoch_refinement.proofs.Knowing.{at_put, at_out, greater_small, greater_above, greater_first, known_changed}
use Rattle.epoch_refinement.proofs.Answering.{answer_refines}
use Rattle.epoch_refinement.proofs.Asking.{to_reconfig, task_shown, asks_shown, still_went, went_map}
use Rattle.epoch_refinement.proofs.Losing.{first_opens}
use Rattle.epoch_refinement.proofs.Polls.{asked_all, none_answered}

module _ {k : ℕ} (p : ℕ) (x : Who) (s : Managed) (w : World) (shows : ShowsManager w k p x s) (r : Reconfig) (is : at p s.reconfigs ≡ Some r) where
  -- what stands after a step
  pub step_stands : (v : World) (n : ℕ) (step : Step) (deeds : List Deed) → ShowsStep v k p x (unit_of p s.units).highest n step → AllShown v p x deeds →
      ShowsManager v k p x (stands (task_of r) s step deeds).state × AllShown v p x (stands (task_of r) s step deeds).deeds
  step_stands v n (Stay q) deeds shown sent = (
    record {
      small = shows.small;
      idle = λ none. absurd (let e : Some q ≡ None = sym here ∙ none in cc (e));
      busy = λ z e. let same : Some q ≡ Some z = sym here ∙ e in let one : q ≡ z = cc in
          (subst (ShowsReconfig v k p x (unit_of p s.units).highest) one shown, (shows.busy r is).1);
    },
    sent,
  )
    where
      here : at p (put (task_of r).partition q s.reconfigs) ≡ Some q
      here = let b = (shows.busy r is).0 in ap (λ z. at p (put z q s.reconfigs)) b.partition ∙ at_put p q s.reconfigs
  step_stands v n (Finished config) deeds shown sent = (
    record {
      small = subst (λ (u : KnownUnit). u.highest.configuration < 4294967296) (sym unit)
          (greater_small (unit_of p s.units).highest config.epoch shows.small (let i = shown.1 in i.small));
      idle = λ none. subst (λ (u : KnownUnit). NoneAbove v x (number_of u.highest)) (sym unit)
          (λ t m same. let le = shown.2 t m same in let g = greater_above (unit_of p s.units).highest config.epoch shows.small (let i = shown.1 in i.small) in
          let i = shown.1 in let j = i.is in omega arith);
      busy = λ z e. absurd (let n : Some z ≡ None = sym e ∙ gone in cc (n));
    },
    (tt, tt),
  )
    where
      gone : at p (without (task_of r).partition s.reconfigs) ≡ None
      gone = let b = (shows.busy r is).0 in ap (λ z. at p (without z s.reconfigs)) b.partition ∙ at_out p s.reconfigs

      unit : unit_of p (table_or s.units (changed config.partition (noted config) s.units)) ≡ noted config (unit_of p s.units)
      unit = ap (λ z. unit_of p (table_or s.units (changed z (noted config) s.units))) shown.0 ∙ known_changed p (noted config) s.units (shows.busy r is).1
  step_stands v n (Superseded epoch) deeds shown sent = (
    record {
      small = subst (λ (u : KnownUnit). u.highest.configuration < 4294967296) (sym unit)
          (greater_small (unit_of p s.units).highest epoch shows.small shown.0);
      idle = λ none. subst (λ (u : KnownUnit). NoneAbove v x (number_of u.highest)) (sym unit)
          (λ t m same. let le = shown.2 t m same in let g = greater_above (unit_of p s.units).highest epoch shows.small shown.0 in
          let j = shown.1 in omega arith);
      busy = λ z e. absurd (let n : Some z ≡ None = sym e ∙ gone in cc (n));
    },
    (tt, tt),
  )
    where
      gone : at p (without (task_of r).partition s.reconfigs) ≡ None
      gone = let b = (shows.busy r is).0 in ap (λ z. at p (without z s.reconfigs)) b.partition ∙ at_out p s.reconfigs

      unit : unit_of p (table_or s.units (changed (task_of r).partition (seen_at epoch) s.units)) ≡ seen_at epoch (unit_of p s.units)
      unit =
          let b = (shows.busy r is).0 in
          ap (λ z. unit_of p (table_or s.units (changed z (seen_at epoch) s.units))) b.partition ∙ known_changed p (seen_at epoch) s.units (shows.busy r is).1
  step_stands v n (Refused refusal) deeds shown sent = (
    record {
      small = shows.small;
      idle = λ none. shown;
      busy = λ z e. absurd (let n : Some z ≡ None = sym e ∙ gone in cc (n));
    },
    (tt, tt),
  )
    where
      gone : at p (without (task_of r).partition s.reconfigs) ≡ None
      gone = let b = (shows.busy r is).0 in ap (λ z. at p (without z s.reconfigs)) b.partition ∙ at_out p s.reconfigs

module _ {k : ℕ} {w : World} (inv : Invariant (settings_to k) w) (p : ℕ) (x : Who) (s : Managed) (shows : ShowsManager w k p x s) (me : 0 < x.instance) where
  pub manager_answers : (nodes : List NodeLoad) (from : Who) (e : Epoch) (b : Body) → IsAnswerOf e b → Shown w p from x b →
      ManagerWent k p w x (manager_answered nodes from.actor p e b s)
  unfolding manager_answered
  manager_answers nodes from e b of shown = go (at p s.reconfigs) refl
    where
      go : (o : Option Reconfig) → at p s.reconfigs ≡ o → ManagerWent k p w x (answer_for nodes from.actor e b s o)
      go None i = (0, still_went inv (shows, tt))
      go (Some r) i =
          let q = (shows.busy r i).0 in
          let g = answer_refines inv p x (unit_of p s.units).highest nodes from r me q e b of shown in (
            q.number,
            went_map g (λ a. step_stands p x s w shows r i g.after q.number (answer_received nodes from.actor e b r).state
                (answer_received nodes from.actor e b r).deeds a.0 a.1),
          )

  -- the epoch of a command is above all that are known
  module _ (kind : Kind) (fits : is_past_end (epoch_of kind (unit_of p s.units).highest) ≡ false) where
    abbrev highest : Epoch
    highest = (unit_of p s.units).highest

    abbrev begins_as : Task
    begins_as = task k p (epoch_of kind (unit_of p s.units).highest) kind

    small_epoch : (epoch_of kind (unit_of p s.units).highest).configuration < 4294967296
    small_epoch =
        let parts = or_parts (nat_lt last_number (epoch_of kind (unit_of p s.units).highest).data_loss)
        (nat_lt last_number (epoch_of kind (unit_of p s.units).highest).configuration) fits in
        let le = ltb-false last_number (epoch_of kind (unit_of p s.units).highest).configuration parts.1 in omega arith

    counted : (kind : Kind) → 0 < (epoch_of kind (unit_of p s.units).highest).configuration
    counted (Create count) = omega arith
    counted (Swap node) = omega arith
    counted (Heal count) = omega arith
    counted (Lose node) = omega arith

    above : (kind : Kind) → number_of (unit_of p s.units).highest < number_of (epoch_of kind (unit_of p s.units).highest)
    above (Create count) = omega arith
    above (Swap node) = omega arith
    above (Heal count) = omega arith
    above (Lose node) = let lt = shows.small in omega arith

    abbrev n : ℕ
    n = number_of (epoch_of kind (unit_of p s.units).highest)

    is_epoch : IsEpoch n (epoch_of kind (unit_of p s.units).highest)
    is_epoch = record { number = record { small = small_epoch; is = refl }; some = λ lt. counted kind }

    opens : (kind : Kind) → IsEpoch (number_of (epoch_of kind (unit_of p s.units).highest)) (epoch_of kind (unit_of p s.units).highest) → is_lose kind ≡ true →
        Opens (settings_to k) (number_of (epoch_of kind (unit_of p s.units).highest))
    opens (Lose node) is e = first_opens k (number_of (epoch_after_loss (unit_of p s.units).highest))
        (epoch_after_loss (unit_of p s.units).highest) is refl (omega arith)
    opens (Create count) is e = absurd (cc (e))
    opens (Swap node) is e = absurd (cc (e))
    opens (Heal count) is e = absurd (cc (e))

    shows_task : ShowsTask k p n begins_as
    shows_task = record { partition = refl; arbitrators = refl; is = is_epoch; some = let lt = above kind in omega arith; opens = opens kind is_epoch }

    -- it begins, the partition being known from then on
    pub began : at p s.reconfigs ≡ None → (units : Table) → unit_of p units ≡ unit_of p s.units → is_some (at p units) ≡ true →
        ManagerWent k p w x (begins begins_as units s)
    began free units same known = (
      n,
      still_went inv (
        record {
          small = subst (λ (u : KnownUnit). u.highest.configuration < 4294967296) (sym same) shows.small;
          idle = λ none. absurd (let e : Some (begun begins_as) ≡ None = sym (at_put p (begun begins_as) s.reconfigs) ∙ none in cc (e));
          busy = λ z e.
              let one : Some (begun begins_as) ≡ Some z = sym (at_put p (begun begins_as) s.reconfigs) ∙ e in
              let is : begun begins_as ≡ z = cc in (
                subst (λ (q : Reconfig × KnownUnit). ShowsReconfig w k p x (let u : KnownUnit = q.1 in u.highest) q.0) (λ i. (is i, sym same i)) stands_now,
                known,
              );
        },
        asks_shown w k p n x (begun begins_as) me shows_task phase (arbiters_to k),
      ),
    )
      where
        none_yet : NoneAbove w x (number_of (unit_of p s.units).highest)
        none_yet = shows.idle free

        phase : ShowsPhase w k p x n (begun begins_as)
        phase = (
          λ t m same. let le = none_yet t m same in let lt = above kind in omega arith,
          asked_all _ (arbiters_to k),
          λ a d m. absurd (none_answered (arbiters_to k) a d m),
        )

        stands_now : ShowsReconfig w k p x (unit_of p s.units).highest (begun begins_as)
        stands_now =
            to_reconfig (begun begins_as) shows_task phase (λ t m same. let le = none_yet t m same in let lt = above kind in omega arith) (λ u. none_yet)

  -- the partition enters the units with what was known of it
  pub entered_same : (kind : Kind) (units : Table) → entered kind p s.units ≡ Ok units → (unit_of p units ≡ unit_of p s.units) × (is_some (at p units) ≡ true)
  entered_same kind units e = by kind e
    where
      changes : (f : KnownUnit → KnownUnit) → f (unit_of p s.units) ≡ unit_of p s.units → changed p f s.units ≡ Ok units →
          (unit_of p units ≡ unit_of p s.units) × (is_some (at p units) ≡ true)
      changes f same e = go (is_full_for p s.units) e
        where
          go : (b : Bool) → (if b then Err Full else Ok (put p (f (unit_of p s.units)) s.units)) ≡ Ok units →
              (unit_of p units ≡ unit_of p s.units) × (is_some (at p units) ≡ true)
          go true e = absurd (cc (e))
          go false e =
              let is : put p (f (unit_of p s.units)) s.units ≡ units = cc in
              let there : at p units ≡ Some (f (unit_of p s.units)) = ap (λ us. at p us) (sym is) ∙ at_put p (f (unit_of p s.units)) s.units in (
                ap (λ o. unwrap_or o (record { config = None; highest = record { data_loss = 0; configuration = 0 } })) there ∙ same,
                ap is_some there,
              )

      seen : seen_at first_epoch (unit_of p s.units) ≡ unit_of p s.units
      seen = let g = greater_first (unit_of p s.units).highest shows.small in λ i. record { config = (unit_of p s.units).config; highest = g i }

      by : (kind : Kind) → entered kind p s.units ≡ Ok units → (unit_of p units ≡ unit_of p s.units) × (is_some (at p units) ≡ true)
      by (Create count) e = go (is_some (unit_of p s.units).config) e
        where
          go : (b : Bool) → (if b then Err Exists else changed p (λ unit. unit) s.units) ≡ Ok units → (unit_of p units ≡ unit_of p s.units) ×
              (is_some (at p units) ≡ true)
          go true e = absurd (cc (e))
          go false e = changes (λ unit. unit) refl e
      by (Swap node) e = changes (seen_at first_epoch) seen e
      by (Heal count) e = changes (seen_at first_epoch) seen e
      by (Lose node) e = changes (seen_at first_epoch) seen e

  -- a command, which begins a reconfiguration or is refused
  pub manager_commanded : (is_manager : Bool) (kind : Kind) → ManagerWent k p w x (reconfig_commanded is_manager k p kind s)
  unfolding reconfig_commanded
  manager_commanded is_manager kind = go is_manager (at p s.reconfigs) refl (entered kind p s.units) refl
    where
      in_it : at p s.reconfigs ≡ None → (o : Result Table UnitRefusal) → entered kind p s.units ≡ o →
          ManagerWent k p w x (begins_in (task_commanded k p kind s.units) s o)
      in_it free (Err refusal) i = (0, still_went inv (shows, (tt, tt)))
      in_it free (Ok units) i = fits (is_past_end (epoch_of kind (unit_of p s.units).highest)) refl
        where
          fits : (b : Bool) → is_past_end (epoch_of kind (unit_of p s.units).highest) ≡ b →
              ManagerWent k p w x (if b then refuse (verb_of kind) reason.Counters s else begins (task_commanded k p kind s.units) units s)
          fits true j = (0, still_went inv (shows, (tt, tt)))
          fits false j = let e = entered_same kind units i in began kind j free units e.0 e.1

      go : (manages : Bool) (o : Option Reconfig) → at p s.reconfigs ≡ o → (u : Result Table UnitRefusal) → entered kind p s.units ≡ u →
          ManagerWent k p w x
          (if not manages then refuse (verb_of kind) reason.NotManager s
          else if is_some o then refuse (verb_of kind) reason.Busy s
          else begins_in (task_commanded k p kind s.units) s u)
      go false o i u j = (0, still_went inv (shows, (tt, tt)))
      go true (Some r) i u j = (0, still_went inv (shows, (tt, tt)))
      go true None i u j = in_it i u j

  -- a firing asks again what the phase asks
  pub manager_fires : (r : Reconfig) → at p s.reconfigs ≡ Some r → AllShown w p x (reconfig_fired r)
  unfolding reconfig_fired
  manager_fires r i = let q = (shows.busy r i).0 in asks_shown w k p q.number x r me (task_shown q) q.phase (awaited r)

pub manager_answers_lem : ManagerAnswersAreDeeds
manager_answers_lem k p w x s inv shows me nodes from e b of shown = manager_answers inv p x s shows me nodes from e b of shown

pub commands_lem : CommandsAreDeeds
commands_lem k p w x s inv shows me is_manager kind = manager_commanded inv p x s shows me is_manager kind

pub questions_lem : QuestionsAreShown
questions_lem k p w x s inv shows me r is = manager_fires inv p x s shows me r is
