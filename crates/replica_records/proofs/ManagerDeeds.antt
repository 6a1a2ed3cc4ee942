-- Of each row of a manager: it asks, and it tells how a reconfiguration ends or that it is refused.
use Rattle.std.proofs.Common.{◌≡◌, ℕ, Bool, true, false, not, List, [], ◌∷◌, Option, None, Some, Ok, Err, refl}
use Rattle.std.specs.Prelude.{Result, is_some, map, if◌then◌else◌}
use Rattle.fabric_lemmas.specs.Maps.{at}
use Rattle.fabric_terms.specs.declared.message.Body.{Body}
use Rattle.fabric_terms.specs.declared.report.Reason.TheVariants as reason
use Rattle.fabric_terms.specs.declared.report.Report.{Report}
use Rattle.fabric_terms.specs.declared.report.Report.TheVariants as report
use Rattle.ring_points.specs.declared.unit.Config.{Config}
use Rattle.ring_points.specs.declared.unit.Epoch.{Epoch}
use Rattle.ring_points.specs.Epochs.{is_older, same_epoch}
use Rattle.ring_points.specs.Whos.{node_instance}
use Rattle.failover_units.specs.declared.refusal.UnitRefusal.{UnitRefusal}
use Rattle.failover_units.specs.declared.refusal.UnitRefusal.TheVariants as refusal
use Rattle.failover_units.specs.Units.{Table}
use Rattle.replica_place.specs.declared.load.NodeLoad.{NodeLoad}
use Rattle.replica_place.specs.declared.placement.TooFewDomains.{TooFewDomains}
use Rattle.replica_place.specs.Placement.{placement}
use Rattle.unit_rules.specs.declared.reconfig.Kind.{Kind}
use Rattle.unit_rules.specs.declared.reconfig.Kind.TheVariants.{Create, Swap, Heal, Lose}
use Rattle.unit_rules.specs.declared.reconfig.Standing.{Standing}
use Rattle.unit_rules.specs.declared.reconfig.Task.{Task}
use Rattle.unit_rules.specs.Choices.{is_among}
use Rattle.unit_rules.specs.Deeds.{Acted, Deed, Keep, Send, Tell, records_of, refuse, send_all, still}
use Rattle.unit_rules.specs.Epochs.{is_past_end}
use Rattle.unit_rules.specs.Manager.{Managed, answer_for, begins, begins_in, entered, manager_answered, reconfig_commanded, stands, task_commanded, verb_of}
use Rattle.unit_rules.specs.Phases.{Choice, activate_ends, copy_ends, done_ends, prepare_ends, promise_ends, promised_with, swap_ends, vote_ends}
use Rattle.unit_rules.specs.Polls.{arbiters_to}
use Rattle.unit_rules.specs.Questions.{asks, awaited, question, reconfig_fired}
use Rattle.unit_rules.specs.Reconfigs.{ActivatePhase, CopyPhase, Decide, DonePhase, Finished, Phase0, Phase1, Phase2, Phase3, Phase4, Prepare, PreparePhase, PromisePhase, Reconfig, Refused, Stay, Step, Superseded, SwapPhase, VotePhase, task_of}
use Rattle.unit_rules.specs.Transitions.{after_activate, after_copy, after_done, after_prepare, after_promise, after_swap, after_vote, answer_received, answered_by, asks_promises, begun, carried, create_placed, enters, goes_on, heal_placed, is_refused, prepared_as, stays}

-- how a reconfiguration ends, or that it is refused
abbrev pub IsEnding : Report → Type 0
IsEnding (report.Configured p e) = Unit {0}
IsEnding (report.Superseded p e) = Unit {0}
IsEnding (report.Refused verb reason) = Unit {0}
IsEnding _ = ⊥

-- nothing is recorded, and nothing else is reported
abbrev pub Manages : List Deed → Type 0
Manages [] = Unit {0}
Manages (Keep r ∷ ds) = ⊥
Manages (Send to b ∷ ds) = Manages ds
Manages (Tell r ∷ ds) = IsEnding r × Manages ds

-- A reconfiguration only asks.

sends_managed : (b : Body) (actors : List ℕ) → Manages (send_all (map (λ actor. node_instance actor 0) actors) b)
sends_managed b [] = tt
sends_managed b (actor ∷ actors) = sends_managed b actors

pub asks_managed : (r : Reconfig) (actors : List ℕ) → Manages (asks r actors)
asks_managed r actors = sends_managed (question r) actors

pub fires_managed : (r : Reconfig) → Manages (reconfig_fired r)
unfolding reconfig_fired
fires_managed r = asks_managed r (awaited r)

either : (b : Bool) (x y : Acted Step) → Manages x.deeds → Manages y.deeds → Manages (let a : Acted Step = if b then x else y in a).deeds
either true x y h k = h
either false x y h k = k

created_managed : (t : Task) (o : Result (List ℕ) TooFewDomains) → Manages (create_placed t o).deeds
created_managed t (Err few) = tt
created_managed t (Ok placed) = sends_managed _ (arbiters_to t.arbitrators)

healed_managed : (t : Task) (old : Config) (o : Result (List ℕ) TooFewDomains) → Manages (heal_placed t old o).deeds
healed_managed t old (Err few) = tt
healed_managed t old (Ok placed) = sends_managed _ old.members

prepared_managed : (nodes : List NodeLoad) (t : Task) (kind : Kind) (o : Option Config) → Manages (prepared_as nodes t kind o).deeds
prepared_managed nodes t (Create count) (Some old) = tt
prepared_managed nodes t (Create count) None = created_managed t (placement nodes count)
prepared_managed nodes t (Swap node) (Some old) =
    either (is_among node old.members) (enters (Phase0 (record { task = t; old = old; primary = node })) (old.primary ∷ [])) (is_refused refusal.NotMember)
    tt tt
prepared_managed nodes t (Heal count) (Some old) = healed_managed t old (placement nodes count)
prepared_managed nodes t (Lose node) (Some old) = tt
prepared_managed nodes t (Swap node) None = tt
prepared_managed nodes t (Heal count) None = tt
prepared_managed nodes t (Lose node) None = tt

promised_managed : (t : Task) (f : Reconfig → Acted Step) → ((r : Reconfig) → Manages (f r).deeds) → (o : Result Choice PromisePhase) →
    Manages (after_promise t f o).deeds
promised_managed t f each (Ok choice) = sends_managed _ (arbiters_to t.arbitrators)
promised_managed t f each (Err p) = each (Phase1 p)

after_prepare_managed : (nodes : List NodeLoad) (t : Task) (o : Result (Option Config) PreparePhase) → Manages (after_prepare nodes t o).deeds
after_prepare_managed nodes t (Ok old) = prepared_managed nodes t t.kind old
after_prepare_managed nodes t (Err q) = tt

after_swap_managed : (p : SwapPhase) (o : Result Standing SwapPhase) → Manages (after_swap p o).deeds
after_swap_managed p (Ok standing) =
    promised_managed p.task (λ r. enters r p.old.members) (λ r. asks_managed r p.old.members)
    (promised_with p.old.primary standing (asks_promises p.task p.old.members p.old.members p.primary))
after_swap_managed p (Err q) = tt

after_vote_managed : (p : VotePhase) (o : Result (Option Config) VotePhase) → Manages (after_vote p o).deeds
after_vote_managed p (Ok (Some config)) = sends_managed _ config.members
after_vote_managed p (Ok None) = tt
after_vote_managed p (Err q) = tt

after_copy_managed : (p : CopyPhase) (o : Result (Unit {0}) CopyPhase) → Manages (after_copy p o).deeds
after_copy_managed p (Ok x) = sends_managed _ (arbiters_to p.task.arbitrators)
after_copy_managed p (Err q) = tt

after_done_managed : (p : DonePhase) (o : Result (Unit {0}) DonePhase) → Manages (after_done p o).deeds
after_done_managed p (Ok x) = sends_managed _ p.config.members
after_done_managed p (Err q) = tt

after_activate_managed : (p : ActivatePhase) (o : Result (Unit {0}) ActivatePhase) → Manages (after_activate p o).deeds
after_activate_managed p (Ok x) = tt
after_activate_managed p (Err q) = tt

goes_managed : (nodes : List NodeLoad) (actor : ℕ) (b : Body) (r : Reconfig) → Manages (goes_on nodes actor b r).deeds
goes_managed nodes actor b (Prepare p) = after_prepare_managed nodes p.task (prepare_ends actor b p)
goes_managed nodes actor b (Phase0 p) = after_swap_managed p (swap_ends actor b p)
goes_managed nodes actor b (Phase1 p) = promised_managed p.task stays (λ r. tt) (promise_ends actor b p)
goes_managed nodes actor b (Decide p) = after_vote_managed p (vote_ends actor b p)
goes_managed nodes actor b (Phase2 p) = after_copy_managed p (copy_ends actor b p)
goes_managed nodes actor b (Phase3 p) = after_done_managed p (done_ends actor b p)
goes_managed nodes actor b (Phase4 p) = after_activate_managed p (activate_ends actor b p)

pub answer_managed : (nodes : List NodeLoad) (actor : ℕ) (e : Epoch) (b : Body) (r : Reconfig) → Manages (answer_received nodes actor e b r).deeds
unfolding answer_received
answer_managed nodes actor e b r = either (same_epoch e (task_of r).epoch) (answered_by nodes actor b r (carried b)) (stays r) (by (carried b)) tt
  where
    by : (o : Option Epoch) → Manages (answered_by nodes actor b r o).deeds
    by (Some kept) = either (is_older kept (task_of r).epoch) (stays r) (still (Superseded kept)) tt tt
    by None = goes_managed nodes actor b r

-- The manager reports how it ends, or refuses it.

pub stands_managed : (t : Task) (s : Managed) (step : Step) (ds : List Deed) → Manages ds → Manages (stands t s step ds).deeds
stands_managed t s (Stay r) ds h = h
stands_managed t s (Finished config) ds h = (tt, tt)
stands_managed t s (Superseded epoch) ds h = (tt, tt)
stands_managed t s (Refused u) ds h = (tt, tt)

pub answered_managed : (nodes : List NodeLoad) (actor q : ℕ) (e : Epoch) (b : Body) (s : Managed) → Manages (manager_answered nodes actor q e b s).deeds
unfolding manager_answered
answered_managed nodes actor q e b s = go (at q s.reconfigs)
  where
    go : (o : Option Reconfig) → Manages (answer_for nodes actor e b s o).deeds
    go None = tt
    go (Some r) =
        stands_managed (task_of r) s (answer_received nodes actor e b r).state (answer_received nodes actor e b r).deeds (answer_managed nodes actor e b r)

pub commanded_managed : (is_manager : Bool) (k q : ℕ) (kind : Kind) (s : Managed) → Manages (reconfig_commanded is_manager k q kind s).deeds
unfolding reconfig_commanded
commanded_managed is_manager k q kind s = go is_manager (is_some (at q s.reconfigs)) (entered kind q s.units)
  where
    t : Task
    t = task_commanded k q kind s.units

    fits : (units : Table) (b : Bool) → Manages (let a : Acted Managed = if b then refuse (verb_of kind) reason.Counters s else begins t units s in a).deeds
    fits units true = (tt, tt)
    fits units false = asks_managed (begun t) (arbiters_to k)

    in_it : (o : Result Table UnitRefusal) → Manages (begins_in t s o).deeds
    in_it (Err u) = (tt, tt)
    in_it (Ok units) = fits units (is_past_end t.epoch)

    go : (manages busy : Bool) (o : Result Table UnitRefusal) →
        Manages (let a : Acted Managed = if not manages then refuse (verb_of kind) reason.NotManager s
        else if busy then refuse (verb_of kind) reason.Busy s
        else begins_in t s o in a).deeds
    go false busy o = (tt, tt)
    go true true o = (tt, tt)
    go true false o = in_it o

-- Nothing is recorded.

pub managed_silent : (ds : List Deed) → Manages ds → records_of ds ≡ []
managed_silent [] h = refl
managed_silent (Keep r ∷ ds) h = absurd h
managed_silent (Send to b ∷ ds) h = managed_silent ds h
managed_silent (Tell r ∷ ds) h = managed_silent ds h.1
