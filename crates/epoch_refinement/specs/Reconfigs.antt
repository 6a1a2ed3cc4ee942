-- When a reconfiguration of a partition, and with it the manager at its node, is on its way in the machine.
--
-- A Who that left the phase Prepare has an attempt; what it proposed is a plan, and each further phase has the plan in the
-- bag of that phase. What was answered so far, the machine has. An epoch that was left is never left again: the attempts of
-- a Who are at most the epoch that it works on, and below it as long as it prepares.
use Rattle.std.specs.Prelude.{◌≡◌, ℕ, ◌<◌, ◌≤◌, Bool, true, false, List, length, map, Option, None, Some, is_some, ◌⊎◌}
use Rattle.fabric_lemmas.specs.Maps.{at}
use Rattle.fabric_lemmas.specs.Members.{IsMember}
use Rattle.ring_points.specs.declared.unit.Config.{Config}
use Rattle.ring_points.specs.declared.unit.Epoch.{Epoch}
use Rattle.ring_points.specs.declared.who.Who.{Who}
use Rattle.ring_points.specs.Whos.{arbiter_actor}
use Rattle.fabric_terms.specs.declared.message.Body.{Body}
use Rattle.fabric_terms.specs.declared.message.Body.TheVariants as body
use Rattle.arbiter_quorum.specs.Counted.{are_counted}
use Rattle.failover_units.specs.Units.{unit_of}
use Rattle.epoch_machine.specs.Epochs.{number_of}
use Rattle.epoch_machine.specs.Messages.{adopted_by, kept_by}
use Rattle.epoch_machine.specs.Plans.{Plan, Attempt}
use Rattle.epoch_machine.specs.Settings.{Opens}
use Rattle.epoch_machine.specs.World.{World}
use Rattle.epoch_machine.specs.Invariant.{Invariant}
use Rattle.unit_rules.specs.declared.reconfig.Kind.{Kind}
use Rattle.unit_rules.specs.declared.reconfig.Kind.TheVariants.{Create, Lose}
use Rattle.unit_rules.specs.declared.reconfig.Standing.{Standing}
use Rattle.unit_rules.specs.declared.reconfig.Task.{Task}
use Rattle.unit_rules.specs.Deeds.{Acted}
use Rattle.unit_rules.specs.Manager.{Managed}
use Rattle.unit_rules.specs.Polls.{Poll, arbiters_to}
use Rattle.unit_rules.specs.Reconfigs.{OriginLog, Reconfig, Prepare, Phase0, Phase1, Decide, Phase2, Phase3, Phase4, Step, Stay, Finished, Superseded, Refused, task_of}
use Rattle.epoch_refinement.specs.Epochs.{IsEpoch, settings_to}
use Rattle.epoch_refinement.specs.Facts.{is_attempt, is_plan, is_synced, is_adopted, is_kept, of_manager, Has, Later}
use Rattle.epoch_refinement.specs.Refined.{AllShown}
use Rattle.epoch_refinement.specs.Shown.{IsPlanOf, ShownPrepared, ShownPromised, ShownVoted, ShownAsk, ShownActivate}

abbrev pub is_create : Kind → Bool
is_create (Create count) = true
is_create _ = false

abbrev pub is_lose : Kind → Bool
is_lose (Lose node) = true
is_lose _ = false

abbrev pub is_preparing : Reconfig → Bool
is_preparing (Prepare q) = true
is_preparing _ = false

-- who is asked
abbrev pub actors_in : {A : Type 0} → Poll A → List ℕ
actors_in poll = map (λ e. e.0) poll

-- the Who has left the phase Prepare of this epoch with this configuration, and has not proposed
pub record HasLeft (w : World) (x : Who) (n : ℕ) (plan : Plan) : Type 0 where
  pub entered : Has w (is_attempt (record { who = x; epoch = n; prev = Some plan }))
  pub none : (q : Plan) → IsMember q w.plans → q.epoch ≡ n → ⊥

-- a proposed plan: its configuration, and the origin and the length of its base; of a create the primary's empty log
pub record ShowsPlan (p : ℕ) (plan : Plan) (n : ℕ) (kind : Kind) (config : Config) (source : OriginLog) : Type 0 where
  pub is : IsPlanOf p plan config
  pub epoch_is : plan.epoch ≡ n
  pub origin_is : plan.origin ≡ source.origin
  pub last_is : length plan.base ≡ source.last
  pub room : source.last ≤ 100000
  pub created : is_create kind ≡ true → (plan.origin ≡ plan.primary) × (length plan.base ≡ 0)

-- the phase of a reconfiguration of x for the epoch of number n, by k arbitrators
abbrev pub ShowsPhase : World → (k p : ℕ) → Who → ℕ → Reconfig → Type 0
ShowsPhase w k p x n (Prepare q) =
    ((t : Attempt) → IsMember t w.attempts → t.who ≡ x → t.epoch < n) × (actors_in q.poll ≡ arbiters_to k) ×
    ((a : ℕ) (d : Option Config) → IsMember (a, Some d) q.poll → ShownPrepared w p a x q.task.epoch d)
ShowsPhase w k p x n (Phase0 q) = ((plan : Plan) × IsPlanOf p plan q.old × HasLeft w x n plan) × (is_create q.task.kind ≡ false)
ShowsPhase w k p x n (Phase1 q) =
    ((plan : Plan) × HasLeft w x n plan × ((actors_in q.poll ≡ plan.members) ⊎ Opens (settings_to k) n)) × (is_create q.task.kind ≡ false) ×
    ((m : ℕ) (s : Standing) → IsMember (m, Some s) q.poll → ShownPromised w m q.task.epoch s.at s.last)
ShowsPhase w k p x n (Decide q) =
    ((plan : Plan) × Has w (is_plan plan) × ShowsPlan p plan n q.task.kind q.config q.source) × (q.votes.arbitrators ≡ k) ×
    (are_counted k q.votes.answers ≡ true) ×
    ((a : ℕ) (v : Config) → IsMember (a, v) q.votes.answers → ShownVoted w p (arbiter_actor a) v × IsEpoch n v.epoch)
ShowsPhase w k p x n (Phase2 q) =
    ((plan : Plan) × Has w (is_synced plan) × ShowsPlan p plan n q.task.kind q.config q.source) × (actors_in q.poll ≡ q.config.members) ×
    ((m : ℕ) → IsMember (m, Some tt) q.poll → Has w (is_adopted (adopted_by n m)))
ShowsPhase w k p x n (Phase3 q) =
    ShownAsk w p q.config × IsEpoch n q.config.epoch × (actors_in q.poll ≡ arbiters_to k) ×
    ((a : ℕ) → IsMember (a, Some tt) q.poll → Has w (is_kept (kept_by n a)))
ShowsPhase w k p x n (Phase4 q) = ShownActivate w p q.config × IsEpoch n q.config.epoch

-- no attempt of x is above this epoch
abbrev pub NoneAbove : World → Who → ℕ → Type 0
NoneAbove w x n = (t : Attempt) → IsMember t w.attempts → t.who ≡ x → t.epoch ≤ n

-- a standing reconfiguration of x, the highest epoch that it knows being h
pub record ShowsReconfig (w : World) (k p : ℕ) (x : Who) (h : Epoch) (r : Reconfig) : Type 0 where
  pub partition : (task_of r).partition ≡ p
  pub arbitrators : (task_of r).arbitrators ≡ k
  pub number : ℕ
  pub is : IsEpoch number (task_of r).epoch
  pub some : 0 < number
  pub opens : is_lose (task_of r).kind ≡ true → Opens (settings_to k) number
  pub phase : ShowsPhase w k p x number r
  pub below : NoneAbove w x number
  pub before : is_preparing r ≡ true → NoneAbove w x (number_of h)

-- the manager x in partition p, where a reconfiguration stands of a known partition, or none
pub record ShowsManager (w : World) (k p : ℕ) (x : Who) (s : Managed) : Type 0 where
  pub small : (unit_of p s.units).highest.configuration < 4294967296
  pub idle : at p s.reconfigs ≡ None → NoneAbove w x (number_of (unit_of p s.units).highest)
  pub busy : (r : Reconfig) → at p s.reconfigs ≡ Some r → ShowsReconfig w k p x (unit_of p s.units).highest r × (is_some (at p s.units) ≡ true)

-- the Who has left the phase Prepare of this epoch
pub record HasEntered (w : World) (x : Who) (n : ℕ) : Type 0 where
  pub prev : Option Plan
  pub entered : IsMember (record { who = x; epoch = n; prev = prev }) w.attempts

-- the machine has done what the manager x did, and came to a world of which this holds
pub record Went (k : ℕ) (w : World) (x : Who) (n : ℕ) (Holds : World → Type 0) : Type 0 where
  pub after : World
  pub inv : Invariant (settings_to k) after
  pub later : Later of_manager w after
  -- what is new is of this Who, and of this epoch
  pub attempts : (t : Attempt) → IsMember t after.attempts → IsMember t w.attempts ⊎ ((t.who ≡ x) × (t.epoch ≡ n))
  pub plans : (q : Plan) → IsMember q after.plans → IsMember q w.plans ⊎ ((q.epoch ≡ n) × HasEntered after x n)
  pub holds : Holds after
  pub told : after.told ≡ w.told

-- what is fixed of a reconfiguration of the epoch of this number
pub record ShowsTask (k p n : ℕ) (t : Task) : Type 0 where
  pub partition : t.partition ≡ p
  pub arbitrators : t.arbitrators ≡ k
  pub is : IsEpoch n t.epoch
  pub some : 0 < n
  pub opens : is_lose t.kind ≡ true → Opens (settings_to k) n

-- how it is with a reconfiguration for the epoch of this number after an answer
abbrev pub ShowsStep : World → (k p : ℕ) → Who → Epoch → ℕ → Step → Type 0
ShowsStep w k p x h n (Stay r) = ShowsReconfig w k p x h r
ShowsStep w k p x h n (Finished config) = (config.partition ≡ p) × IsEpoch n config.epoch × NoneAbove w x n
ShowsStep w k p x h n (Superseded epoch) = (epoch.configuration < 4294967296) × (n ≤ number_of epoch) × NoneAbove w x n
ShowsStep w k p x h n (Refused refusal) = NoneAbove w x (number_of h)

-- the frame answers a question of this epoch
abbrev pub IsAnswerOf : Epoch → Body → Type 0
IsAnswerOf e (body.Prepared p epoch old) = epoch ≡ e
IsAnswerOf e (body.NoPrepare p epoch kept) = epoch ≡ e
IsAnswerOf e (body.Voted p epoch first) = epoch ≡ e
IsAnswerOf e (body.NoVote p epoch kept) = epoch ≡ e
IsAnswerOf e (body.DoneKept p epoch) = epoch ≡ e
IsAnswerOf e (body.NoDone p epoch kept) = epoch ≡ e
IsAnswerOf e (body.Promised p epoch at last) = epoch ≡ e
IsAnswerOf e (body.Adopted p epoch last) = epoch ≡ e
IsAnswerOf e (body.Activated p epoch) = epoch ≡ e
IsAnswerOf e (body.Older p epoch kept) = epoch ≡ e
IsAnswerOf e _ = ⊥

-- the machine has done what the manager x did in the partition
abbrev pub ManagerWent : (k p : ℕ) → World → Who → Acted Managed → Type 0
ManagerWent k p w x a = (n : ℕ) × Went k w x n (λ v. ShowsManager v k p x a.state × AllShown v p x a.deeds)
