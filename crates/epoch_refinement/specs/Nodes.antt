-- A whole node, with its manager and its replicas, on the machines of all partitions.
use Rattle.std.specs.Prelude.{◌≡◌, ℕ, Bool, true, false, cond, ◌==◌, List, [], ◌∷◌, ◌⊎◌}
use Rattle.fabric_lemmas.specs.Maps.{rises}
use Rattle.ring_points.specs.declared.who.Who.{Who}
use Rattle.fabric_terms.specs.declared.message.Message.{Message}
use Rattle.fabric_terms.specs.declared.report.Report.{Report}
use Rattle.fabric_terms.specs.declared.report.Report.TheVariants as report
use Rattle.ring_rules.specs.declared.input.Input.{Input}
use Rattle.ring_rules.specs.declared.input.Input.TheVariants as input
use Rattle.epoch_machine.specs.Logs.{Entry}
use Rattle.epoch_machine.specs.World.{World}
use Rattle.epoch_machine.specs.World as machine
use Rattle.epoch_machine.specs.Invariant.{Invariant}
use Rattle.unit_rules.specs.Deeds.{Deed, Keep, Send, Tell, Acted}
use Rattle.unit_rules.specs.Manager.{Managed}
use Rattle.unit_rules.specs.Registers.{Registers, register_of}
use Rattle.unit_rules.specs.Steps.{Failover}
use Rattle.replica_records.specs.ReplicaStates.{state_at}
use Rattle.epoch_refinement.specs.Epochs.{IsReal, settings_to}
use Rattle.epoch_refinement.specs.Facts.{Fact, Has, SameReplicaState, SameRegister}
use Rattle.epoch_refinement.specs.Reconfigs.{ShowsManager}
use Rattle.epoch_refinement.specs.Registers.{ShowsRegister}
use Rattle.epoch_refinement.specs.ReplicaStates.{ShowsReplicaState}
use Rattle.epoch_refinement.specs.Shown.{partition_of, Shown}
use Rattle.epoch_refinement.specs.Told.{tells}

-- a machine for each partition
abbrev pub Machines : Type 0
Machines = ℕ → World

-- the node of the instance x: in each partition its replica and its manager
pub record ShowsNode (k : ℕ) (m : Machines) (x : Who) (s : Failover) : Type 0 where
  pub states : (p : ℕ) → ShowsReplicaState (m p) p x.actor (state_at p s)
  pub managers : (p : ℕ) → ShowsManager (m p) k p x s.managed
  pub states_rise : rises s.states ≡ true
  pub reconfigs_rise : rises s.managed.reconfigs ≡ true

-- each frame that is sent shows what the machine of its partition has
abbrev pub AllSent : Machines → Who → List Deed → Type 0
AllSent m from [] = Unit {0}
AllSent m from (Keep r ∷ ds) = AllSent m from ds
AllSent m from (Send to b ∷ ds) = Shown (m (partition_of b)) (partition_of b) from to b × AllSent m from ds
AllSent m from (Tell r ∷ ds) = AllSent m from ds

-- the report tells the partition's machine something
abbrev pub is_told_of : ℕ → Report → Bool
is_told_of p (report.Promised q e) = q == p
is_told_of p (report.Accepted q e lsn) = q == p
is_told_of p (report.IsPrimary q e) = q == p
is_told_of p (report.Committed q e lsn) = q == p
is_told_of p _ = false

-- what the deeds tell of the partition, on top of what was told before, the node's log of it being this
abbrev pub tells_of : ℕ → ℕ → List Entry → List Deed → List machine.Report → List machine.Report
tells_of p node log [] before = before
tells_of p node log (Keep r ∷ ds) before = tells_of p node log ds before
tells_of p node log (Send to b ∷ ds) before = tells_of p node log ds before
tells_of p node log (Tell r ∷ ds) before = tells_of p node log ds (cond (is_told_of p r) (tells node log r before) before)

-- the epochs of such reports are those of configurations
abbrev pub IsRealIn : Report → Type 0
IsRealIn (report.Promised q e) = IsReal e
IsRealIn (report.Accepted q e lsn) = IsReal e
IsRealIn (report.IsPrimary q e) = IsReal e
IsRealIn (report.Committed q e lsn) = IsReal e
IsRealIn _ = Unit {0}

abbrev pub AllReal : List Deed → Type 0
AllReal [] = Unit {0}
AllReal (Keep r ∷ ds) = AllReal ds
AllReal (Send to b ∷ ds) = AllReal ds
AllReal (Tell r ∷ ds) = IsRealIn r × AllReal ds

-- what deeds of x leave as it was: what was done, other nodes' replicas, all registers, and what other managers show
pub record Between (k p : ℕ) (x : Who) (w v : World) : Type 0 where
  pub inv : Invariant (settings_to k) v
  pub keeps : (f : Fact) → Has w f → Has v f
  pub states : (n : ℕ) → (x.actor ≡ n → ⊥) → SameReplicaState w v n
  pub registers : (a : ℕ) → SameRegister w v a
  pub managers : (y : Who) (s : Managed) → (x ≡ y → ⊥) → ShowsManager w k p y s → ShowsManager v k p y s

-- the machines have done what the node of x did
pub record NodeRefined (k : ℕ) (m : Machines) (x : Who) (a : Acted Failover) : Type 0 where
  pub after : Machines
  pub between : (p : ℕ) → Between k p x (m p) (after p)
  pub shows : ShowsNode k after x a.state
  pub sent : AllSent after x a.deeds
  pub told : (p : ℕ) → (after p).told ≡ tells_of p x.actor (state_at p a.state).replica.log a.deeds (m p).told
  pub real : AllReal a.deeds

-- a frame that comes to x was sent, to it or to whichever instance runs
pub record Arrives (m : Machines) (x : Who) (f : Message) : Type 0 where
  pub here : f.to.actor ≡ x.actor
  pub to : (f.to.instance ≡ 0) ⊎ (f.to ≡ x)
  pub shown : Shown (m (partition_of f.body)) (partition_of f.body) f.from f.to f.body

abbrev pub Comes : Machines → Who → Input → Type 0
Comes m x (input.Frame f) = Arrives m x f
Comes m x _ = Unit {0}

-- a whole arbitrator, by its actor's number
abbrev pub ShowsArbiter : Machines → ℕ → Registers → Type 0
ShowsArbiter m arbiter rs = (p : ℕ) → ShowsRegister (m p) p arbiter (register_of p rs)

-- what deeds of an arbitrator leave as it was: what was done, all replicas, other registers, and what managers show
pub record Beyond (k p arbiter : ℕ) (w v : World) : Type 0 where
  pub inv : Invariant (settings_to k) v
  pub keeps : (f : Fact) → Has w f → Has v f
  pub states : (n : ℕ) → SameReplicaState w v n
  pub registers : (a : ℕ) → (arbiter ≡ a → ⊥) → SameRegister w v a
  pub managers : (y : Who) (s : Managed) → ShowsManager w k p y s → ShowsManager v k p y s

-- the machines have done what the arbitrator did
pub record ArbiterRefined (k : ℕ) (m : Machines) (me : Who) (a : Acted Registers) : Type 0 where
  pub after : Machines
  pub beyond : (p : ℕ) → Beyond k p me.actor (m p) (after p)
  pub shows : ShowsArbiter after me.actor a.state
  pub sent : AllSent after me a.deeds
  pub told : (p : ℕ) → (after p).told ≡ (m p).told
