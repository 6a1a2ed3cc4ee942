-- What the machine has once and for all: it stays, whatever is done.
use Rattle.std.specs.Prelude.{◌≡◌, ℕ}
use Rattle.fabric_lemmas.specs.Members.{IsMember}
use Rattle.epoch_machine.specs.Deeds.{Deed, Prepares, Votes, KeepsDone, LeavesPrepare, Proposes, Syncs, AsksDone, Activates, RaisesPromise, AnswersPromise, AdoptsNothing, AdoptsOwn, AdoptsCollected, Collects, SendsPiece, SaysAdopted, Appends, SaysAppended, Restarts, BecomesPrimary, Writes, SendsAppend, Commits}
use Rattle.epoch_machine.specs.Plans.{Plan, Attempt}
use Rattle.epoch_machine.specs.Messages.{Prepared, Ballot, DoneKept, Promised, Piece, Adopted, Append, Appended}
use Rattle.epoch_machine.specs.World.{World}

pub data Fact : Type 0 where
  is_answer : Prepared → Fact
  is_attempt : Attempt → Fact
  is_plan : Plan → Fact
  is_ballot : Ballot → Fact
  is_synced : Plan → Fact
  is_asked : Plan → Fact
  is_kept : DoneKept → Fact
  is_active : Plan → Fact
  is_promise : Promised → Fact
  is_piece : Piece → Fact
  is_adopted : Adopted → Fact
  is_append : Append → Fact
  is_appended : Appended → Fact

abbrev pub Has : World → Fact → Type 0
Has w (is_answer x) = IsMember x w.answers
Has w (is_attempt x) = IsMember x w.attempts
Has w (is_plan x) = IsMember x w.plans
Has w (is_ballot x) = IsMember x w.ballots
Has w (is_synced x) = IsMember x w.syncs
Has w (is_asked x) = IsMember x w.asked
Has w (is_kept x) = IsMember x w.kept
Has w (is_active x) = IsMember x w.active
Has w (is_promise x) = IsMember x w.promises
Has w (is_piece x) = IsMember x w.pieces
Has w (is_adopted x) = IsMember x w.adopted
Has w (is_append x) = IsMember x w.appends
Has w (is_appended x) = IsMember x w.appended

-- who acts: an arbitrator, the replica of a node, or a manager
pub data Actor : Type 0 where
  of_arbiter : ℕ → Actor
  of_node : ℕ → Actor
  of_manager : Actor

abbrev pub actor_of : Deed → Actor
actor_of (Prepares a to e) = of_arbiter a
actor_of (Votes a p) = of_arbiter a
actor_of (KeepsDone a p) = of_arbiter a
actor_of (LeavesPrepare t) = of_manager
actor_of (Proposes p) = of_manager
actor_of (Syncs p) = of_manager
actor_of (AsksDone p) = of_manager
actor_of (Activates p) = of_manager
actor_of (RaisesPromise node e) = of_node node
actor_of (AnswersPromise node) = of_node node
actor_of (AdoptsNothing node p) = of_node node
actor_of (AdoptsOwn node p) = of_node node
actor_of (AdoptsCollected node p) = of_node node
actor_of (Collects node p before entry) = of_node node
actor_of (SendsPiece node place p entry) = of_node node
actor_of (SaysAdopted node) = of_node node
actor_of (Appends node d) = of_node node
actor_of (SaysAppended node) = of_node node
actor_of (Restarts node) = of_node node
actor_of (BecomesPrimary node p) = of_node node
actor_of (Writes node r entry) = of_node node
actor_of (SendsAppend node place r entry) = of_node node
actor_of (Commits node last r) = of_node node

-- the replica of this node is as it was
pub record SameReplicaState (w v : World) (m : ℕ) : Type 0 where
  pub promised : v.promised m ≡ w.promised m
  pub joined : v.joined m ≡ w.joined m
  pub log : v.log m ≡ w.log m
  pub collected : v.collected m ≡ w.collected m
  pub role : v.role m ≡ w.role m

-- the register of this arbitrator is as it was
pub record SameRegister (w v : World) (a : ℕ) : Type 0 where
  pub prepared : v.prepared a ≡ w.prepared a
  pub preparer : v.preparer a ≡ w.preparer a
  pub done : v.done a ≡ w.done a

-- all but the actor is as it was
pub record Beside (x : Actor) (w v : World) : Type 0 where
  pub states : (m : ℕ) → (x ≡ of_node m → ⊥) → SameReplicaState w v m
  pub registers : (a : ℕ) → (x ≡ of_arbiter a → ⊥) → SameRegister w v a
  pub attempts : (x ≡ of_manager → ⊥) → v.attempts ≡ w.attempts
  pub plans : (x ≡ of_manager → ⊥) → v.plans ≡ w.plans

-- v comes after w by deeds of this actor: all facts stay, and so does all that is not the actor's
pub record Later (x : Actor) (w v : World) : Type 0 where
  pub keeps : (x : Fact) → Has w x → Has v x
  pub beside : Beside x w v
