-- When a deed may happen. Whatever was sent may arrive at any time, any number of times, or never.
use Rattle.std.specs.Prelude.{◌≡◌, ℕ, ◌<◌, ◌≤◌, [], length, Some, ◌⊎◌}
use Rattle.fabric_lemmas.specs.Members.{IsMember}
use Rattle.epoch_machine.specs.Majorities.{MajorityOf}
use Rattle.epoch_machine.specs.Epochs.{number_of}
use Rattle.epoch_machine.specs.Logs.{IsAt}
use Rattle.epoch_machine.specs.Settings.{Settings}
use Rattle.epoch_machine.specs.Plans.{Plan, Attempt}
use Rattle.epoch_machine.specs.Messages.{ballot_of, kept_by, adopted_by}
use Rattle.epoch_machine.specs.World.{World}
use Rattle.epoch_machine.specs.Evidence.{AnsweredTo, Carried, Planned, HasAppended}
use Rattle.epoch_machine.specs.Deeds.{Deed, Prepares, Votes, KeepsDone, LeavesPrepare, Proposes, Syncs, AsksDone, Activates, RaisesPromise, AnswersPromise, AdoptsNothing, AdoptsOwn, AdoptsCollected, Collects, SendsPiece, SaysAdopted, Appends, SaysAppended, Restarts, BecomesPrimary, Writes, SendsAppend, Commits}

-- the node promised this plan's epoch, and has not adopted in it
pub record MayAdopt (w : World) (node : ℕ) (p : Plan) : Type 0 where
  pub synced : IsMember p w.syncs
  pub promised : w.promised node ≡ p.epoch
  pub before : w.joined node < p.epoch

-- the node has adopted in the epoch that it promised
abbrev pub HasAdopted : World → ℕ → Type 0
HasAdopted w node = w.joined node ≡ w.promised node

-- the deed may happen in this world
abbrev pub Can : Settings → World → Deed → Type 0
Can c w (Prepares a to e) = (w.prepared a < e) ⊎ ((w.prepared a ≡ e) × (w.preparer a ≡ to))
Can c w (Votes a p) = IsMember p w.plans × (w.prepared a ≤ p.epoch)
Can c w (KeepsDone a p) = IsMember p w.asked × (w.prepared a ≤ p.epoch)
-- a Who leaves the phase Prepare once for each epoch, and its epochs rise
Can c w (LeavesPrepare t) =
    (0 < t.epoch) × ((u : Attempt) → IsMember u w.attempts → u.who ≡ t.who → u.epoch < t.epoch) ×
    MajorityOf c.arbiters (AnsweredTo w.answers t.who t.epoch t.prev) × Carried w.answers t.who t.epoch t.prev
-- it proposes once in an attempt
Can c w (Proposes p) =
    ((q : Plan) → IsMember q w.plans → q.epoch ≡ p.epoch → ⊥) ×
    ((t : Attempt) × IsMember t w.attempts × (t.epoch ≡ p.epoch) × Planned c w.promises t.prev p)
Can c w (Syncs p) = IsMember p w.plans × MajorityOf c.arbiters (λ a. IsMember (ballot_of p a) w.ballots)
Can c w (AsksDone p) = IsMember p w.syncs × MajorityOf p.members (λ m. IsMember (adopted_by p.epoch m) w.adopted)
Can c w (Activates p) = IsMember p w.asked × MajorityOf c.arbiters (λ a. IsMember (kept_by p.epoch a) w.kept)
Can c w (RaisesPromise node e) = w.promised node < e
Can c w (AnswersPromise node) = Unit {0}
Can c w (AdoptsNothing node p) = MayAdopt w node p × (length p.base ≡ 0)
Can c w (AdoptsOwn node p) = MayAdopt w node p × (p.origin ≡ node) × (0 < length p.base)
Can c w (AdoptsCollected node p) = MayAdopt w node p × (length (w.collected node) ≡ length p.base)
Can c w (Collects node p before entry) =
    MayAdopt w node p × ((before ≡ []) ⊎ (before ≡ w.collected node)) × (length before < length p.base) ×
    IsMember (record { epoch = p.epoch; place = length before; entry = entry }) w.pieces
Can c w (SendsPiece node place p entry) =
    IsMember p w.syncs × (p.origin ≡ node) × (w.promised node ≡ p.epoch) × IsAt (w.log node) place entry
Can c w (SaysAdopted node) = HasAdopted w node
Can c w (Appends node d) =
    IsMember d w.appends × (w.joined node ≡ d.epoch) × (w.promised node ≡ d.epoch) × (d.place ≡ length (w.log node))
Can c w (SaysAppended node) = HasAdopted w node
Can c w (Restarts node) = Unit {0}
Can c w (BecomesPrimary node p) =
    IsMember p w.active × (p.primary ≡ node) × (w.joined node ≡ p.epoch) × (w.promised node ≡ p.epoch)
Can c w (Writes node r entry) = (w.role node ≡ Some r) × (number_of entry.epoch ≡ r.plan.epoch)
Can c w (SendsAppend node place r entry) = (w.role node ≡ Some r) × IsAt (w.log node) place entry
Can c w (Commits node last r) =
    (w.role node ≡ Some r) × (r.floor < last) × (r.reported < last) × (last ≤ length (w.log node)) ×
    MajorityOf r.plan.members (HasAppended w.appended r.plan.epoch last)
