-- What a frame of a partition is evidence of in the partition's machine.
--
-- The machine's plan is a configuration together with the log that its epoch begins with; its epochs are numbers. A frame
-- shows that something was done: an answer that it was given, a question that the phase before it came to its end. What
-- was sent stays sent, so a frame goes on showing it, whenever it arrives.
use Rattle.std.specs.Prelude.{◌≡◌, ℕ, ◌+◌, ◌<◌, ◌≤◌, List, length, Option, None, Some, ◌⊎◌}
use Rattle.ring_points.specs.declared.unit.Config.{Config}
use Rattle.ring_points.specs.declared.unit.Epoch.{Epoch}
use Rattle.ring_points.specs.declared.who.Who.{Who}
use Rattle.fabric_terms.specs.declared.message.Body.{Body}
use Rattle.fabric_terms.specs.declared.message.Body.TheVariants as body
use Rattle.replica_core.specs.declared.entry.Entry.{Entry}
use Rattle.epoch_machine.specs.Plans.{Plan}
use Rattle.epoch_machine.specs.Messages.{prepared_by, ballot_of, kept_by, promised_by, adopted_by, appended_by}
use Rattle.epoch_machine.specs.World.{World}
use Rattle.epoch_refinement.specs.Epochs.{IsEpoch}
use Rattle.epoch_refinement.specs.Facts.{is_answer, is_plan, is_ballot, is_synced, is_asked, is_kept, is_active, is_promise, is_piece, is_adopted, is_append, is_appended, Has}

-- the partition that a frame is about; other frames are about none
abbrev pub partition_of : Body → ℕ
partition_of (body.Prepare p epoch) = p
partition_of (body.Prepared p epoch old) = p
partition_of (body.NoPrepare p epoch kept) = p
partition_of (body.Vote config) = config.partition
partition_of (body.Voted p epoch first) = p
partition_of (body.NoVote p epoch kept) = p
partition_of (body.DoneAsk config) = config.partition
partition_of (body.DoneKept p epoch) = p
partition_of (body.NoDone p epoch kept) = p
partition_of (body.Promise p epoch) = p
partition_of (body.Promised p epoch at last) = p
partition_of (body.Sync p epoch origin last) = p
partition_of (body.Fetch p epoch lsn) = p
partition_of (body.Piece p epoch lsn entry_epoch text) = p
partition_of (body.Adopted p epoch last) = p
partition_of (body.Activate config) = config.partition
partition_of (body.Activated p epoch) = p
partition_of (body.Append p epoch lsn text) = p
partition_of (body.Appended p epoch last) = p
partition_of (body.Older p epoch kept) = p
partition_of _ = 0

-- the plan is that of this configuration of the partition
pub record IsPlanOf (p : ℕ) (plan : Plan) (config : Config) : Type 0 where
  pub partition : config.partition ≡ p
  pub epoch : IsEpoch plan.epoch config.epoch
  pub primary : plan.primary ≡ config.primary
  pub members : plan.members ≡ config.members

abbrev pub IsDone : ℕ → Option Plan → Option Config → Type 0
IsDone p None None = Unit {0}
IsDone p (Some plan) (Some config) = IsPlanOf p plan config
IsDone p _ _ = ⊥

-- a Sync, or what a replica keeps of one: a log has no more than 100,000 entries
pub record ShownSync (w : World) (e : Epoch) (origin last : ℕ) : Type 0 where
  pub plan : Plan
  pub synced : Has w (is_synced plan)
  pub epoch : IsEpoch plan.epoch e
  pub origin_is : plan.origin ≡ origin
  pub last_is : length plan.base ≡ last
  pub room : last ≤ 100000

pub record ShownFetch (w : World) (e : Epoch) (to : ℕ) : Type 0 where
  pub plan : Plan
  pub synced : Has w (is_synced plan)
  pub epoch : IsEpoch plan.epoch e
  pub origin_is : plan.origin ≡ to

pub record ShownPromised (w : World) (node : ℕ) (e at : Epoch) (last : ℕ) : Type 0 where
  pub epoch : ℕ
  pub joined : ℕ
  pub log : List Entry
  pub promised : Has w (is_promise (promised_by node epoch joined log))
  pub epoch_is : IsEpoch epoch e
  pub joined_is : IsEpoch joined at
  pub last_is : length log ≡ last
  pub room : last ≤ 100000

-- a frame that is no entry of the base was appended
pub record ShownAppend (w : World) (e : Epoch) (lsn : ℕ) (text : List ℕ) : Type 0 where
  pub plan : Plan
  pub synced : Has w (is_synced plan)
  pub epoch : IsEpoch plan.epoch e
  pub is : (lsn ≤ length plan.base) ⊎
      ((place : ℕ) × (lsn ≡ place + 1) ×
      Has w (is_append (record { epoch = plan.epoch; place = place; entry = record { epoch = e; lsn = lsn; bytes = text } })))

pub record ShownPiece (w : World) (e : Epoch) (x : Entry) : Type 0 where
  pub epoch : ℕ
  pub place : ℕ
  pub epoch_is : IsEpoch epoch e
  pub place_is : x.lsn ≡ place + 1
  pub small : x.epoch.configuration < 4294967296
  pub sent : Has w (is_piece (record { epoch = epoch; place = place; entry = x }))

pub record ShownActivate (w : World) (p : ℕ) (config : Config) : Type 0 where
  pub plan : Plan
  pub activated : Has w (is_active plan)
  pub is : IsPlanOf p plan config

pub record ShownVote (w : World) (p : ℕ) (config : Config) : Type 0 where
  pub plan : Plan
  pub planned : Has w (is_plan plan)
  pub is : IsPlanOf p plan config

pub record ShownVoted (w : World) (p arbiter : ℕ) (kept : Config) : Type 0 where
  pub plan : Plan
  pub voted : Has w (is_ballot (ballot_of plan arbiter))
  pub is : IsPlanOf p plan kept

pub record ShownAsk (w : World) (p : ℕ) (config : Config) : Type 0 where
  pub plan : Plan
  pub asked : Has w (is_asked plan)
  pub is : IsPlanOf p plan config

pub record ShownPrepared (w : World) (p arbiter : ℕ) (to : Who) (e : Epoch) (done : Option Config) : Type 0 where
  pub epoch : ℕ
  pub plan : Option Plan
  pub epoch_is : IsEpoch epoch e
  pub answered : Has w (is_answer (prepared_by arbiter to epoch plan))
  pub is : IsDone p plan done
  pub asker : 0 < to.instance

-- the body of a frame of partition p between these; a refusal shows that the kept epoch is one
abbrev pub Shown : World → ℕ → (from to : Who) → Body → Type 0
Shown w p from to (body.Prepare q e) = (n : ℕ) × IsEpoch n e × (0 < n) × (0 < from.instance)
Shown w p from to (body.Promise q e) = (n : ℕ) × IsEpoch n e × (0 < n)
Shown w p from to (body.Prepared q e done) = ShownPrepared w p from.actor to e done
Shown w p from to (body.Vote config) = ShownVote w p config
Shown w p from to (body.Voted q e kept) = ShownVoted w p from.actor kept × (kept.epoch ≡ e)
Shown w p from to (body.DoneAsk config) = ShownAsk w p config
Shown w p from to (body.DoneKept q e) = (n : ℕ) × IsEpoch n e × Has w (is_kept (kept_by n from.actor))
Shown w p from to (body.Promised q e at last) = ShownPromised w from.actor e at last
Shown w p from to (body.Sync q e origin last) = ShownSync w e origin last
Shown w p from to (body.Fetch q e lsn) = ShownFetch w e to.actor
Shown w p from to (body.Piece q e lsn entry_epoch text) = ShownPiece w e (record { epoch = entry_epoch; lsn = lsn; bytes = text })
Shown w p from to (body.Activate config) = ShownActivate w p config
Shown w p from to (body.Adopted q e last) = (n : ℕ) × IsEpoch n e × Has w (is_adopted (adopted_by n from.actor))
Shown w p from to (body.Append q e lsn text) = ShownAppend w e lsn text
Shown w p from to (body.Appended q e last) = (n : ℕ) × IsEpoch n e × Has w (is_appended (appended_by from.actor n last))
Shown w p from to (body.NoPrepare q e kept) = kept.configuration < 4294967296
Shown w p from to (body.NoVote q e kept) = kept.configuration < 4294967296
Shown w p from to (body.NoDone q e kept) = kept.configuration < 4294967296
Shown w p from to (body.Older q e kept) = kept.configuration < 4294967296
Shown w p from to _ = Unit {0}
