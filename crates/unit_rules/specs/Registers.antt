-- The register of a partition at an arbitrator: what was prepared, voted and done, and its three questions.
use Rattle.std.specs.Prelude.{ℕ, Bool, true, false, ◌&&◌, List, [], ◌∷◌, ◌++◌, Option, Some, None, find, unwrap_or, if◌then◌else◌}
use Rattle.ring_points.specs.declared.unit.Config.{Config}
use Rattle.ring_points.specs.declared.unit.Epoch.{Epoch}
use Rattle.ring_points.specs.declared.who.Who.{Who}
use Rattle.ring_points.specs.Epochs.{is_older, same_epoch}
use Rattle.ring_points.specs.Whos.{same_who}
use Rattle.fabric_lemmas.specs.Maps.{at, put}
use Rattle.fabric_terms.specs.declared.message.Body.{Body}
use Rattle.fabric_terms.specs.declared.message.Body.TheVariants as body
use Rattle.fabric_terms.specs.declared.record.Record.{Record}
use Rattle.fabric_terms.specs.declared.record.Record.TheVariants.{PreparedBy, VotedFor, DoneFor}
use Rattle.replica_core.specs.Replicas.{first_epoch}
use Rattle.unit_rules.specs.declared.register.Preparation.{Preparation}
use Rattle.unit_rules.specs.Deeds.{Keep, Send, Acted, acted, still}

-- the highest prepared epoch, the first vote of each epoch, and the done configuration of the highest epoch
pub record Register : Type 0 where
  pub prepared : Option Preparation
  pub votes : List Config
  pub done : Option Config

-- by partition
abbrev pub Registers : Type 0
Registers = List (ℕ × Register)

abbrev pub empty_register : Register
empty_register = record { prepared = None; votes = []; done = None }

abbrev pub register_of : ℕ → Registers → Register
register_of partition rs = unwrap_or (at partition rs) empty_register

-- an answer, and what is recorded before it leaves
pub record Reply : Type 0 where
  pub kept : Option Record
  pub body : Body

abbrev pub reply : Body → Reply
reply b = record { kept = None; body = b }

abbrev pub reply_keeping : Record → Body → Reply
reply_keeping r b = record { kept = Some r; body = b }

-- The register is what was recorded.

abbrev pub changed : ℕ → (Register → Register) → Registers → Registers
changed partition change rs = put partition (change (register_of partition rs)) rs

abbrev pub register_after : Registers → Record → Registers
register_after rs (PreparedBy partition epoch preparer) =
    changed partition (λ r. record r { prepared = Some (record { epoch = epoch; preparer = preparer }) }) rs
register_after rs (VotedFor config) = changed config.partition (λ r. record r { votes = r.votes ++ config ∷ [] }) rs
register_after rs (DoneFor config) = changed config.partition (λ r. record r { done = Some config }) rs
register_after rs _ = rs

-- after these records, in their order
abbrev pub registers_after : Registers → List Record → Registers
registers_after rs [] = rs
registers_after rs (r ∷ more) = registers_after (register_after rs r) more

-- What was prepared. Where nothing was, every epoch is above it, and none below.

-- the epoch is above the prepared one
abbrev pub is_above : Option Preparation → Epoch → Bool
is_above None epoch = true
is_above (Some p) epoch = is_older p.epoch epoch

-- the epoch is below the prepared one
abbrev pub is_below : Option Preparation → Epoch → Bool
is_below None epoch = false
is_below (Some p) epoch = is_older epoch p.epoch

-- the epoch is the prepared one, and it was prepared for who asks
abbrev pub is_prepared_for : Option Preparation → Epoch → Who → Bool
is_prepared_for None epoch asker = false
is_prepared_for (Some p) epoch asker = same_epoch p.epoch epoch && same_who p.preparer asker

abbrev pub prepared_epoch : Option Preparation → Epoch
prepared_epoch None = first_epoch
prepared_epoch (Some p) = p.epoch

-- Prepare: an epoch above the prepared one is kept, and answered with what was done; its preparer is answered so again.
unfoldable pub prepare_received : ℕ → Epoch → Who → Register → Reply
prepare_received partition epoch asker r =
    if is_above r.prepared epoch then reply_keeping (PreparedBy partition epoch asker) (body.Prepared partition epoch r.done)
    else if is_prepared_for r.prepared epoch asker then reply (body.Prepared partition epoch r.done)
    else reply (body.NoPrepare partition epoch (prepared_epoch r.prepared))

-- Vote: the first vote of an epoch is kept, and answered from then on; nothing below the prepared epoch is voted for.

abbrev pub vote_in : Epoch → List Config → Option Config
vote_in epoch votes = find (λ vote. same_epoch vote.epoch epoch) votes

abbrev pub vote_settled : Config → Option Config → Reply
vote_settled config (Some first) = reply (body.Voted config.partition config.epoch first)
vote_settled config None = reply_keeping (VotedFor config) (body.Voted config.partition config.epoch config)

unfoldable pub vote_received : Config → Register → Reply
vote_received config r =
    if is_below r.prepared config.epoch then reply (body.NoVote config.partition config.epoch (prepared_epoch r.prepared))
    else vote_settled config (vote_in config.epoch r.votes)

-- DoneAsk: a configuration above the done one is kept, where its epoch is not below the prepared one.

abbrev pub is_newer : Epoch → Option Config → Bool
is_newer epoch None = true
is_newer epoch (Some done) = is_older done.epoch epoch

unfoldable pub done_received : Config → Register → Reply
done_received config r =
    if is_below r.prepared config.epoch then reply (body.NoDone config.partition config.epoch (prepared_epoch r.prepared))
    else if is_newer config.epoch r.done then reply_keeping (DoneFor config) (body.DoneKept config.partition config.epoch)
    else reply (body.DoneKept config.partition config.epoch)

-- the answer to a question; other frames have none
abbrev pub question_answered : Body → Who → Registers → Option Reply
question_answered (body.Prepare partition epoch) asker rs = Some (prepare_received partition epoch asker (register_of partition rs))
question_answered (body.Vote config) asker rs = Some (vote_received config (register_of config.partition rs))
question_answered (body.DoneAsk config) asker rs = Some (done_received config (register_of config.partition rs))
question_answered _ asker rs = None

-- What is recorded changes the register, and nothing else does; then the asker is answered.

abbrev pub replied_with : Who → Registers → Option Record → Body → Acted Registers
replied_with asker rs None b = acted rs (Send asker b ∷ [])
replied_with asker rs (Some r) b = acted (register_after rs r) (Keep r ∷ Send asker b ∷ [])

abbrev pub replied : Who → Registers → Option Reply → Acted Registers
replied asker rs None = still rs
replied asker rs (Some r) = replied_with asker rs r.kept r.body

abbrev pub question_received : Body → Who → Registers → Acted Registers
question_received b asker rs = replied asker rs (question_answered b asker rs)
