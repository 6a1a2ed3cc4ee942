-- Which node begins with the whole ring.
use Rattle.std.specs.Prelude.{ℕ, ◌+◌, ◌-◌, ◌^◌, ◌==◌, ◌&&◌, Bool, true, List, length, fold, min, nat_le, nat_lt, Option, Some, None, if◌then◌else◌}
use Rattle.ring_points.specs.declared.unit.Epoch.{Epoch}
use Rattle.ring_points.specs.Epochs.{is_older, same_epoch}
use Rattle.ring_points.specs.Limits.{most_counter}
use Rattle.ring_points.specs.Whos.{arbiter_actor}
use Rattle.replica_core.specs.Replicas.{Replica, first_epoch}
use Rattle.again_choice.specs.declared.candidate.Candidate.{Candidate}
use Rattle.again_choice.specs.declared.folder.Folder.{Folder}
use Rattle.again_choice.specs.declared.folder.Found.{Found}
use Rattle.again_choice.specs.declared.folder.Found.TheVariants.{Read}

abbrev pub later : Epoch → Epoch → Epoch
later a b = if is_older a b then b else a

-- the greatest epoch that these replicas promised
abbrev pub promised_in : List Replica → Epoch
promised_in replicas = fold (λ epoch replica. later epoch replica.promised) first_epoch replicas

abbrev pub entries_with : ℕ → Replica → ℕ
entries_with count replica = min (count + length replica.log) (2 ^ 64 - 1)

-- how many entries they have
abbrev pub entries_in : List Replica → ℕ
entries_in replicas = fold entries_with 0 replicas

-- of a node that has begun and has numbers left
abbrev pub can_begin : Folder → Bool
can_begin f = nat_le f.file.actor (arbiter_actor 0) && (nat_le 1 f.kept.boots && nat_lt f.kept.boots most_counter)

abbrev pub candidate_of : Folder → Candidate
candidate_of f = record {
  node = f.file.actor;
  last = f.kept.boots;
  promised = promised_in f.kept.replicas;
  entries = entries_in f.kept.replicas;
}

-- the greater epoch; of equal ones the more entries; of equal ones the lesser number
abbrev pub beats : Candidate → Candidate → Bool
beats a b =
    if same_epoch a.promised b.promised
    then (if a.entries == b.entries then nat_lt a.node b.node else nat_lt b.entries a.entries)
    else is_older b.promised a.promised

abbrev pub beats_best : Candidate → Option Candidate → Bool
beats_best a None = true
beats_best a (Some b) = beats a b

abbrev pub better : Option Candidate → Found → Option Candidate
better best (Read f) = if can_begin f && beats_best (candidate_of f) best then Some (candidate_of f) else best
better best _ = best

abbrev pub best_of : List Found → Option Candidate
best_of folders = fold better None folders
