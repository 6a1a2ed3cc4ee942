-- What records amount to.
use Rattle.std.specs.Prelude.{◌≡◌, ℕ, ◌+◌, Bool, true, false, List, [], ◌∷◌, ◌++◌, filter, if◌then◌else◌}
use Rattle.std.specs.Map.{values_of}
use Rattle.fabric_terms.specs.declared.record.Record.{Record}
use Rattle.fabric_terms.specs.declared.record.Record.TheVariants.{Boot, AccusedBy, PreparedBy, VotedFor, DoneFor, ClaimedBy}
use Rattle.world_rules.specs.Nodes.{boots_of}
use Rattle.unit_rules.specs.Starts.{Replicas, replicas_after, replicas_after_all}
use Rattle.keep_log.specs.declared.kept.Kept.{Kept}

-- an arbitrator's records; all others are a node's
abbrev pub is_arbiters : Record → Bool
is_arbiters (AccusedBy victim first) = true
is_arbiters (PreparedBy partition epoch preparer) = true
is_arbiters (VotedFor config) = true
is_arbiters (DoneFor config) = true
is_arbiters (ClaimedBy victim round claimer) = true
is_arbiters _ = false

-- how many instances of a node have begun, the records of an arbitrator, and the replicas of a node by partition
pub record Amount : Type 0 where
  pub boots : ℕ
  pub arbiter : List Record
  pub replicas : Replicas

abbrev pub nothing : Amount
nothing = record { boots = 0; arbiter = []; replicas = [] }

abbrev pub boots_with : ℕ → Record → ℕ
boots_with boots (Boot instance) = boots + 1
boots_with boots _ = boots

abbrev pub arbiter_with : List Record → Record → List Record
arbiter_with before r = if is_arbiters r then before ++ r ∷ [] else before

-- with a record more
abbrev pub with_record : Amount → Record → Amount
with_record a r = record { boots = boots_with a.boots r; arbiter = arbiter_with a.arbiter r; replicas = replicas_after a.replicas r }

-- with these records, in their order
abbrev pub with_records : Amount → List Record → Amount
with_records a [] = a
with_records a (r ∷ rs) = with_records (with_record a r) rs

-- what is kept is what these records amount to
pub record Holds (records : List Record) (kept : Kept) : Type 0 where
  pub boots : kept.boots ≡ boots_of records
  pub arbiter : kept.arbiter ≡ filter is_arbiters records
  pub replicas : kept.replicas ≡ values_of (replicas_after_all [] records)
