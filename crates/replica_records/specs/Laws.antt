-- A node's records of its replicas are what stands.
use Rattle.std.specs.Prelude.{◌≡◌, ℕ, true, List, [], ◌∷◌, ◌++◌, All}
use Rattle.fabric_lemmas.specs.Maps.{rises}
use Rattle.fabric_terms.specs.declared.record.Record.{Record}
use Rattle.fabric_terms.specs.declared.record.Record.TheVariants.{Boot}
use Rattle.ring_rules.specs.declared.input.Input.{Input}
use Rattle.ring_rules.specs.Rings.{Ring}
use Rattle.unit_rules.specs.Deeds.{records_of}
use Rattle.unit_rules.specs.Loads.{Site}
use Rattle.unit_rules.specs.Starts.{states_begun}
use Rattle.unit_rules.specs.Steps.{Failover, failover_begun, failover_step}
use Rattle.replica_records.specs.ReplicaStates.{state_at, begun_again}
use Rattle.replica_records.specs.Kept.{AreKept, IsFit}
use Rattle.replica_records.specs.Named.{named, states_of, KeptAs, FitsFrame}

-- whatever comes to a node, what it records is what its replicas become
abbrev pub StepsAreKept : Type 0
StepsAreKept =
    (c : Site) (now : ℕ) (r : Ring) (s : Failover) (i : Input) (records : List Record) → ((p : ℕ) → IsFit p (state_at p s)) → AreKept records s →
    AreKept (records ++ records_of (failover_step c now r s i).deeds) (failover_step c now r s i).state

-- who starts has the replicas of its instance before, but for roles and what was collected
abbrev pub StartsGoOn : Type 0
StartsGoOn =
    (records : List Record) (s : Failover) → AreKept records s → (p : ℕ) → state_at p (failover_begun records) ≡ begun_again (state_at p s)

-- with the record of its start, the records give what it begins with
abbrev pub StartsAreKept : Type 0
StartsAreKept = (records : List Record) (instance : ℕ) → AreKept (records ++ Boot instance ∷ []) (failover_begun records)

-- it has them by rising partition
abbrev pub StartsRise : Type 0
StartsRise = (records : List Record) → rises (failover_begun records).states ≡ true

-- At each moment the replicas that the records name are those that stand, as a list.

-- before anything is recorded there is none
abbrev pub NothingIsKept : Type 0
NothingIsKept = KeptAs [] (failover_begun [])

-- whatever comes in the ranges of frames, and whatever is commanded or fires
abbrev pub StepsStayKept : Type 0
StepsStayKept =
    (c : Site) (now : ℕ) (r : Ring) (s : Failover) (i : Input) (records : List Record) → FitsFrame i → KeptAs records s →
    KeptAs (records ++ records_of (failover_step c now r s i).deeds) (failover_step c now r s i).state

-- and with the record of a start
abbrev pub StartsStayKept : Type 0
StartsStayKept =
    (records : List Record) (s : Failover) (instance : ℕ) → KeptAs records s → KeptAs (records ++ Boot instance ∷ []) (failover_begun records)

-- so who starts begins with the replicas that are named, each of its partition
abbrev pub ReplicaStatesAreKept : Type 0
ReplicaStatesAreKept =
    (records : List Record) (s : Failover) → KeptAs records s →
    (states_begun records ≡ states_of (named s.states)) × All (λ e. e.1.partition ≡ e.0) (named s.states)

-- and a start that leaves no record of its own keeps what the next one begins with
abbrev pub StartsBeginAgain : Type 0
StartsBeginAgain =
    (records : List Record) (s : Failover) → KeptAs records s → states_begun records ≡ states_of (named (failover_begun records).states)
