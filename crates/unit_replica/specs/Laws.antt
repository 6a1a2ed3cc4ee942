-- The replicas with which a node begins are those of its records.
use Rattle.std.specs.Prelude.{◌≡◌, true, List, []}
use Rattle.std.specs.Map.{values_of}
use Rattle.fabric_lemmas.specs.Maps.{rises}
use Rattle.fabric_terms.specs.declared.record.Record.{Record}
use Rattle.unit_rules.specs.Starts.{replicas_after_all, states_begun}
use Rattle.unit_replica.specs.Starts.{replicas_in, states_again, states_from, states_of}
use Rattle.unit_replica.specs.Tables.{ReplicaStates}

-- a node that takes the replicas to which its records amount begins with the replica states of the rules
pub record BeginsAs (records : List Record) : Type 0 where
  pub rises : rises (states_of (values_of (replicas_after_all [] records))) ≡ true
  pub begun : states_from (values_of (replicas_after_all [] records)) ≡ states_begun records

abbrev pub StartsAreOfRecords : Type 0
StartsAreOfRecords = (records : List Record) → BeginsAs records

-- so does one that takes what a stop gave, where nothing but the records is left of the instance
pub record BeginsAgain (records : List Record) (states : ReplicaStates) : Type 0 where
  pub rises : rises (states_of (replicas_in (states_again states))) ≡ true
  pub begun : states_from (replicas_in (states_again states)) ≡ states_begun records

abbrev pub StopsAreTaken : Type 0
StopsAreTaken = (records : List Record) (states : ReplicaStates) → states_again states ≡ states_begun records → BeginsAgain records states
