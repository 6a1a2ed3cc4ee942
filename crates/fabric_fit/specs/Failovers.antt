-- What runs above the ring at a node, in range: the manager and the replicas.
use Rattle.unit_rules.specs.Steps.{Failover}
use Rattle.fabric_fit.specs.Managers.{ManagedInRange}
use Rattle.fabric_fit.specs.ReplicaStates.{ReplicaStatesInRange}

pub record FailoverInRange (s : Failover) : Type 0 where
  pub managed : ManagedInRange s.managed
  pub states : ReplicaStatesInRange s.states
