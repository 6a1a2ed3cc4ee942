-- What contracts see of a replica.
use Rattle.replica_core.specs.declared.replica.Replica.TheInside.{Inside}
use Rattle.replica_core.specs.Replicas.{Replica}

abbrev pub seen : Inside → Replica
seen a = record { partition = a.partition; promised = a.promised; at = a.at; log = a.log.items; role = a.role; collected = a.collected.items }
