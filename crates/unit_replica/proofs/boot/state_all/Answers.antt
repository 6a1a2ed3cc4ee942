use Rattle.std.proofs.Common.{◌++◌, arith}
use Rattle.unit_replica.specs.Starts.{states_of}
use Rattle.unit_replica.specs.Tables.{ReplicaStates}
use Rattle.unit_replica.proofs.Begun.{one_put}
use Rattle.unit_replica.proofs.boot.state_all.Goals as goal

pub loop-replica-preserved : goal.loop-replica-preserved
loop-replica-preserved c =
    let all : ReplicaStates = states_of c.args.replicas.now.items ++ c.args.map.now.entries in
    record {
      moved = one_put c.in-Some.replica c.loop-replica.replicas.items c.pop.new.self.items c.loop-replica.map.entries c.state_one.new.map.entries all
          c.requires.rising c.loop-replica.invariant.moved c.in-Some.ensures.items c.in_default-state_one.ensures.replica_put;
      room = omega (arith, c.loop-replica.invariant.room, c.in-Some.ensures.len, c.pop.ensures.capacity, c.state_one.ensures.room);
    }
