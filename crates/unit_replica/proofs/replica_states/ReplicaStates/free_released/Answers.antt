use Rattle.std.proofs.Common.{◌∙◌, ap, sym}
use Rattle.std.specs.Option.{option_copied_mut}
use Rattle.unit_replica.proofs.Places.{Written, fits, stays_there}
use Rattle.unit_replica.proofs.replica_states.ReplicaStates.free_released.Goals as goal
use Rattle.unit_replica.proofs.replica_states.ReplicaStates.free_released.Goals.{After-free_released}

written : (c : After-free_released) → Written c.in-Some.partition c.self.inside.map.entries c.args.self.now (c.get_mut.follows.lender c.free_released.new.self).entries c.in-Some-get_mut.state.now c.free_released.new.self
written c = record {
  view = c.self.view_is;
  table = c.self.invariant;
  found = sym c.get_mut.ensures.value ∙ ap option_copied_mut c.in-Some-get_mut.is;
  set = (c.get_mut.follows.holds c.free_released.new.self).0;
}

pub invariant_of-self-2 : goal.invariant_of-self-2
invariant_of-self-2 c = fits (written (goal.at.invariant_of-self-2 c).After-free_released)

pub returns : goal.returns
returns c = stays_there (written (goal.at.returns c).After-free_released) c.free_released.ensures
