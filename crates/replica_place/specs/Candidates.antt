-- What the code keeps of a node.
use Rattle.replica_place.specs.declared.load.NodeLoad.{NodeLoad}
use Rattle.replica_place.specs.declared.candidate.Candidate.{Candidate}

abbrev pub candidate_of : NodeLoad → Candidate
candidate_of n = record { load = n.load; node = n.node }
