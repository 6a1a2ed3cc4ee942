use Rattle.ring_safety.proofs.ClusterSchedules.{cluster_is_schedule}
use Rattle.ring_safety.proofs.cluster.a_cluster_is_a_schedule.Goals as goal

pub returns : goal.returns
returns g c = cluster_is_schedule g.A.Above.upper g.A.Above.stays
