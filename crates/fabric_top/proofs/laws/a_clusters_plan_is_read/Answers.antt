use Rattle.fabric_top.proofs.ClusterPlans.{read_for_cluster}
use Rattle.fabric_top.proofs.laws.a_clusters_plan_is_read.Goals as goal

pub returns : goal.returns
returns c = read_for_cluster
