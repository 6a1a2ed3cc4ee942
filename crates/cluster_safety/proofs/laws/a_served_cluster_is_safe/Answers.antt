use Rattle.cluster_safety.proofs.Safe.{served_cluster_is_safe_lem}
use Rattle.cluster_safety.proofs.laws.a_served_cluster_is_safe.Goals as goal

pub returns : goal.returns
returns c = served_cluster_is_safe_lem
