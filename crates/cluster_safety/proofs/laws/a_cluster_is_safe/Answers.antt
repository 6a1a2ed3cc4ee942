use Rattle.cluster_safety.proofs.Safe.{cluster_is_safe_lem}
use Rattle.cluster_safety.proofs.laws.a_cluster_is_safe.Goals as goal

pub returns : goal.returns
returns c = cluster_is_safe_lem
