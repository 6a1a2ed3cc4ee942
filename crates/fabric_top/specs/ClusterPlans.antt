-- What holds of every plan that is read.
use Rattle.std.specs.Prelude.{◌≡◌, ℕ, List, Ok}
use Rattle.cluster_safety.specs.Plans.{IsClusterPlan}
use Rattle.fabric_terms.specs.Sound.{IsSound}
use Rattle.turn_rules.specs.Plans.{Plan}
use Rattle.turn_plans.specs.Plans.{judge_plan}
use Rattle.turn_plans.specs.declared.crew.Crew.TheVariants.{Cluster}

-- The plan that a source defines for a cluster has a sound configuration; its actors are configured ones, nodes rising and
-- then arbitrators, and each command names what its actor may be told of.
abbrev pub ReadsClusterPlans : Type 0
ReadsClusterPlans = (turns : ℕ) (bytes : List ℕ) (plan : Plan) → judge_plan Cluster turns bytes ≡ Ok plan → IsSound plan.config × IsClusterPlan plan
