-- What a source defines for a cluster is a cluster's plan.
use Rattle.std.proofs.Common.{◌≡◌, ℕ, suc, Bool, true, false, cond, List, [], ◌∷◌, ◌++◌, length, Some, Result, Ok, Err, refl, subst}
use Rattle.std.specs.Prelude.{All, nat_lt, slice_get}
use Rattle.std.proofs.lemmas.List.Elements.{All-get_or, All-nil}
use Rattle.std.proofs.lemmas.Option.{get_or_from_slice_get, slice_get_within}
use Rattle.world_rules.specs.Starts.{first_whole}
use Rattle.cluster_safety.specs.Plans.{IsClusterPlan}
use Rattle.fabric_config.specs.Config.{config_of_line, lacks_address}
use Rattle.fabric_config.specs.declared.error.ConfigError.{ConfigError}
use Rattle.fabric_config.specs.declared.error.ConfigError.TheVariants.{Missing}
use Rattle.fabric_config.specs.declared.field.Field.{Field}
use Rattle.fabric_config.proofs.Soundness.{line_sound}
use Rattle.fabric_status.specs.declared.status.Refusal.{Refusal}
use Rattle.fabric_status.specs.declared.status.Refusal.TheVariants.{BadConfig, NoSuch}
use Rattle.fabric_terms.specs.Sound.{IsSound}
use Rattle.fabric_terms.specs.declared.config.FabricConfig.{FabricConfig}
use Rattle.ring_points.specs.Limits.{most_arbiters, most_node_number}
use Rattle.ring_points.specs.Whos.{arbiter_actor}
use Rattle.line_format.specs.Lines.{lines_of}
use Rattle.source_lines.specs.Lines.{most_first_line}
use Rattle.turn_rules.specs.Plans.{Plan}
use Rattle.turn_rules.specs.declared.order.Order.{Order}
use Rattle.turn_plans.specs.Crews.{arbiters_to, endpoints_of, is_crew, nodes_to}
use Rattle.fabric_top.specs.ClusterPlans.{ReadsClusterPlans}
use Rattle.turn_plans.specs.Plans.{config_for, config_from, judge_first, judge_from, judge_lines, judge_plan, judge_rest, plan_of, plan_with, unless_missing}
use Rattle.turn_plans.specs.declared.crew.Crew.{Crew}
use Rattle.turn_plans.specs.declared.crew.Crew.TheVariants.{Cluster}
use Rattle.fabric_top.proofs.ClusterOrders.{Names, all_name, among}
use Rattle.fabric_top.proofs.ClusterActors.{IsOf, Stretch, cluster_rises}

all_at : {X : Type 0} (P : X → Type 0) (xs : List X) → All P xs → (k : ℕ) (x : X) → slice_get xs k ≡ Some x → P x
all_at P xs all k x here = subst P (get_or_from_slice_get xs k x x here) (All-get_or P xs k x (slice_get_within xs k x here) all)

-- The configuration is sound.

not_missing : (crew : Crew) (c d : FabricConfig) → unless_missing crew c ≡ Ok d → c ≡ d
not_missing crew c d is = by_address (lacks_address c) is
  where
    by_crew : (b : Bool) → cond b (Ok c) (Err (NoSuch 1)) ≡ Ok d → c ≡ d
    by_crew true same = cc
    by_crew false same = cc

    by_address : (b : Bool) → cond b (Err (BadConfig (Missing Field.At))) (cond (is_crew c crew) (Ok c) (Err (NoSuch 1))) ≡ Ok d → c ≡ d
    by_address true same = cc
    by_address false same = by_crew (is_crew c crew) same

from_sound : (crew : Crew) (line : List ℕ) (r : Result FabricConfig ConfigError) (d : FabricConfig) → config_of_line line ≡ r → config_from crew r ≡ Ok d → IsSound d
from_sound crew line (Ok c) d read is = subst IsSound (not_missing crew c d is) (line_sound line c read)
from_sound crew line (Err e) d read is = cc

config_sound : (crew : Crew) (line : List ℕ) (d : FabricConfig) → config_for crew line ≡ Ok d → IsSound d
unfolding config_for
config_sound crew line d is = from_sound crew line (config_of_line line) d refl is

-- The plan of a sound configuration.

abbrev IsRead : Plan → Type 0
IsRead plan = IsSound plan.config × IsClusterPlan plan

with_orders : (c : FabricConfig) (turns : ℕ) (orders : List Order) → IsSound c → All (Names c (endpoints_of c Cluster)) orders →
    IsRead (record { config = c; whole = first_whole c; actors = endpoints_of c Cluster; orders = orders; turns = turns })
with_orders c turns orders sound named =
    let stretch : Stretch c 0 (arbiter_actor (suc most_arbiters)) (nodes_to c most_node_number ++ arbiters_to c most_arbiters) = cluster_rises c sound in (
      sound,
      record {
        rise = stretch.rise;
        configured = all_at (IsOf c) (nodes_to c most_node_number ++ arbiters_to c most_arbiters) stretch.known;
        whole = refl;
        named = λ k o e here at. all_at (Names c (endpoints_of c Cluster)) orders named k o here e at;
      },
    )

plan_read : (c : FabricConfig) (turns : ℕ) (ls : List (List ℕ)) (plan : Plan) → IsSound c → plan_of Cluster turns c ls ≡ Ok plan → IsRead plan
plan_read c turns ls plan sound is = by_orders (judge_from Cluster c (endpoints_of c Cluster) turns [] 1 2 ls) refl is
  where
    by_orders : (r : Result (List Order) Refusal) → judge_from Cluster c (endpoints_of c Cluster) turns [] 1 2 ls ≡ r → plan_with c (endpoints_of c Cluster) turns r ≡ Ok plan → IsRead plan
    by_orders (Err refusal) judged same = cc
    by_orders (Ok orders) judged same =
        let is_plan : record { config = c; whole = first_whole c; actors = endpoints_of c Cluster; orders = orders; turns = turns } ≡ plan = cc in
        subst IsRead is_plan
        (with_orders c turns orders sound
        (all_name c (endpoints_of c Cluster) (λ node there. among c node sound there) Cluster turns [] 1 2 ls orders (All-nil (Names c (endpoints_of c Cluster))) judged))

rest_read : (turns : ℕ) (l : List ℕ) (ls : List (List ℕ)) (r : Result FabricConfig Refusal) (plan : Plan) → config_for Cluster l ≡ r → judge_rest Cluster turns ls r ≡ Ok plan → IsRead plan
rest_read turns l ls (Ok c) plan read is = plan_read c turns ls plan (config_sound Cluster l c read) is
rest_read turns l ls (Err refusal) plan read is = cc

first_read : (turns : ℕ) (l : List ℕ) (ls : List (List ℕ)) (large : Bool) (plan : Plan) → judge_first Cluster turns l ls large ≡ Ok plan → IsRead plan
first_read turns l ls true plan is = cc
first_read turns l ls false plan is = rest_read turns l ls (config_for Cluster l) plan refl is

lines_read : (turns : ℕ) (ls : List (List ℕ)) (plan : Plan) → judge_lines Cluster turns ls ≡ Ok plan → IsRead plan
lines_read turns [] plan is = cc
lines_read turns (l ∷ ls) plan is = first_read turns l ls (nat_lt most_first_line (length l)) plan is

pub read_for_cluster : ReadsClusterPlans
unfolding judge_plan
read_for_cluster turns bytes plan is = lines_read turns (lines_of bytes) plan is
