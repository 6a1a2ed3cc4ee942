-- How an instance begins that may have no number: where all numbers are spent, it has left.
use Rattle.std.specs.Prelude.{Bool, false, List, [], ◌∷◌, None, if◌then◌else◌}
use Rattle.fabric_terms.specs.declared.report.Report.{Report}
use Rattle.fabric_terms.specs.declared.report.Report.TheVariants.{LeftRing, Own}
use Rattle.fabric_terms.specs.declared.report.Why.TheVariants.{Counters}
use Rattle.join_phases.specs.declared.phases.Phase.{Phase}
use Rattle.join_phases.specs.Phases.{left}
use Rattle.link_core.specs.Calls.{no_links}
use Rattle.ring_points.specs.Whos.{node_instance}
use Rattle.ring_points.specs.declared.interval.Interval.{Interval}
use Rattle.ring_route.specs.Entries.{no_routes}
use Rattle.token_core.specs.Tokens.{first_token}
use Rattle.ring_node.specs.Nodes.{Node, node_of}
use Rattle.ring_node.specs.Steps.{first_phase, first_ranges}

abbrev pub begun_phase : (whole spent : Bool) → Phase
begun_phase whole spent = if spent then left Counters else first_phase whole

abbrev pub begun_ranges : (whole spent : Bool) → List Interval
begun_ranges whole spent = if spent then [] else first_ranges whole

-- what it tells, by what it owns then
abbrev pub begun_told : (spent : Bool) → List Interval → List Report
begun_told spent ranges = if spent then LeftRing Counters ∷ Own ranges None ∷ [] else Own ranges None ∷ []

-- A node of no cluster, which has not begun: it is no actor's, each number that it goes by is 0, and it owns nothing.
abbrev pub unbegun : Node
unbegun =
    let nobody = node_instance 0 0 in
    node_of (no_links nobody 0 0 0 (record { d = 0; grain = 0 }) 0 0) (first_token []) (no_routes nobody []) (first_phase false) None 0
