-- The phases of a node.
use Rattle.std.specs.Prelude.{Bool, true, false}
use Rattle.fabric_terms.specs.declared.report.Why.{Why}
use Rattle.join_phases.specs.declared.phases.Phase.{Phase}
use Rattle.join_phases.specs.declared.phases.Phase.TheVariants as phase

abbrev pub seeking : Phase
seeking = phase.Seeking (record { 0 = tt })

abbrev pub linked : Phase
linked = phase.Linked (record { 0 = tt })

abbrev pub routing : Phase
routing = phase.Routing (record { 0 = tt })

abbrev pub left : Why → Phase
left why = phase.Left (record { why = why })

abbrev pub is_routing : Phase → Bool
is_routing (phase.Routing p) = true
is_routing _ = false

abbrev pub is_linked : Phase → Bool
is_linked (phase.Linked p) = true
is_linked _ = false

abbrev pub is_left : Phase → Bool
is_left (phase.Left p) = true
is_left _ = false

-- a seeking node is bound to a peer
abbrev pub bound_phase : Phase → Phase
bound_phase (phase.Seeking p) = linked
bound_phase other = other

-- a linked node has got ranges
abbrev pub holding_phase : Phase → Phase
holding_phase (phase.Linked p) = routing
holding_phase other = other
