-- A whole step of a node: what comes in, and what it leaves.
use Rattle.std.specs.Prelude.{ℕ, Bool, true, false, List, [], ◌∷◌, ◌++◌, if◌then◌else◌}
use Rattle.fabric_terms.specs.declared.config.FabricConfig.{FabricConfig}
use Rattle.join_phases.specs.declared.phases.Phase.{Phase}
use Rattle.join_phases.specs.Phases.{routing, seeking}
use Rattle.ring_node.specs.Nodes.{Node, Step}
use Rattle.ring_points.specs.declared.interval.Interval.{Interval}
use Rattle.ring_points.specs.declared.who.Who.{Who}
use Rattle.ring_points.specs.Ranges.{whole_ring}
use Rattle.ring_rules.specs.declared.input.Input.{Input}
use Rattle.ring_rules.specs.declared.input.Input.TheVariants as input
use Rattle.ring_rules.specs.Owns.{own_after, own_of_ring}
use Rattle.ring_rules.specs.Rings.{Settings, Work, settings_of}
use Rattle.ring_rules.specs.Starts.{node_started, start_first}
use Rattle.ring_rules.specs.Steps.{ring_step}
use Rattle.fabric_terms.specs.Messages.{is_sound}

-- a frame that comes in is in the grammar
abbrev pub is_sound_input : Input → Bool
is_sound_input (input.Frame m) = is_sound m
is_sound_input _ = true

-- the step of the rules, without what is told last
abbrev pub taken : ℕ → Input → Node → Step
taken now i n = record { settings = n.settings; work = ring_step n.settings now i n.ring }

-- what is owned is told last
abbrev pub owned_last : Node → Step → Step
owned_last old s = record s { work = record s.work { told = s.work.told ++ own_after s.settings old.ring s.work.ring } }

abbrev pub acted : ℕ → Input → Node → Step
acted now i n = owned_last n (taken now i n)

-- how an instance that has a number begins: with the whole ring, or with nothing
abbrev pub first_phase : Bool → Phase
first_phase whole = if whole then routing else seeking

abbrev pub first_ranges : Bool → List Interval
first_ranges whole = if whole then whole_ring else []

-- its start, where it has a number; where all numbers are spent, the node has left
abbrev pub started_with : FabricConfig → Who → (whole spent : Bool) → Work
started_with c me whole true = node_started c me true
started_with c me whole false = start_first c me whole

-- a start of an instance, with what is owned told last
abbrev pub own_told : Settings → Work → Step
own_told c w = record { settings = c; work = record w { told = w.told ++ own_of_ring c w.ring ∷ [] } }

abbrev pub started : FabricConfig → Who → Bool → Step
started c me spent = own_told (settings_of c me.actor) (node_started c me spent)

abbrev pub begun : FabricConfig → Who → (whole spent : Bool) → Step
begun c me whole spent = own_told (settings_of c me.actor) (started_with c me whole spent)
