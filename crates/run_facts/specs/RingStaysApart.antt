-- The ring does nothing of partitions.
use Rattle.std.specs.Prelude.{ℕ, Bool}
use Rattle.fabric_terms.specs.declared.config.FabricConfig.{FabricConfig}
use Rattle.ring_points.specs.declared.who.Who.{Who}
use Rattle.ring_rules.specs.declared.input.Input.{Input}
use Rattle.ring_rules.specs.Rings.{Ring, Settings}
use Rattle.ring_rules.specs.Starts.{node_started}
use Rattle.ring_rules.specs.Steps.{ring_step}
use Rattle.run_facts.specs.RingApart.{StaysApart}

-- in no step of a node's ring
abbrev pub StepsStayApart : Type 0
StepsStayApart = (set : Settings) (now : ℕ) (i : Input) (r : Ring) → StaysApart (ring_step set now i r)

-- nor at its start
abbrev pub StartsStayApart : Type 0
StartsStayApart = (c : FabricConfig) (me : Who) (spent : Bool) → StaysApart (node_started c me spent)
