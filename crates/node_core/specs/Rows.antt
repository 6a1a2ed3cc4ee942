-- Where the rows above the ring stand in the step of a whole node.
use Rattle.std.specs.Prelude.{ℕ, Bool, true, false, not, ◌&&◌}
use Rattle.join_phases.specs.Phases.{is_left}
use Rattle.ring_rules.specs.declared.input.Input.{Input}
use Rattle.ring_rules.specs.Rings.{Ring, Settings}
use Rattle.ring_rules.specs.Slots.{fence_of, is_past}
use Rattle.world_rules.specs.Nodes.{comes_above}
use Rattle.unit_rules.specs.Deeds.{Acted, still}
use Rattle.unit_rules.specs.Loads.{Site}
use Rattle.unit_rules.specs.Steps.{Failover, failover_step}

-- the row of an input above the ring, where it comes there
abbrev pub row_if : Bool → Site → ℕ → Ring → Failover → Input → Acted Failover
row_if true c now r s i = failover_step c now r s i
row_if false c now r s i = still s

-- a node that has not left, and is not past its fence, still acts
abbrev pub acts_at : Settings → ℕ → Ring → Bool
acts_at c now r = not (is_left r.phase) && not (is_past now (fence_of c.answer r.slots))

-- so an input for what runs above comes there before the ring's own row, which will not make the node leave
abbrev pub comes_first : Settings → ℕ → Ring → Input → Bool
comes_first c now r i = acts_at c now r && comes_above c r i

-- or after it, where the ring let it pass, and the node has not left
abbrev pub comes_later : Bool → Ring → Bool
comes_later comes new = not (is_left new.phase) && comes
