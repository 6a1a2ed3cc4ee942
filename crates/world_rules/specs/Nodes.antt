-- A whole node: its ring and what runs above it.
use Rattle.std.specs.Prelude.{ℕ, ◌+◌, Bool, true, false, not, ◌&&◌, List, [], ◌∷◌, ◌++◌, count_by, nat_le, if◌then◌else◌}
use Rattle.ring_points.specs.declared.who.Who.{Who}
use Rattle.ring_points.specs.Whos.{node_instance}
use Rattle.fabric_terms.specs.declared.config.FabricConfig.{FabricConfig}
use Rattle.fabric_terms.specs.declared.record.Record.{Record}
use Rattle.fabric_terms.specs.declared.record.Record.TheVariants.{Boot}
use Rattle.join_phases.specs.Phases.{is_left}
use Rattle.token_core.specs.Tokens.{last_number}
use Rattle.ring_rules.specs.declared.input.Input.{Input}
use Rattle.ring_rules.specs.declared.input.Input.TheVariants as input
use Rattle.ring_rules.specs.Rings.{Settings, Ring, Work, settings_of}
use Rattle.ring_rules.specs.Frames.{passes}
use Rattle.ring_rules.specs.Owns.{own_of_ring, own_after}
use Rattle.ring_rules.specs.Starts.{node_started}
use Rattle.ring_rules.specs.Steps.{ring_step}
use Rattle.world_rules.specs.Uppers.{Upper, Did, idle}

pub record NodeState (a : Upper) : Type 0 where
  pub ring : Ring
  pub above : a.Above

-- Its start, from its kept records.

abbrev pub is_boot : Record → Bool
is_boot (Boot instance) = true
is_boot _ = false

abbrev pub boots_of : List Record → ℕ
boots_of records = count_by is_boot records

-- all numbers of instances are used up
abbrev pub is_spent : List Record → Bool
is_spent records = nat_le last_number (boots_of records)

-- the instance that begins, and the record of it; where all numbers are used up, the last instance again and no record

abbrev pub instance_begun : List Record → ℕ
instance_begun records = if is_spent records then boots_of records else boots_of records + 1

abbrev pub boot_kept : List Record → List Record
boot_kept records = if is_spent records then [] else Boot (instance_begun records) ∷ []

abbrev pub begun_as : (a : Upper) → FabricConfig → Who → List Record → Work → Did (NodeState a)
begun_as a c me records k =
    record {
      state = record { ring = k.ring; above = a.above_begun c me records };
      records = boot_kept records;
      sent = [];
      told = k.told ++ own_of_ring (settings_of c me.actor) k.ring ∷ [];
    }

abbrev pub instance_starts : (a : Upper) → FabricConfig → Who → List Record → Did (NodeState a)
instance_starts a c me records = begun_as a c me records (node_started c me (is_spent records))

unfoldable pub node_begun : (a : Upper) → FabricConfig → ℕ → List Record → Did (NodeState a)
node_begun a c node records = instance_starts a c (node_instance node (instance_begun records)) records

-- Its step: the ring's, then what runs above; what is owned is told last.

-- the input comes to what runs above where the ring lets it pass
abbrev pub comes_above : Settings → Ring → Input → Bool
comes_above c r (input.Frame m) = passes c r m
comes_above c r _ = true

abbrev pub above_if : (a : Upper) → FabricConfig → ℕ → Ring → a.Above → Input → Bool → Did a.Above
above_if a c now r u i true = a.above_step c now r u i
above_if a c now r u i false = idle u

-- it does nothing once the node has left
abbrev pub above_acts : (a : Upper) → FabricConfig → ℕ → Input → NodeState a → Ring → Did a.Above
above_acts a c now i s new = above_if a c now new s.above i (not (is_left new.phase) && comes_above (settings_of c s.ring.me.actor) s.ring i)

abbrev pub both_did : (a : Upper) → FabricConfig → Ring → Work → Did a.Above → Did (NodeState a)
both_did a c old k d =
    record {
      state = record { ring = k.ring; above = d.state };
      records = d.records;
      sent = k.sent ++ d.sent;
      told = k.told ++ d.told ++ own_after (settings_of c old.me.actor) old k.ring;
    }

abbrev pub ring_did : (a : Upper) → FabricConfig → ℕ → Input → NodeState a → Work → Did (NodeState a)
ring_did a c now i s k = both_did a c s.ring k (above_acts a c now i s k.ring)

unfoldable pub node_step : (a : Upper) → FabricConfig → ℕ → Input → NodeState a → Did (NodeState a)
node_step a c now i s = ring_did a c now i s (ring_step (settings_of c s.ring.me.actor) now i s.ring)
