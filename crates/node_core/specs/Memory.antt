-- Which steps of a node may want memory: those that store something above the ring, and questions that are answered.
use Rattle.std.specs.Prelude.{ℕ, Bool, true, false, not, ◌&&◌, ◌||◌, length, nat_lt}
use Rattle.fabric_terms.specs.declared.command.Command.{Command}
use Rattle.fabric_terms.specs.declared.command.Command.TheVariants as command
use Rattle.ring_rules.specs.declared.input.Input.{Input}
use Rattle.ring_rules.specs.declared.input.Input.TheVariants as input
use Rattle.ring_rules.specs.Rings.{Ring}
use Rattle.unit_replica.specs.Memory.{is_ready_at, stores}
use Rattle.unit_rules.specs.Deeds.{Acted}
use Rattle.unit_rules.specs.Loads.{Site}
use Rattle.unit_rules.specs.Steps.{Failover, command_row, frame_row}
use Rattle.node_core.specs.Nodes.{Core}
use Rattle.node_core.specs.Rows.{comes_first}
use Rattle.node_core.specs.UnitParts.{is_later}

-- a row stores an entry, makes a replica, or begins a reconfiguration
abbrev pub grows_above : Failover → Acted Failover → Bool
grows_above s a = stores a || nat_lt (length s.states) (length a.state.states) || nat_lt (length s.managed.reconfigs) (length a.state.managed.reconfigs)

-- a question whose answer is a list or a value that is made for it
abbrev pub is_answered : Failover → Command → Bool
is_answered s (command.Resolve partition name) = is_ready_at partition s.states
is_answered s (command.Names partition range) = is_ready_at partition s.states
is_answered s (command.Units range) = true
is_answered s _ = false

-- the row of a command, or of a frame to a replica, stores something or answers a question
abbrev pub row_stores : Site → ℕ → Ring → Failover → Input → Bool
row_stores c now r s input.Fire = false
row_stores c now r s (input.Frame m) = grows_above s (frame_row c now r m.from m.body s)
row_stores c now r s (input.Do d) = is_answered s d || grows_above s (command_row c now r d s)

-- the input comes to such a row; answers to the manager and firings never do
abbrev pub may_store : ℕ → Input → Core → Bool
may_store now i n =
    not (is_later i) && comes_first n.settings now n.state.ring i && row_stores (record { ring = n.settings; domains = n.domains }) now n.state.ring n.state.above i
