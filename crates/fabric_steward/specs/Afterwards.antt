-- What the policy remembers once it has given a command.
use Rattle.std.specs.Prelude.{ℕ, ◌+◌, ◌==◌, nat_lt, length, map, Option, Some, None, option_map, if◌then◌else◌}
use Rattle.ring_points.specs.declared.point.Point.{Point}
use Rattle.fabric_terms.specs.declared.command.Command.{Command}
use Rattle.fabric_steward.specs.declared.advice.Advice.{Advice}
use Rattle.fabric_steward.specs.declared.advice.Advice.TheVariants.{Join, Look, Greet, LookForManager, Create, Learn, Heal}
use Rattle.fabric_steward.specs.declared.advice.Deed.{Deed}
use Rattle.fabric_steward.specs.declared.advice.Deed.TheVariants as deed
use Rattle.fabric_steward.specs.declared.node_watch.NodeWatch.{NodeWatch}
use Rattle.fabric_steward.specs.declared.unit_watch.UnitWatch.{UnitWatch}
use Rattle.fabric_steward.specs.Facts.{Facts}
use Rattle.fabric_steward.specs.Policies.{Policy}
use Rattle.fabric_steward.specs.Rules.{advice, command_of}
use Rattle.fabric_steward.specs.Times.{doubled, later}
use Rattle.fabric_steward.specs.Watching.{observed}

-- the next place in the rotation
abbrev pub next_turn : (turn count : ℕ) → ℕ
next_turn turn count = if nat_lt (turn + 1) count then turn + 1 else 0

-- the next node comes after the pause, which doubles
abbrev pub joined : (now : ℕ) → Policy → Policy
joined now s = record s {
  turn = next_turn s.turn (length s.joins);
  join_due = later now s.join_pause;
  join_pause = doubled s.lease s.join_pause;
}

abbrev pub node_asked : Point → (now : ℕ) → NodeWatch → NodeWatch
node_asked point now n = if n.point.0 == point.0 then record n { asked = Some now } else n

abbrev pub node_greeted : (node now : ℕ) → NodeWatch → NodeWatch
node_greeted node now n = if n.node == node then record n { greeted = Some now } else n

abbrev pub unit_commanded : (partition : ℕ) → Deed → (now : ℕ) → UnitWatch → UnitWatch
unit_commanded partition deed now w =
    if w.partition == partition then record w { commanded = Some now; deed = Some deed } else w

abbrev pub commanded : (partition : ℕ) → Deed → (now : ℕ) → Policy → Policy
commanded partition deed now s = record s { units = map (unit_commanded partition deed now) s.units }

abbrev pub followed : Advice → (now : ℕ) → Policy → Policy
followed (Join node) now s = joined now s
followed (Look point) now s = record s { nodes = map (node_asked point now) s.nodes }
followed (Greet node) now s = record s { nodes = map (node_greeted node now) s.nodes }
followed LookForManager now s = record s { manager_asked = Some now }
followed (Create partition count) now s = commanded partition deed.Create now s
followed (Learn partition count) now s = commanded partition deed.Learn now s
followed (Heal partition count) now s = commanded partition deed.Heal now s

abbrev pub after : Option Advice → (now : ℕ) → Policy → Policy
after None now s = s
after (Some a) now s = followed a now s

-- the policy at a reading: it looks, and then the first rule that applies gives the command

abbrev pub command_given : Facts → (now : ℕ) → Policy → Option Command
command_given f now s = option_map command_of (advice f now (observed f now s))

abbrev pub advised : Facts → (now : ℕ) → Policy → Policy
advised f now s = after (advice f now (observed f now s)) now (observed f now s)
