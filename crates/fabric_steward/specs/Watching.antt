-- What the policy sees at a reading, before it decides: since when each cause of a heal stands.
use Rattle.std.specs.Prelude.{ℕ, ◌==◌, Bool, true, false, not, ◌&&◌, nat_lt, List, map, Option, Some, None, if◌then◌else◌}
use Rattle.ring_points.specs.declared.unit.Config.{Config}
use Rattle.ring_points.specs.declared.who.Who.{Who}
use Rattle.fabric_steward.specs.declared.roll_call.RollCall.TheVariants.{NotBegun}
use Rattle.fabric_steward.specs.declared.unit_watch.UnitWatch.{UnitWatch}
use Rattle.fabric_steward.specs.Domains.{domains_up, nodes_up}
use Rattle.fabric_steward.specs.Facts.{Facts}
use Rattle.fabric_steward.specs.Policies.{Policy}
use Rattle.fabric_steward.specs.RollCalls.{is_missed, roll_seen}
use Rattle.fabric_steward.specs.Times.{first_pause, since}

-- fewer members are up than there are to be, and there are domains for more
abbrev pub is_few : (replicas domains up : ℕ) → Bool
is_few replicas domains up = nat_lt up replicas && nat_lt up domains

-- the instance of the primary's node that was heard first; another primary has another one
abbrev pub first_heard : (node : ℕ) → (heard before : Option Who) → Option Who
first_heard node heard None = heard
first_heard node heard (Some who) = if who.actor == node then Some who else heard

abbrev pub unit_seen : Facts → (now domains : ℕ) → Option Config → UnitWatch → UnitWatch
unit_seen f now domains None w = record w { down = None; few = None; missed = None }
unit_seen f now domains (Some c) w = record w {
  served_by = first_heard c.primary (f.heard c.primary 0) w.served_by;
  down = since (not (f.is_up c.primary now)) now w.down;
  few = since (is_few w.replicas domains (nodes_up f now c.members)) now w.few;
  roll = roll_seen f now c.members w.roll;
  missed = since (is_missed f c.members (roll_seen f now c.members w.roll)) now w.missed;
}

-- what the policy began is over once nothing is under way
abbrev pub still_changing : Facts → UnitWatch → UnitWatch
still_changing f w = record w { deed = if f.is_changing w.partition then w.deed else None }

abbrev pub unit_observed : Facts → (now domains : ℕ) → UnitWatch → UnitWatch
unit_observed f now domains w = unit_seen f now domains (f.config_of w.partition) (still_changing f w)

-- everything but when it was commanded last
abbrev pub unit_forgotten : (lease : ℕ) → UnitWatch → UnitWatch
unit_forgotten lease w = record w {
  learnt = false;
  missing = false;
  pause = first_pause lease;
  deed = None;
  served_by = None;
  down = None;
  few = None;
  roll = NotBegun;
  missed = None;
}

abbrev pub units_observed : Facts → (now domains lease : ℕ) → (manages : Bool) → List UnitWatch → List UnitWatch
units_observed f now domains lease true ws = map (unit_observed f now domains) ws
units_observed f now domains lease false ws = map (unit_forgotten lease) ws

abbrev pub observed : Facts → (now : ℕ) → Policy → Policy
observed f now s = record s {
  join_pause = if f.routes then first_pause s.lease else s.join_pause;
  manages_since = since (f.manages now) now s.manages_since;
  units = units_observed f now (domains_up f now s.nodes) s.lease (f.manages now) s.units;
}
