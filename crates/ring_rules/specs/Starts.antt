-- The start of an instance.
use Rattle.std.specs.Prelude.{Bool, true, false, ◌&&◌, List, [], None, ◌==◌}
use Rattle.ring_points.specs.declared.interval.Interval.{Interval}
use Rattle.ring_points.specs.declared.who.Who.{Who}
use Rattle.ring_points.specs.Ranges.{whole_ring}
use Rattle.fabric_terms.specs.declared.config.FabricConfig.{FabricConfig}
use Rattle.fabric_terms.specs.declared.report.Why.TheVariants.{Counters}
use Rattle.join_phases.specs.declared.phases.Phase.{Phase}
use Rattle.join_phases.specs.Phases.{seeking, routing}
use Rattle.token_core.specs.Tokens.{first_token}
use Rattle.ring_rules.specs.Rings.{Ring, Work, no_slots, points_of}
use Rattle.ring_rules.specs.Deeds.{leave}

abbrev pub new_ring : FabricConfig → Who → Phase → List Interval → Ring
new_ring c me phase ranges =
    record {
      me = me;
      phase = phase;
      slots = no_slots;
      next_session = 1;
      accused = [];
      token = first_token ranges;
      routes = record { me = me; points = points_of c.nodes; known = [] };
      target = None;
    }

abbrev pub begun : Ring → Work
begun r = record { ring = r; sent = []; told = [] }

abbrev pub start_first : FabricConfig → Who → Bool → Work
start_first c me true = begun (new_ring c me routing whole_ring)
start_first c me false = begun (new_ring c me seeking [])

abbrev pub start_if : FabricConfig → Who → Bool → Work
start_if c me true = leave Counters (begun (new_ring c me seeking []))
start_if c me false = start_first c me (me.actor == c.first && me.instance == 1)

-- The first node's instance 1 owns the whole ring; every other instance begins with nothing. Where all numbers of
-- instances are spent, the node has left.
unfoldable pub node_started : FabricConfig → Who → Bool → Work
node_started c me spent = start_if c me spent
