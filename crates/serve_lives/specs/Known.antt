-- What the policy sees of a node.
use Rattle.std.specs.Prelude.{Bool, true, false, not, ◌&&◌, Option, Some, None, is_some}
use Rattle.std.specs.List.{list_any}
use Rattle.fabric_lemmas.specs.Maps.{at}
use Rattle.failover_units.specs.Units.{unit_of}
use Rattle.fabric_steward.specs.Facts.{Facts}
use Rattle.fabric_steward.specs.Links.{Links}
use Rattle.join_phases.specs.Phases.{is_routing}
use Rattle.node_core.specs.Nodes.{Core}
use Rattle.ring_route.specs.Routes.{up_of}
use Rattle.ring_rules.specs.Links.{has_flight}
use Rattle.ring_rules.specs.Owns.{holds_point}
use Rattle.ring_rules.specs.Slots.{is_bound, of_node}
use Rattle.ring_rules.specs.Up.{is_up, long_ago}
use Rattle.ring_rules.specs.declared.link.Link.{Link}
use Rattle.ring_rules.specs.declared.link.LinkState.{LinkState}
use Rattle.ring_rules.specs.declared.link.LinkState.TheVariants as state
use Rattle.token_core.specs.Calls.{is_empty}

abbrev pub facts_of : Core → Facts
facts_of n = record {
  routes = is_routing n.state.ring.phase;
  manages = λ now. is_routing n.state.ring.phase && holds_point n.settings now 0 n.state.ring;
  is_up = λ node now. is_up (long_ago now n.settings.lease) n.state.ring node;
  heard = λ node since. up_of n.state.ring.routes node since;
  config_of = λ partition. (unit_of partition n.state.above.managed.units).config;
  is_changing = λ partition. is_some (at partition n.state.above.managed.reconfigs);
}

-- an active link
abbrev pub stands : LinkState → Bool
stands state.Offered = true
stands state.Bound = true
stands state.Parting = true
stands _ = false

-- a flight to the peer of the slot is out
abbrev pub gives_in : Option Link → Bool
gives_in None = false
gives_in (Some l) = has_flight l

abbrev pub links_of : Core → Links
links_of n = record {
  owns = not (is_empty n.state.ring.token.ranges);
  is_giving = list_any gives_in n.state.ring.slots;
  is_bound = λ node. list_any (of_node is_bound node) n.state.ring.slots;
  is_active = λ node. list_any (of_node stands node) n.state.ring.slots;
}
