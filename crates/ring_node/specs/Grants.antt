-- What a node may freeze for a peer.
use Rattle.std.specs.Prelude.{Bool, true, false, not, ◌||◌, List, Option, Some, None}
use Rattle.join_phases.specs.Phases.{is_routing}
use Rattle.ring_points.specs.declared.interval.Interval.{Interval}
use Rattle.ring_points.specs.declared.who.Who.{Who}
use Rattle.ring_points.specs.Ranges.{fits}
use Rattle.ring_points.specs.Sets.{nearer_part_of}
use Rattle.ring_route.specs.Routes.{point_of}
use Rattle.ring_rules.specs.declared.link.Link.{Link}
use Rattle.ring_rules.specs.Links.{has_flight}
use Rattle.ring_rules.specs.Renewals.{near_part}
use Rattle.ring_rules.specs.Rings.{Ring}

abbrev pub fit_part : List Interval → Bool → Option (List Interval)
fit_part part true = Some part
fit_part part false = None

abbrev pub part_unless : Ring → Link → Bool → Option (List Interval)
part_unless r l true = None
part_unless r l false = fit_part (near_part r l) (fits (near_part r l))

-- the nearer part, where the node routes, no flight of the slot stands and it fits
abbrev pub part_for : Ring → Option Link → Option (List Interval)
part_for r None = None
part_for r (Some l) = part_unless r l (has_flight l || not (is_routing r.phase))

-- all that is owned, or the part of it that is nearer to the peer
abbrev pub gift : Bool → Ring → Who → List Interval
gift true r peer = r.token.ranges
gift false r peer = nearer_part_of r.token.ranges (point_of r.me.actor r.routes.points) (point_of peer.actor r.routes.points)
