-- How a point is found, hop by hop: find, Seek, Found.
use Rattle.std.specs.Prelude.{ℕ, ◌+◌, Bool, true, false, not, ◌&&◌, Option, Some, None, ◌==◌, is_some, nat_lt}
use Rattle.ring_points.specs.declared.point.Point.{Point}
use Rattle.ring_points.specs.declared.who.Who.{Who}
use Rattle.ring_points.specs.Ranges.{in_ranges}
use Rattle.fabric_terms.specs.declared.message.Body.TheVariants as body
use Rattle.fabric_terms.specs.declared.report.Report.TheVariants as report
use Rattle.join_phases.specs.Phases.{is_routing}
use Rattle.ring_route.specs.declared.hop.Hop.{Hop}
use Rattle.ring_route.specs.declared.hop.Hop.TheVariants as hop
use Rattle.ring_route.specs.Routes.{next_hop, point_of}
use Rattle.ring_rules.specs.Rings.{Settings, Ring, Work, hop_limit, ◌▷◌}
use Rattle.ring_rules.specs.Deeds.{on_ring, send, tell}
use Rattle.ring_rules.specs.Handshakes.{greet_plainly}

-- where the search for the point goes on from here
abbrev pub hop_from : Ring → Point → Option ℕ → Hop
hop_from r key skip = next_hop r.routes key.0 (in_ranges key.0 r.token.ranges) skip r.accused

-- Find: the holder is reported, or asked for.

abbrev pub find_by : Point → Hop → Work → Work
find_by key hop.Here w = tell (report.Found key w.ring.me) w
find_by key (hop.To next) w = send next (body.Seek w.ring.me key 1) w
find_by key hop.Nowhere w = tell (report.Nowhere key) w

unfoldable pub find_commanded : Point → Work → Work
find_commanded key w = find_by key (hop_from w.ring key None) w

-- A Seek is answered to its origin, or goes on to a node other than the origin's; at the limit of hops it is dropped
-- unless the point is held here.

abbrev pub seek_on : Who → Point → ℕ → Hop → Bool → Work → Work
seek_on origin key hops hop.Here may_go w = send origin (body.Found key w.ring.me) w
seek_on origin key hops _ false w = w
seek_on origin key hops (hop.To next) true w = send next (body.Seek origin key (hops + 1)) w
seek_on origin key hops hop.Nowhere true w = tell (report.Nowhere key) w

unfoldable pub seek_received : Who → Point → ℕ → Work → Work
seek_received origin key hops w = seek_on origin key hops (hop_from w.ring key (Some origin.actor)) (nat_lt hops hop_limit) w

-- Found: it is reported. The holder of the own point is greeted by a node that looks for its place, and the search is over.

abbrev pub greet_holder : Settings → ℕ → Who → Work → Bool → Work
greet_holder c now holder w false = w
greet_holder c now holder w true = w ▷ on_ring (λ r. record r { target = None }) ▷ greet_plainly c now holder.actor

abbrev pub seeks_own : Ring → Point → Bool
seeks_own r key = key.0 == point_of r.me.actor r.routes.points && not (is_routing r.phase) && is_some r.target

unfoldable pub found_received : Settings → ℕ → Point → Who → Work → Work
found_received c now key holder w = w ▷ tell (report.Found key holder) ▷ (λ v. greet_holder c now holder v (seeks_own w.ring key))
