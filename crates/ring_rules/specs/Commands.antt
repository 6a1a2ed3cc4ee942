-- What an operator commands: link, part, give, join.
use Rattle.std.specs.Prelude.{ℕ, Bool, true, false, ◌||◌, List, Option, Some, None, is_some}
use Rattle.ring_points.specs.declared.interval.Interval.{Interval}
use Rattle.ring_points.specs.Whos.{node_instance}
use Rattle.fabric_terms.specs.declared.message.Body.TheVariants as body
use Rattle.fabric_terms.specs.declared.report.Verb.TheVariants as verb
use Rattle.fabric_terms.specs.declared.report.Reason.TheVariants as reason
use Rattle.join_phases.specs.Phases.{is_routing}
use Rattle.token_core.specs.Tokens.{frozen}
use Rattle.ring_route.specs.Routes.{point_of}
use Rattle.ring_rules.specs.declared.link.Link.{Link}
use Rattle.ring_rules.specs.Rings.{Settings, Ring, Work, ◌▷◌}
use Rattle.ring_rules.specs.Slots.{slot_at, slot_where, is_bound, may_part, of_node}
use Rattle.ring_rules.specs.Links.{greeting_link, parting_link, has_flight}
use Rattle.ring_rules.specs.Deeds.{on_ring, put_slot, set_token, send, refuse, undo_freeze, say_gone}
use Rattle.ring_rules.specs.Handshakes.{greet}
use Rattle.ring_rules.specs.Renewals.{near_part, may_freeze, owns_none}

-- Link: the node is greeted by this frame version, with this length.
unfoldable pub link_commanded : Settings → ℕ → ℕ → ℕ → ℕ → Work → Work
link_commanded c now node wire len w = greet (greeting_link c now w.ring node wire len) (refuse verb.Link) w

-- Part: the slot gives up its record and what is frozen for it, and says so to the peer.

abbrev pub part_unless : ℕ → Link → Work → Bool → Work
part_unless i l w true = refuse verb.Part reason.Busy w
part_unless i l w false =
    w
    ▷ put_slot i (parting_link l)
    ▷ undo_freeze i
    ▷ say_gone l

abbrev pub part_at : ℕ → Option Link → Work → Work
part_at i None w = w
part_at i (Some l) w = part_unless i l w (has_flight l)

abbrev pub part_seen : Option ℕ → Work → Work
part_seen None w = refuse verb.Part reason.NotLinked w
part_seen (Some i) w = part_at i (slot_at i w.ring.slots) w

unfoldable pub part_commanded : ℕ → Work → Work
part_commanded node w = part_seen (slot_where (of_node may_part node) w.ring.slots) w

-- Give: all that is owned, or the nearer part of it, is frozen for the first link with the node.

abbrev pub part_to_give : Bool → Ring → Link → List Interval
part_to_give true r l = r.token.ranges
part_to_give false r l = near_part r l

abbrev pub give_unless : ℕ → List Interval → Work → Bool → Bool → Bool → Work
give_unless i part w true none fit = refuse verb.Give reason.Busy w
give_unless i part w false true fit = refuse verb.Give reason.Empty w
give_unless i part w false false false = refuse verb.Give reason.TooMany w
give_unless i part w false false true = set_token (frozen w.ring.token part i) w

abbrev pub give_part : ℕ → Link → List Interval → Work → Work
give_part i l part w =
    give_unless i part w (is_some w.ring.token.freeze || has_flight l) (owns_none w.ring.token part) (may_freeze w.ring.token part)

abbrev pub give_at : Bool → ℕ → Option Link → Work → Work
give_at all i None w = w
give_at all i (Some l) w = give_part i l (part_to_give all w.ring l) w

abbrev pub give_seen : Bool → Option ℕ → Work → Work
give_seen all None w = refuse verb.Give reason.NotLinked w
give_seen all (Some i) w = give_at all i (slot_at i w.ring.slots) w

abbrev pub give_if : Bool → ℕ → Work → Bool → Work
give_if all node w false = refuse verb.Give reason.NotRouting w
give_if all node w true = give_seen all (slot_where (of_node is_bound node) w.ring.slots) w

unfoldable pub give_commanded : Bool → ℕ → Work → Work
give_commanded all node w = give_if all node w (is_routing w.ring.phase)

-- A node looks for its place: it asks a member for the holder of its own point.
abbrev pub seek_place : ℕ → Work → Work
seek_place member w =
    send (node_instance member 0) (body.Seek w.ring.me (record { 0 = point_of w.ring.me.actor w.ring.routes.points }) 0) w

-- Join: the member is asked now, and at each firing.

abbrev pub join_unless : ℕ → Work → Bool → Work
join_unless member w true = refuse verb.Join reason.Busy w
join_unless member w false = w ▷ on_ring (λ r. record r { target = Some member }) ▷ seek_place member

unfoldable pub join_commanded : ℕ → Work → Work
join_commanded member w = join_unless member w (is_routing w.ring.phase)
