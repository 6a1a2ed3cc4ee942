-- How a node leaves: it keeps its partitions a majority, moves its primaries, gives its points away, and parts its links.
use Rattle.std.specs.Prelude.{ℕ, ◌/◌, ◌==◌, min, Bool, false, not, ◌&&◌, ◌||◌, nat_le, List, [], ◌∷◌, length, map, find, count_by, option_map, option_and_then, Option, Some, None, is_some, if◌then◌else◌}
use Rattle.std.specs.List.{list_any}
use Rattle.ring_points.specs.Distances.{ahead_of}
use Rattle.ring_points.specs.declared.unit.Config.{Config}
use Rattle.fabric_terms.specs.declared.command.Command.TheVariants as command
use Rattle.fabric_steward.specs.declared.leaving.Leaving.{Leaving}
use Rattle.fabric_steward.specs.declared.leaving.Leaving.TheVariants.{Place, Swap, Give, Part, Rest, Done}
use Rattle.fabric_steward.specs.declared.leaving.Parting.{Parting}
use Rattle.fabric_steward.specs.declared.leaving.Parting.TheVariants.{Say, Wait, Gone}
use Rattle.fabric_steward.specs.declared.node_watch.NodeWatch.{NodeWatch}
use Rattle.fabric_steward.specs.declared.unit_watch.UnitWatch.{UnitWatch}
use Rattle.fabric_steward.specs.Domains.{domains_up}
use Rattle.fabric_steward.specs.Facts.{Facts}
use Rattle.fabric_steward.specs.Links.{Links}
use Rattle.fabric_steward.specs.Policies.{Policy}
use Rattle.fabric_steward.specs.Rules.{count_for, first_some}
use Rattle.fabric_steward.specs.Times.{first_pause, is_over, later}

pub record Plan : Type 0 where
  -- this node, its point, the configured lease, and when it was told to leave
  pub me : ℕ
  pub point : ℕ
  pub lease : ℕ
  pub begun : ℕ
  -- when it gave its points last
  pub gave : Option ℕ
  -- the configured nodes, with the reading at which the link was parted last
  pub nodes : List NodeWatch
  -- the declared partitions, with the reading of the last command
  pub units : List UnitWatch

abbrev pub point_of : (me : ℕ) → List NodeWatch → ℕ
point_of me [] = 0
point_of me (n ∷ ns) = if n.node == me then n.point.0 else point_of me ns

abbrev pub node_unasked : NodeWatch → NodeWatch
node_unasked n = record n { asked = None }

-- the policy stops, and the plan begins
abbrev pub departure_of : Policy → (now : ℕ) → Plan
departure_of s now = record {
  me = s.me;
  point = point_of s.me s.nodes;
  lease = s.lease;
  begun = now;
  gave = None;
  nodes = map node_unasked s.nodes;
  units = s.units;
}

-- The first step: the partitions keep a majority, and the primaries move

-- nothing of the partition is under way, and its pause is over
abbrev pub is_ready : Facts → (now : ℕ) → Plan → UnitWatch → Bool
is_ready f now s w = not (f.is_changing w.partition) && is_over now (first_pause s.lease) w.commanded

-- how many of the other members are up
abbrev pub others_up : Facts → (now me : ℕ) → List ℕ → ℕ
others_up f now me members = count_by (λ n. not (n == me) && f.is_up n now) members

-- this node is a member, and without it no majority of the members is up
abbrev pub loses_in : Facts → (now me : ℕ) → List ℕ → Bool
loses_in f now me members =
    list_any (λ n. n == me) members && nat_le (others_up f now me members) (length members / 2)

abbrev pub loses_by : Facts → (now me : ℕ) → Option Config → Bool
loses_by f now me None = false
loses_by f now me (Some c) = loses_in f now me c.members

-- so many members have a majority without any one of them
abbrev pub least_spared : ℕ
least_spared = 3

-- A placement can't leave a node out that is up. But one of three members that are up keeps a majority without this node.
abbrev pub is_to_place : Facts → (now domains : ℕ) → Plan → UnitWatch → Bool
is_to_place f now domains s w =
    nat_le least_spared (count_for domains w) && loses_by f now s.me (f.config_of w.partition)

abbrev pub is_ready_to_place : Facts → (now domains : ℕ) → Plan → UnitWatch → Bool
is_ready_to_place f now domains s w = is_to_place f now domains s w && is_ready f now s w

abbrev pub place_now : Facts → (now domains : ℕ) → Plan → Option Leaving
place_now f now domains s =
    option_map (λ w. Place w.partition (count_for domains w)) (find (is_ready_to_place f now domains s) s.units)

abbrev pub least_with : ℕ → Option ℕ → ℕ
least_with node None = node
least_with node (Some other) = min node other

-- the least other node of these that is up
abbrev pub least_up : Facts → (now me : ℕ) → List ℕ → Option ℕ
least_up f now me [] = None
least_up f now me (n ∷ ns) =
    if not (n == me) && f.is_up n now then Some (least_with n (least_up f now me ns)) else least_up f now me ns

-- to whom the partition is to move, if this node is its primary
abbrev pub heir_by : Facts → (now me : ℕ) → Option Config → Option ℕ
heir_by f now me None = None
heir_by f now me (Some c) = if c.primary == me then least_up f now me c.members else None

abbrev pub heir_of : Facts → (now : ℕ) → Plan → UnitWatch → Option ℕ
heir_of f now s w = heir_by f now s.me (f.config_of w.partition)

abbrev pub is_to_move : Facts → (now : ℕ) → Plan → UnitWatch → Bool
is_to_move f now s w = is_some (heir_of f now s w)

abbrev pub is_to_swap : Facts → (now : ℕ) → Plan → UnitWatch → Bool
is_to_swap f now s w = is_to_move f now s w && is_ready f now s w

abbrev pub rests : Bool → Option Leaving
rests waits = if waits then Some Rest else None

abbrev pub swap_now : Facts → (now : ℕ) → Plan → Option Leaving
swap_now f now s = option_and_then (λ w. option_map (Swap w.partition) (heir_of f now s w)) (find (is_to_swap f now s) s.units)

-- it waits for what is to be placed or moved
abbrev pub units_rest : Facts → (now domains : ℕ) → Plan → Option Leaving
units_rest f now domains s =
    rests (list_any (is_to_place f now domains s) s.units || list_any (is_to_move f now s) s.units)

-- while the node manages, and for half a lease at most
abbrev pub unit_step : Facts → (now domains : ℕ) → Plan → Option Leaving
unit_step f now domains s =
    if f.manages now && not (is_over now (s.lease / 2) (Some s.begun))
    then first_some (place_now f now domains s ∷ swap_now f now s ∷ units_rest f now domains s ∷ [])
    else None

-- The second step: the points go to the nearest node upwards on the ring

abbrev pub nearer_of : (point : ℕ) → NodeWatch → Option NodeWatch → NodeWatch
nearer_of point n None = n
nearer_of point n (Some other) = if nat_le (ahead_of n.point.0 point) (ahead_of other.point.0 point) then n else other

-- the nearest other node of these with a bound link
abbrev pub nearest_bound : Links → (me point : ℕ) → List NodeWatch → Option NodeWatch
nearest_bound l me point [] = None
nearest_bound l me point (n ∷ ns) =
    if not (n.node == me) && l.is_bound n.node
    then Some (nearer_of point n (nearest_bound l me point ns))
    else nearest_bound l me point ns

abbrev pub give_to : Links → (now : ℕ) → Plan → NodeWatch → Leaving
give_to l now s n = if l.owns && is_over now (first_pause s.lease) s.gave then Give n.node else Rest

-- until it owns nothing and no flight is out, while there is such a node
abbrev pub give_step : Links → (now : ℕ) → Plan → Option Leaving
give_step l now s =
    if l.owns || l.is_giving then option_map (give_to l now s) (nearest_bound l s.me s.point s.nodes) else None

-- The third step: the links are parted

abbrev pub is_linked : Links → Plan → NodeWatch → Bool
is_linked l s n = not (n.node == s.me) && l.is_active n.node

abbrev pub is_to_part : Links → (now : ℕ) → Plan → NodeWatch → Bool
is_to_part l now s n = is_linked l s n && is_over now (first_pause s.lease) n.asked

abbrev pub part_step : Links → (now : ℕ) → Plan → Option Leaving
part_step l now s = first_some (
    option_map (λ n. Part n.node) (find (is_to_part l now s) s.nodes) ∷
    rests (list_any (is_linked l s) s.nodes) ∷ [])

-- a lease after it was told to leave it is gone, whatever is left
abbrev pub end_step : (now : ℕ) → Plan → Option Leaving
end_step now s = if is_over now s.lease (Some s.begun) then Some Done else None

abbrev pub or_done : Option Leaving → Leaving
or_done None = Done
or_done (Some next) = next

-- the steps in their order; when none is left the node is gone
abbrev pub leaving : Facts → Links → (now : ℕ) → Plan → Leaving
leaving f l now s = or_done (first_some (
    end_step now s ∷
    unit_step f now (domains_up f now s.nodes) s ∷
    give_step l now s ∷
    part_step l now s ∷ []))

-- it looks again a pause later, or when it is gone
abbrev pub until : (now : ℕ) → Plan → ℕ
until now s = min (later now (first_pause s.lease)) (later s.begun s.lease)

abbrev pub parting_by : (now : ℕ) → Plan → Leaving → Parting
parting_by now s (Place partition count) = Say (command.Heal partition count)
parting_by now s (Swap partition node) = Say (command.Swap partition node)
parting_by now s (Give node) = Say (command.GiveAll node)
parting_by now s (Part node) = Say (command.Part node)
parting_by now s Rest = Wait (until now s)
parting_by now s Done = Gone

abbrev pub parting : Facts → Links → (now : ℕ) → Plan → Parting
parting f l now s = parting_by now s (leaving f l now s)

-- What it remembers of a command

abbrev pub unit_moved : (partition now : ℕ) → UnitWatch → UnitWatch
unit_moved partition now w = if w.partition == partition then record w { commanded = Some now } else w

abbrev pub node_parted : (node now : ℕ) → NodeWatch → NodeWatch
node_parted node now n = if n.node == node then record n { asked = Some now } else n

abbrev pub left_by : (now : ℕ) → Leaving → Plan → Plan
left_by now (Place partition count) s = record s { units = map (unit_moved partition now) s.units }
left_by now (Swap partition node) s = record s { units = map (unit_moved partition now) s.units }
left_by now (Give node) s = record s { gave = Some now }
left_by now (Part node) s = record s { nodes = map (node_parted node now) s.nodes }
left_by now Rest s = s
left_by now Done s = s

abbrev pub left : Facts → Links → (now : ℕ) → Plan → Plan
left f l now s = left_by now (leaving f l now s) s
