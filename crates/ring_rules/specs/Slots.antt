-- Slots of a table: which one is meant, and what its state says.
use Rattle.std.specs.Prelude.{ℕ, ◌+◌, Bool, true, false, ◌&&◌, [], ◌∷◌, Option, Some, None, ◌==◌, min, nat_le, slice_index_or}
use Rattle.std.specs.List.{position_from}
use Rattle.ring_points.specs.declared.who.Who.{Who}
use Rattle.ring_points.specs.Whos.{same_who}
use Rattle.ring_rules.specs.declared.link.Link.{Link}
use Rattle.ring_rules.specs.declared.link.LinkState.{LinkState}
use Rattle.ring_rules.specs.declared.link.LinkState.TheVariants.{Hello, Offered, Bound, Parting, Accused, Discharged, Heir}
use Rattle.ring_rules.specs.Rings.{Slots}

abbrev pub slot_at : ℕ → Slots → Option Link
slot_at i slots = slice_index_or slots i None

-- the first slot that passes
abbrev pub slot_where : (Option Link → Bool) → Slots → Option ℕ
slot_where test slots = position_from test 0 slots

abbrev pub is_hello : LinkState → Bool
is_hello Hello = true
is_hello _ = false

abbrev pub is_bound : LinkState → Bool
is_bound Bound = true
is_bound _ = false

-- a slot that is bound, or was and is not discharged: its lease counts for the fence, and it must acknowledge a freeze
abbrev pub guards : LinkState → Bool
guards Offered = true
guards Bound = true
guards Parting = true
guards Accused = true
guards Hello = false
guards Discharged = false
guards Heir = false

abbrev pub may_part : LinkState → Bool
may_part Offered = true
may_part Bound = true
may_part _ = false

-- another link with the node is not begun beside this one
abbrev pub bars_link : LinkState → Bool
bars_link Discharged = false
bars_link Heir = false
bars_link _ = true

abbrev pub is_free : Option Link → Bool
is_free None = true
is_free (Some l) = false

-- the session of this peer, named by both numbers
abbrev pub of_session : Who → ℕ → ℕ → Option Link → Bool
of_session peer mine yours None = false
of_session peer mine yours (Some l) = same_who l.peer peer && l.mine == mine && l.yours == yours

-- a slot of this instance; one that greets is of no instance yet
abbrev pub of_instance : Who → Option Link → Bool
of_instance who None = false
of_instance who (Some l) = same_who l.peer who

-- a slot with this node, in a state that passes
abbrev pub of_node : (LinkState → Bool) → ℕ → Option Link → Bool
of_node test node None = false
of_node test node (Some l) = l.peer.actor == node && test l.state

-- a slot that greets by this number
abbrev pub greets_by : ℕ → Option Link → Bool
greets_by mine None = false
greets_by mine (Some l) = l.mine == mine && is_hello l.state

-- a slot that greets this node by this number
abbrev pub greets_node_by : ℕ → ℕ → Option Link → Bool
greets_node_by node mine None = false
greets_node_by node mine (Some l) = l.peer.actor == node && l.mine == mine && is_hello l.state

-- the fence: the least end of a lease, and the time for an answer, over the slots that guard

abbrev pub sooner : ℕ → Option ℕ → Option ℕ
sooner time None = Some time
sooner time (Some other) = Some (min time other)

abbrev pub fence_if : Bool → ℕ → Option ℕ → Option ℕ
fence_if true time rest = sooner time rest
fence_if false time rest = rest

abbrev pub fence_with : ℕ → Option Link → Option ℕ → Option ℕ
fence_with answer None rest = rest
fence_with answer (Some l) rest = fence_if (guards l.state) (l.until + answer) rest

abbrev pub fence_of : ℕ → Slots → Option ℕ
fence_of answer [] = None
fence_of answer (s ∷ ss) = fence_with answer s (fence_of answer ss)

-- the reading is at the fence or past it
abbrev pub is_past : ℕ → Option ℕ → Bool
is_past now None = false
is_past now (Some fence) = nat_le fence now
