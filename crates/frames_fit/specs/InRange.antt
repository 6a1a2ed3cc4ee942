-- A ring whose numbers, names and ranges a frame can carry.
use Rattle.std.specs.Prelude.{◌≡◌, ℕ, ◌+◌, ◌≤◌, Bool, true, false, ◌&&◌, Option, Some, None, All, IsTrue}
use Rattle.fabric_terms.specs.declared.config.FabricConfig.{FabricConfig}
use Rattle.heir_rounds.specs.Rounds.{RoundTally}
use Rattle.ring_points.specs.Limits.{most_lease, most_reading}
use Rattle.ring_points.specs.declared.who.Flight.{Flight}
use Rattle.ring_points.specs.declared.who.Who.{Who}
use Rattle.ring_points.specs.Ranges.{fits, is_proper}
use Rattle.ring_route.specs.declared.known.Known.{Known}
use Rattle.ring_rules.specs.declared.link.Link.{Link}
use Rattle.ring_rules.specs.Deeds.{has_numbers}
use Rattle.ring_rules.specs.Rings.{Ring, Slots, points_of}
use Rattle.ring_rules.specs.Slots.{slot_at, is_bound, is_hello}
use Rattle.fabric_terms.specs.Fields.{is_addressee, is_counted, is_lease, is_node, is_part, is_round, is_who, is_word}
use Rattle.token_core.specs.Tokens.{Freeze, Token, announced}
use Rattle.world_rules.specs.Schedules.{is_configured_node}

-- Links.

-- whom a link names, and by which number of the peer's: a link that greets names a node, and knows no number of it yet
abbrev pub names_peer : Bool → Who → ℕ → Bool
names_peer true peer yours = is_addressee peer
names_peer false peer yours = is_who peer && is_counted yours

abbrev pub FlightInRange : Option Flight → Type 0
FlightInRange None = Unit {0}
FlightInRange (Some f) = IsTrue (is_counted f.number && is_part f.part)

-- a round that is claimed, and the last one that can be
pub record RoundsInRange (t : RoundTally) : Type 0 where
  pub round : IsTrue (is_round t.round)
  pub limit : IsTrue (is_round t.limit)

-- the end of the latest lease: the longest lease from the last reading
abbrev pub latest_end : ℕ
latest_end = most_reading + most_lease

-- what a link's frames carry, its end, and the record that its heir would take over
pub record LinkInRange (l : Link) : Type 0 where
  pub names : IsTrue (names_peer (is_hello l.state) l.peer l.yours)
  pub mine : IsTrue (is_counted l.mine)
  pub length : IsTrue (is_lease l.len)
  pub until : l.until ≤ latest_end
  pub held : IsTrue (is_proper l.held)
  pub got : IsTrue (is_word l.got)
  pub flight : FlightInRange l.flight
  pub rounds : RoundsInRange l.rounds

abbrev pub SlotInRange : Option Link → Type 0
SlotInRange None = Unit {0}
SlotInRange (Some l) = LinkInRange l

-- The token.

-- a frozen part can be given
abbrev pub FreezeInRange : Option Freeze → Type 0
FreezeInRange None = Unit {0}
FreezeInRange (Some z) = IsTrue (is_part z.part)

-- what is owned and what is announced fit
pub record TokenInRange (t : Token) : Type 0 where
  pub ranges : IsTrue (is_proper t.ranges)
  pub announced : IsTrue (fits (announced t))
  pub freeze : FreezeInRange t.freeze

abbrev pub holds_bound : Option Link → Bool
holds_bound None = false
holds_bound (Some l) = is_bound l.state

-- a part is frozen for a link that is bound
abbrev pub is_frozen_for_bound : Option Freeze → Slots → Bool
is_frozen_for_bound None slots = true
is_frozen_for_bound (Some z) slots = holds_bound (slot_at z.slot slots)

-- Routes.

abbrev pub KnownInRange : Known → Type 0
KnownInRange k = IsTrue (is_who k.who)

abbrev pub TargetInRange : Option ℕ → Type 0
TargetInRange None = Unit {0}
TargetInRange (Some node) = IsTrue (is_node node)

-- the ring of an instance of a configured node
pub record IsInRange (c : FabricConfig) (r : Ring) : Type 0 where
  pub me : IsTrue (is_who r.me)
  pub configured : is_configured_node c r.me.actor ≡ true
  pub slots : All SlotInRange r.slots
  -- no version, session or flight is past the last number
  pub numbers : IsTrue (has_numbers r)
  -- sessions and flights count from 1
  pub next_session : 1 ≤ r.next_session
  pub next_flight : 1 ≤ r.token.next_flight
  pub token : TokenInRange r.token
  -- so a part is given in a session
  pub frozen : IsTrue (is_frozen_for_bound r.token.freeze r.slots)
  pub points : r.routes.points ≡ points_of c.nodes
  pub known : All KnownInRange r.routes.known
  pub target : TargetInRange r.target
