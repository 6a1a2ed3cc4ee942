-- How ranges move, and how a session ends: Transfer and Gone.
use Rattle.std.specs.Prelude.{ℕ, Bool, true, false, List, [], ◌∷◌, Option, Some, None, nat_lt}
use Rattle.ring_points.specs.declared.who.Flight.{Flight}
use Rattle.ring_points.specs.declared.who.Who.{Who}
use Rattle.fabric_terms.specs.declared.message.Body.{Body}
use Rattle.fabric_terms.specs.declared.message.Body.TheVariants as body
use Rattle.ring_rules.specs.declared.link.Link.{Link}
use Rattle.ring_rules.specs.declared.link.LinkState.{LinkState}
use Rattle.ring_rules.specs.declared.link.LinkState.TheVariants as state
use Rattle.ring_rules.specs.Slots.{slot_where, of_session, greets_by}
use Rattle.link_core.specs.declared.notes.LinkNote.TheVariants.{Arrived, Return, Undo}
use Rattle.link_core.specs.Links.{Links, Turn, Did, SlotRow, turn, did, stays, with_slot, in_found, unknown, gone_said}

-- A flight arrives once, with a number above the last one taken; the caller's token takes it where it fits.

abbrev pub arrived_if : ℕ → Link → Bool → Turn
arrived_if i l true = turn (Some l) [] (Arrived i ∷ [])
arrived_if i l false = stays (Some l)

abbrev pub transfer_in : ℕ → ℕ → Link → LinkState → Turn
transfer_in number i l state.Bound = arrived_if i l (nat_lt l.got number)
transfer_in number i l state.Parting = gone_said l
transfer_in number i l _ = stays (Some l)

abbrev pub transfer_seen : ℕ → ℕ → SlotRow
transfer_seen number i None = stays None
transfer_seen number i (Some l) = transfer_in number i l l.state

abbrev pub transfer_received : Who → ℕ → ℕ → ℕ → Links → Did
transfer_received from theirs own number k =
    in_found (transfer_seen number) (unknown from theirs own k) k (slot_where (of_session from own theirs) k.slots)

-- The peer has no record and never will. A flight that it did not get comes back to the caller's token where it fits. Else
-- the peer gets its answer if it wants one, the slot ends, and a freeze for it is the caller's to undo.

abbrev pub answers : Bool → Who → Body → List (Who × Body)
answers true to b = (to, b) ∷ []
answers false to b = []

-- what is said to the peer at the end of the slot
abbrev pub last_words : Link → Bool → List (Who × Body)
last_words l bound = answers bound l.peer (body.Gone l.mine l.yours l.got false)

abbrev pub closed : ℕ → Link → Bool → Turn
closed i l bound = turn None (last_words l bound) (Undo i ∷ [])

-- a flight to the peer stands that it did not get
abbrev pub is_lost : ℕ → Option Flight → Bool
is_lost got None = false
is_lost got (Some f) = nat_lt got f.number

abbrev pub gone_heard : ℕ → Link → Bool → Bool → Turn
gone_heard i l bound false = closed i l bound
gone_heard i l bound true = turn (Some l) [] (Return i ∷ [])

-- a slot that stands
abbrev pub stands : LinkState → Bool
stands state.Offered = true
stands state.Bound = true
stands state.Parting = true
stands _ = false

abbrev pub gone_if : ℕ → Bool → ℕ → Link → Bool → Turn
gone_if got bound i l true = gone_heard i l bound (is_lost got l.flight)
gone_if got bound i l false = stays (Some l)

abbrev pub gone_seen : ℕ → Bool → ℕ → SlotRow
gone_seen got bound i None = stays None
gone_seen got bound i (Some l) = gone_if got bound i l (stands l.state)

-- in no session: a slot that greets by this number ends, and the sender gets its answer if it wants one

abbrev pub gone_greeting : Who → ℕ → ℕ → Bool → Links → Option ℕ → Did
gone_greeting from theirs own bound k None = did k (answers bound from (body.Gone own theirs 0 false)) []
gone_greeting from theirs own bound k (Some i) = did (with_slot i None k) (answers bound from (body.Gone own theirs 0 false)) []

abbrev pub gone_elsewhere : Who → ℕ → ℕ → Bool → Links → Did
gone_elsewhere from theirs own bound k = gone_greeting from theirs own bound k (slot_where (greets_by own) k.slots)

abbrev pub gone_received : Who → ℕ → ℕ → ℕ → Bool → Links → Did
gone_received from theirs own got bound k =
    in_found (gone_seen got bound) (gone_elsewhere from theirs own bound k) k (slot_where (of_session from own theirs) k.slots)
