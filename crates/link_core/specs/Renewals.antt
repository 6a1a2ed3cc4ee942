-- How a link lives: Renew and RenewAck.
use Rattle.std.specs.Prelude.{ℕ, Bool, true, false, List, [], ◌∷◌, Some, None}
use Rattle.ring_points.specs.declared.interval.Interval.{Interval}
use Rattle.ring_points.specs.declared.who.Who.{Who}
use Rattle.fabric_terms.specs.declared.message.Body.TheVariants as body
use Rattle.ring_rules.specs.declared.link.Link.{Link}
use Rattle.ring_rules.specs.declared.link.LinkState.{LinkState}
use Rattle.ring_rules.specs.declared.link.LinkState.TheVariants as state
use Rattle.ring_rules.specs.Slots.{slot_where, of_session}
use Rattle.ring_rules.specs.Links.{renewed, acknowledged}
use Rattle.link_core.specs.declared.notes.LinkNote.{LinkNote}
use Rattle.link_core.specs.declared.notes.LinkNote.TheVariants.{BoundNow, Wanted}
use Rattle.link_core.specs.Links.{Links, Turn, Did, SlotRow, turn, stays, same, in_found, unknown, gone_said}

abbrev pub wanted_if : Bool → ℕ → List LinkNote
wanted_if true i = Wanted i ∷ []
wanted_if false i = []

-- A Renew is heard and acknowledged; what it wants is the caller's to freeze.
abbrev pub renew_heard : ℕ → Link → ℕ → ℕ → List LinkNote → Turn
renew_heard i l stamp version notes = turn (Some l) ((l.peer, body.RenewAck l.mine l.yours stamp version) ∷ []) notes

abbrev pub renew_in : ℕ → ℕ → ℕ → Bool → List Interval → ℕ → Link → LinkState → Turn
renew_in stamp version got want ranges i l state.Offered = renew_heard i (renewed l version got ranges) stamp version (BoundNow ∷ wanted_if want i)
renew_in stamp version got want ranges i l state.Bound = renew_heard i (renewed l version got ranges) stamp version (wanted_if want i)
renew_in stamp version got want ranges i l state.Parting = gone_said l
renew_in stamp version got want ranges i l _ = stays (Some l)

abbrev pub renew_seen : ℕ → ℕ → ℕ → Bool → List Interval → ℕ → SlotRow
renew_seen stamp version got want ranges i None = stays None
renew_seen stamp version got want ranges i (Some l) = renew_in stamp version got want ranges i l l.state

abbrev pub renew_received : Who → ℕ → ℕ → ℕ → ℕ → ℕ → Bool → List Interval → Links → Did
renew_received from theirs own stamp version got want ranges k =
    in_found (renew_seen stamp version got want ranges) (unknown from theirs own k) k (slot_where (of_session from own theirs) k.slots)

-- A RenewAck prolongs the lease from the stamp that it echoes.

abbrev pub ack_in : ℕ → ℕ → Link → LinkState → Turn
ack_in stamp version l state.Bound = stays (Some (acknowledged l stamp version))
ack_in stamp version l state.Parting = stays (Some (acknowledged l stamp version))
ack_in stamp version l _ = stays (Some l)

abbrev pub ack_seen : ℕ → ℕ → SlotRow
ack_seen stamp version None = stays None
ack_seen stamp version (Some l) = ack_in stamp version l l.state

abbrev pub ack_received : Who → ℕ → ℕ → ℕ → ℕ → Links → Did
ack_received from theirs own stamp version k =
    in_found (λ i. ack_seen stamp version) (same k) k (slot_where (of_session from own theirs) k.slots)
