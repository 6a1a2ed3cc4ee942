-- A firing at one slot.
use Rattle.std.specs.Prelude.{ℕ, zero, suc, ◌+◌, ◌-◌, ◌*◌, Bool, true, false, List, [], ◌∷◌, ◌++◌, length, Option, Some, None, nat_le, nat_lt, slice_set}
use Rattle.ring_points.specs.declared.who.Ruling.{Ruling}
use Rattle.ring_points.specs.declared.who.Flight.{Flight}
use Rattle.ring_points.specs.declared.who.Who.{Who}
use Rattle.ring_points.specs.Whos.{node_instance, arbiter_actor}
use Rattle.fabric_terms.specs.declared.message.Body.{Body}
use Rattle.fabric_terms.specs.declared.message.Body.TheVariants as body
use Rattle.fabric_terms.specs.declared.report.Why.TheVariants.{AccusedFull}
use Rattle.arbiter_quorum.specs.Tallies.{has_answered, no_answers}
use Rattle.heir_rounds.specs.Rounds.{no_rounds}
use Rattle.ring_rules.specs.declared.link.Link.{Link}
use Rattle.ring_rules.specs.declared.link.LinkState.{LinkState}
use Rattle.ring_rules.specs.declared.link.LinkState.TheVariants as state
use Rattle.ring_rules.specs.Rings.{accused_limit}
use Rattle.ring_rules.specs.Slots.{slot_at}
use Rattle.ring_rules.specs.Links.{hello_body, offer_body, transfer_body}
use Rattle.link_core.specs.declared.announce.Announce.{Announce}
use Rattle.link_core.specs.declared.notes.LinkNote.TheVariants.{AccusedNow, Leave, Ripe, Undo}
use Rattle.link_core.specs.Links.{Links, Turn, Did, turn, did, stays, same, asks_for, in_place, gone_said}
use Rattle.link_core.specs.Handshakes.{renew_body}
use Rattle.link_core.specs.Rounds.{claims}

-- An arbitrator that has not answered is asked about the peer.
abbrev pub asked_if : ℕ → Who → Bool → List (Who × Body)
asked_if a peer true = []
asked_if a peer false = (node_instance (arbiter_actor a) 0, body.Accuse peer) ∷ []

-- the questions to the first k arbitrators, in their order
unfoldable pub asked_first : ℕ → Who → List (ℕ × Ruling) → List (Who × Body)
asked_first zero peer answers = []
asked_first (suc k) peer answers = asked_first k peer answers ++ asked_if (suc k) peer (has_answered (suc k) answers)

abbrev pub asked : ℕ → Link → List (Who × Body)
asked n l = asked_first n l.peer l.tally.answers

-- The peer is accused, where the list of the accused is not full.

abbrev pub accused_by : Who → ℕ → ℕ → Link → Link
accused_by me n rounds l = record l { state = state.Accused; tally = no_answers me l.peer n; rounds = no_rounds me n rounds }

abbrev pub accusing : Links → Link → Link
accusing k l = accused_by k.me k.arbitrators k.rounds l

abbrev pub accuse_if : ℕ → Link → Links → Bool → Did
accuse_if i l k true =
    did (record k { slots = slice_set k.slots i (Some (accusing k l)); accused = k.accused ++ l.peer ∷ [] })
    (asked k.arbitrators (accusing k l)) (Undo i ∷ AccusedNow l.peer ∷ [])
accuse_if i l k false = asks_for k (Leave AccusedFull)

abbrev pub peer_accused : ℕ → Link → Links → Did
peer_accused i l k = accuse_if i l k (nat_lt (length k.accused) accused_limit)

-- a slot with a lease, at its end
abbrev pub leases : LinkState → Bool → Bool
leases state.Offered over = over
leases state.Bound over = over
leases state.Parting over = over
leases _ over = false

abbrev pub is_over : ℕ → Link → Bool
is_over now l = leases l.state (nat_le l.until now)

-- A slot that greets says Hello again, until its time is over.
abbrev pub hello_due : Link → Bool → Turn
hello_due l true = stays None
hello_due l false = turn (Some l) ((l.peer, hello_body l) ∷ []) []

abbrev pub transfer_again : Link → Option Flight → List (Who × Body)
transfer_again l None = []
transfer_again l (Some f) = (l.peer, transfer_body l f) ∷ []

-- A discharged slot asks again, and claims the present round, until each round had its time after the peer's fence.

abbrev pub discharged_end : ℕ → ℕ → Link → ℕ
discharged_end answer rounds l = l.until + answer + (rounds - 1) * (l.len + answer)

abbrev pub discharged_due : ℕ → ℕ → Link → Bool → Turn
discharged_due rounds n l true = stays None
discharged_due rounds n l false = turn (Some l) (asked n l ++ claims rounds n l) []

-- An heir that is ripe takes over; that is the caller's to do.
abbrev pub heir_due : ℕ → Link → Bool → Turn
heir_due i l true = turn (Some l) [] (Ripe i ∷ [])
heir_due i l false = stays (Some l)

-- what a slot says that need not accuse
abbrev pub spoken : ℕ → Announce → ℕ → ℕ → ℕ → ℕ → Link → LinkState → Turn
spoken now a answer rounds n i l state.Hello = hello_due l (nat_le l.until now)
spoken now a answer rounds n i l state.Offered = turn (Some l) ((l.peer, offer_body l) ∷ []) []
spoken now a answer rounds n i l state.Bound = turn (Some l) ((l.peer, renew_body now a l) ∷ transfer_again l l.flight) []
spoken now a answer rounds n i l state.Parting = gone_said l
spoken now a answer rounds n i l state.Accused = turn (Some l) (asked n l) []
spoken now a answer rounds n i l state.Discharged = discharged_due rounds n l (nat_le (discharged_end answer rounds l) now)
spoken now a answer rounds n i l state.Heir = heir_due i l (nat_le l.ripe now)

abbrev pub fired_if : ℕ → Announce → ℕ → Link → LinkState → Links → Bool → Did
fired_if now a i l was k true = peer_accused i l k
fired_if now a i l was k false = in_place i (spoken now a k.answer k.rounds k.arbitrators i l was) k

abbrev pub fired_at : ℕ → Announce → ℕ → Option Link → Links → Did
fired_at now a i None k = same k
fired_at now a i (Some l) k = fired_if now a i l l.state k (is_over now l)

-- the row of the slot in this place
abbrev pub slot_fired : ℕ → Announce → ℕ → Links → Did
slot_fired now a i k = fired_at now a i (slot_at i k.slots) k
