-- A firing of a node's timer: each slot in its order, then a freeze that is ready, then the search for a place or for near nodes.
use Rattle.std.specs.Prelude.{ℕ, zero, suc, ◌+◌, ◌-◌, ◌*◌, Bool, true, false, ◌&&◌, List, [], ◌∷◌, ◌++◌, length, Option, Some, None, nat_le, nat_lt}
use Rattle.std.specs.List.{list_all}
use Rattle.ring_points.specs.declared.interval.Interval.{Interval}
use Rattle.ring_points.specs.declared.who.Flight.{Flight}
use Rattle.ring_points.specs.Ranges.{fits}
use Rattle.ring_points.specs.Whos.{node_instance, arbiter_actor}
use Rattle.fabric_terms.specs.declared.message.Body.TheVariants as body
use Rattle.fabric_terms.specs.declared.report.Report.TheVariants as report
use Rattle.fabric_terms.specs.declared.report.Why.TheVariants.{AccusedFull}
use Rattle.join_phases.specs.Phases.{holding_phase, is_routing}
use Rattle.token_core.specs.Tokens.{Freeze, gained, can_gain, given, inherited}
use Rattle.arbiter_quorum.specs.Tallies.{has_answered}
use Rattle.ring_route.specs.Routes.{near_nodes}
use Rattle.ring_rules.specs.declared.link.Link.{Link}
use Rattle.ring_rules.specs.declared.link.LinkState.{LinkState}
use Rattle.ring_rules.specs.declared.link.LinkState.TheVariants as state
use Rattle.ring_rules.specs.Rings.{Settings, Slots, Work, slot_count, accused_limit, ◌▷◌}
use Rattle.ring_rules.specs.Slots.{slot_at, guards}
use Rattle.ring_rules.specs.Links.{accused_link, flight_part, hello_body, offer_body, renew_body, transfer_body}
use Rattle.ring_rules.specs.Deeds.{on_ring, put_slot, drop_slot, set_token, set_phase, send, tell, undo_freeze, leave, then_unless_left, counted, say_gone}
use Rattle.ring_rules.specs.Handshakes.{greet_plainly}
use Rattle.ring_rules.specs.Commands.{seek_place}
use Rattle.ring_rules.specs.Claims.{claim_round}

-- An arbitrator that has not answered is asked about the peer.
abbrev pub ask_if : ℕ → Link → Work → Bool → Work
ask_if a l w true = w
ask_if a l w false = send (node_instance (arbiter_actor a) 0) (body.Accuse l.peer) w

-- the first k arbitrators, in their order
abbrev pub ask_first : ℕ → Link → Work → Work
ask_first zero l w = w
ask_first (suc k) l w = let asked = ask_first k l w in ask_if (suc k) l asked (has_answered (suc k) l.tally.answers)

abbrev pub ask_arbiters : Settings → Link → Work → Work
ask_arbiters c l w = ask_first c.arbitrators l w

-- The peer is accused, where the list of the accused is not full.

abbrev pub accuse_at : Settings → ℕ → Link → Work → Work
accuse_at c i l w =
    w
    ▷ on_ring (λ r. record r { accused = r.accused ++ l.peer ∷ [] })
    ▷ undo_freeze i
    ▷ put_slot i (accused_link c w.ring.me l)
    ▷ tell (report.Accused l.peer)
    ▷ ask_arbiters c (accused_link c w.ring.me l)

abbrev pub accuse_if : Settings → ℕ → Link → Work → Bool → Work
accuse_if c i l w true = accuse_at c i l w
accuse_if c i l w false = leave AccusedFull w

unfoldable pub peer_accused : Settings → ℕ → Link → Work → Work
peer_accused c i l w = accuse_if c i l w (nat_lt (length w.ring.accused) accused_limit)

-- A slot that greets says Hello again, until its time is over.

abbrev pub hello_due : ℕ → Link → Work → Bool → Work
hello_due i l w true = drop_slot i w
hello_due i l w false = send l.peer (hello_body l) w

abbrev pub hello_fired : ℕ → ℕ → Link → Work → Work
hello_fired now i l w = hello_due i l w (nat_le l.until now)

-- A slot with a lease accuses the peer at its end, and says what it has to say before.

abbrev pub lease_over : Settings → ℕ → Link → (Work → Work) → Work → Bool → Work
lease_over c i l says w true = peer_accused c i l w
lease_over c i l says w false = says w

abbrev pub leased : Settings → ℕ → ℕ → Link → (Work → Work) → Work → Work
leased c now i l says w = lease_over c i l says w (nat_le l.until now)

abbrev pub offered_fired : Settings → ℕ → ℕ → Link → Work → Work
offered_fired c now i l w = leased c now i l (λ v. send l.peer (offer_body l) v) w

abbrev pub transfer_again : Link → Option Flight → Work → Work
transfer_again l None w = w
transfer_again l (Some f) w = send l.peer (transfer_body l f) w

abbrev pub bound_fired : Settings → ℕ → ℕ → Link → Work → Work
bound_fired c now i l w = leased c now i l (λ v. v ▷ send l.peer (renew_body now l v.ring) ▷ transfer_again l l.flight) w

abbrev pub parting_fired : Settings → ℕ → ℕ → Link → Work → Work
parting_fired c now i l w = leased c now i l (say_gone l) w

-- A slot that accuses asks the arbitrators again.
abbrev pub accused_fired : Settings → Link → Work → Work
accused_fired c l w = ask_arbiters c l w

-- A discharged slot too, and it claims the present round, until each round had its time after the peer's fence.

-- how long after the peer's fence a discharged slot is kept for later rounds
abbrev pub rounds_time : Settings → Link → ℕ
rounds_time c l = (c.rounds - 1) * (l.len + c.answer)

abbrev pub discharged_due : Settings → ℕ → Link → Work → Bool → Work
discharged_due c i l w true = drop_slot i w
discharged_due c i l w false = w ▷ ask_arbiters c l ▷ claim_round c l

unfoldable pub discharged_fired : Settings → ℕ → ℕ → Link → Work → Work
discharged_fired c now i l w = discharged_due c i l w (nat_le (l.until + c.answer + rounds_time c l) now)

-- An heir that is ripe takes over what it does not own yet of its record and its flight, where that fits.

abbrev pub take_over : ℕ → Link → List Interval → Work → Bool → Work
take_over i l added w false = w
take_over i l added w true =
    w
    ▷ set_token (gained w.ring.token added)
    ▷ tell (report.TookOver l.peer added)
    ▷ set_phase holding_phase
    ▷ drop_slot i

abbrev pub inherit : ℕ → Link → List Interval → Work → Work
inherit i l added w = take_over i l added w (fits added && can_gain w.ring.token added)

abbrev pub heir_due : ℕ → Link → Work → Bool → Work
heir_due i l w true = inherit i l (inherited w.ring.token l.held (flight_part l.flight)) w
heir_due i l w false = w

abbrev pub heir_fired : ℕ → ℕ → Link → Work → Work
heir_fired now i l w = heir_due i l w (nat_le l.ripe now)

-- one slot

abbrev pub fired_in : Settings → ℕ → ℕ → Link → LinkState → Work → Work
fired_in c now i l state.Hello w = hello_fired now i l w
fired_in c now i l state.Offered w = offered_fired c now i l w
fired_in c now i l state.Bound w = bound_fired c now i l w
fired_in c now i l state.Parting w = parting_fired c now i l w
fired_in c now i l state.Accused w = accused_fired c l w
fired_in c now i l state.Discharged w = discharged_fired c now i l w
fired_in c now i l state.Heir w = heir_fired now i l w

abbrev pub fired_at : Settings → ℕ → ℕ → Option Link → Work → Work
fired_at c now i None w = w
fired_at c now i (Some l) w = fired_in c now i l l.state w

unfoldable pub slot_fired : Settings → ℕ → ℕ → Work → Work
slot_fired c now i w = counted w (fired_at c now i (slot_at i w.ring.slots) w)

-- the first k slots, in their order
unfoldable pub slots_fired : Settings → ℕ → ℕ → Work → Work
slots_fired c now zero w = w
slots_fired c now (suc k) w = then_unless_left (slot_fired c now k) (slots_fired c now k w)

-- A freeze is ready once every slot that guards has acknowledged it. Then its part is given away.

abbrev pub acked_if : Bool → ℕ → ℕ → Bool
acked_if true version acked = nat_le version acked
acked_if false version acked = true

abbrev pub has_acked : ℕ → Option Link → Bool
has_acked version None = true
has_acked version (Some l) = acked_if (guards l.state) version l.acked

abbrev pub all_acked : ℕ → Slots → Bool
all_acked version slots = list_all (has_acked version) slots

abbrev pub give_flight : Freeze → Link → Flight → Work → Work
give_flight z l f w =
    w
    ▷ set_token (given w.ring.token z)
    ▷ tell (report.Gave l.peer f.number f.part)
    ▷ put_slot z.slot (record l { flight = Some f })
    ▷ send l.peer (transfer_body l f)

abbrev pub give_to : Freeze → Option Link → Work → Work
give_to z None w = w
give_to z (Some l) w = give_flight z l (record { number = w.ring.token.next_flight; part = z.part }) w

abbrev pub give_ready : Freeze → Work → Bool → Work
give_ready z w true = give_to z (slot_at z.slot w.ring.slots) w
give_ready z w false = w

abbrev pub give_frozen : Option Freeze → Work → Work
give_frozen None w = w
give_frozen (Some z) w = give_ready z w (all_acked z.version w.ring.slots)

unfoldable pub freeze_given : Work → Work
freeze_given w = counted w (give_frozen w.ring.token.freeze w)

-- A node without a place asks the member that it joins by; one that routes greets the near nodes.

abbrev pub seek_from : Option ℕ → Work → Work
seek_from None w = w
seek_from (Some member) w = seek_place member w

abbrev pub greet_all : Settings → ℕ → List ℕ → Work → Work
greet_all c now [] w = w
greet_all c now (node ∷ nodes) w = greet_all c now nodes (greet_plainly c now node w)

abbrev pub search_by : Settings → ℕ → Work → Bool → Work
search_by c now w true = greet_all c now (near_nodes w.ring.routes c.near w.ring.accused) w
search_by c now w false = seek_from w.ring.target w

unfoldable pub place_sought : Settings → ℕ → Work → Work
place_sought c now w = counted w (search_by c now w (is_routing w.ring.phase))

unfoldable pub timer_fired : Settings → ℕ → Work → Work
timer_fired c now w =
    slots_fired c now slot_count w
    ▷ then_unless_left freeze_given
    ▷ then_unless_left (place_sought c now)
