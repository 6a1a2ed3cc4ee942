-- What an arbitrator's ruling makes of a slot that has accused its peer.
use Rattle.std.specs.Prelude.{ℕ, ◌+◌, ◌-◌, Bool, true, false, not, ◌||◌, List, [], ◌∷◌, Some, None, nat_lt}
use Rattle.ring_points.specs.declared.who.Ruling.{Ruling}
use Rattle.ring_points.specs.declared.who.Who.{Who}
use Rattle.ring_points.specs.Whos.{arbiter_actor}
use Rattle.fabric_terms.specs.declared.report.Why.TheVariants.{Lost}
use Rattle.arbiter_quorum.specs.declared.verdict.Verdict.{Verdict}
use Rattle.arbiter_quorum.specs.declared.verdict.Verdict.TheVariants as verdict
use Rattle.arbiter_quorum.specs.Tallies.{noted, verdict_of, may_be_heir}
use Rattle.drift_clock.specs.declared.bound.Bound.{Bound}
use Rattle.drift_clock.specs.Wait.{heir_wait}
use Rattle.ring_rules.specs.declared.link.Link.{Link}
use Rattle.ring_rules.specs.declared.link.LinkState.{LinkState}
use Rattle.ring_rules.specs.declared.link.LinkState.TheVariants as state
use Rattle.ring_rules.specs.Slots.{slot_where, of_instance}
use Rattle.ring_rules.specs.Links.{is_bare}
use Rattle.link_core.specs.declared.notes.LinkNote.{LinkNote}
use Rattle.link_core.specs.declared.notes.LinkNote.TheVariants.{DischargedNow, HeirNow, Leave}
use Rattle.link_core.specs.Links.{Links, Turn, Did, SlotRow, turn, stays, same, in_found}

-- when an heir may take over: the peer's lease and its answers must be over by every clock
abbrev pub ripe_at : ℕ → Bound → ℕ → Link → ℕ
ripe_at now bound answer l = now + heir_wait bound l.len answer

abbrev pub becomes_heir : Link → ℕ → Turn
becomes_heir l ripe = turn (Some (record l { state = state.Heir; ripe = ripe })) [] (HeirNow l.peer ripe ∷ [])

-- An heir of nothing is discharged; another waits until it is ripe.
abbrev pub made_heir : Link → ℕ → Bool → Turn
made_heir l ripe true = turn None [] (DischargedNow l.peer ∷ [])
made_heir l ripe false = becomes_heir l ripe

-- A discharge is told once.
abbrev pub discharge_told : LinkState → Link → List LinkNote
discharge_told state.Accused l = DischargedNow l.peer ∷ []
discharge_told _ l = []

-- It ends the slot, where nothing is held, or the node can't become heir any more, by a ruling or by a later round.

abbrev pub may_succeed : ℕ → Link → Bool
may_succeed rounds l = nat_lt 1 rounds || may_be_heir l.tally

abbrev pub kept_discharged : Link → List LinkNote → Bool → Turn
kept_discharged l notes true = turn None [] notes
kept_discharged l notes false = turn (Some (record l { state = state.Discharged })) [] notes

-- by the verdict; a node that has lost leaves
abbrev pub judged : ℕ → Link → ℕ → LinkState → Verdict → Turn
judged rounds l ripe was verdict.Heir = made_heir l ripe (is_bare l)
judged rounds l ripe was verdict.Discharged = kept_discharged l (discharge_told was l) (is_bare l || not (may_succeed rounds l))
judged rounds l ripe was verdict.Lost = turn (Some l) [] (Leave Lost ∷ [])
judged rounds l ripe was verdict.Open = stays (Some l)

-- with the ruling noted in the slot's tally
abbrev pub ruling_noted : ℕ → ℕ → Link → LinkState → Turn
ruling_noted rounds ripe l was = judged rounds l ripe was (verdict_of l.tally)

-- it waits for the arbitrators
abbrev pub awaits : LinkState → Bool
awaits state.Accused = true
awaits state.Discharged = true
awaits _ = false

abbrev pub ruling_if : ℕ → ℕ → ℕ → Ruling → Link → LinkState → Bool → Turn
ruling_if rounds ripe arbiter ruling l was true = ruling_noted rounds ripe (record l { tally = noted l.tally arbiter ruling }) was
ruling_if rounds ripe arbiter ruling l was false = stays (Some l)

abbrev pub ruling_seen : ℕ → Bound → ℕ → ℕ → ℕ → Ruling → SlotRow
ruling_seen now bound answer rounds arbiter ruling None = stays None
ruling_seen now bound answer rounds arbiter ruling (Some l) = ruling_if rounds (ripe_at now bound answer l) arbiter ruling l l.state (awaits l.state)

-- a ruling of this arbitrator about the victim

abbrev pub ruling_by : ℕ → ℕ → Who → Ruling → Links → Did
ruling_by now arbiter victim ruling k =
    in_found (λ i. ruling_seen now k.bound k.answer k.rounds arbiter ruling) (same k) k (slot_where (of_instance victim) k.slots)

abbrev pub ruling_received : ℕ → Who → Who → Ruling → Links → Did
ruling_received now from victim ruling k = ruling_by now (from.actor - arbiter_actor 0) victim ruling k
