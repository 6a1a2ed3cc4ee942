-- What an arbitrator's ruling makes of a slot that has accused its peer.
use Rattle.std.specs.Prelude.{ℕ, ◌+◌, ◌-◌, Bool, true, false, not, ◌||◌, nat_lt}
use Rattle.ring_points.specs.declared.who.Ruling.{Ruling}
use Rattle.ring_points.specs.declared.who.Who.{Who}
use Rattle.ring_points.specs.Whos.{arbiter_actor}
use Rattle.fabric_terms.specs.declared.report.Report.TheVariants as report
use Rattle.fabric_terms.specs.declared.report.Why.TheVariants.{Lost}
use Rattle.arbiter_quorum.specs.declared.verdict.Verdict.{Verdict}
use Rattle.arbiter_quorum.specs.declared.verdict.Verdict.TheVariants as verdict
use Rattle.arbiter_quorum.specs.Tallies.{noted, verdict_of, may_be_heir}
use Rattle.drift_clock.specs.Wait.{heir_wait}
use Rattle.ring_rules.specs.declared.link.Link.{Link}
use Rattle.ring_rules.specs.declared.link.LinkState.{LinkState}
use Rattle.ring_rules.specs.declared.link.LinkState.TheVariants as state
use Rattle.ring_rules.specs.Rings.{Settings, Work, ◌▷◌}
use Rattle.ring_rules.specs.Slots.{slot_where, of_instance}
use Rattle.ring_rules.specs.Links.{is_bare}
use Rattle.ring_rules.specs.Deeds.{put_slot, drop_slot, tell, leave, in_found}

-- when an heir may take over: the peer's lease and its answers must be over by every clock
abbrev pub ripe_at : Settings → ℕ → Link → ℕ
ripe_at c now l = now + heir_wait c.bound l.len c.answer

abbrev pub becomes_heir : Settings → ℕ → ℕ → Link → Work → Work
becomes_heir c now i l w =
    w
    ▷ put_slot i (record l { state = state.Heir; ripe = ripe_at c now l })
    ▷ tell (report.Heir l.peer (ripe_at c now l))

-- An heir of nothing is discharged; another waits until it is ripe.
abbrev pub made_heir : Settings → ℕ → ℕ → Link → Work → Bool → Work
made_heir c now i l w true = w ▷ tell (report.Discharged l.peer) ▷ drop_slot i
made_heir c now i l w false = becomes_heir c now i l w

-- A discharge is told once.
abbrev pub tell_discharge : LinkState → Link → Work → Work
tell_discharge state.Accused l w = tell (report.Discharged l.peer) w
tell_discharge _ l w = w

-- there are rounds after the first
abbrev pub has_rounds : Settings → Bool
has_rounds c = nat_lt 1 c.rounds

-- It ends the slot, where nothing is held, or the node can't become heir any more, by a ruling or by a later round.

abbrev pub may_succeed : Settings → Link → Bool
may_succeed c l = has_rounds c || may_be_heir l.tally

abbrev pub kept_discharged : ℕ → Link → Work → Bool → Work
kept_discharged i l w true = drop_slot i w
kept_discharged i l w false = put_slot i (record l { state = state.Discharged }) w

abbrev pub judged : Settings → ℕ → ℕ → Link → LinkState → Verdict → Work → Work
judged c now i l before verdict.Heir w = made_heir c now i l w (is_bare l)
judged c now i l before verdict.Discharged w = w ▷ tell_discharge before l ▷ (λ v. kept_discharged i l v (is_bare l || not (may_succeed c l)))
judged c now i l before verdict.Lost w = leave Lost w
judged c now i l before verdict.Open w = put_slot i l w

-- with the ruling noted in the slot's tally
abbrev pub ruling_noted : Settings → ℕ → ℕ → Link → LinkState → Work → Work
ruling_noted c now i l before w = judged c now i l before (verdict_of l.tally) w

abbrev pub ruling_seen : Settings → ℕ → ℕ → Ruling → ℕ → Link → LinkState → Work → Work
ruling_seen c now arbiter ruling i l state.Accused w = ruling_noted c now i (record l { tally = noted l.tally arbiter ruling }) state.Accused w
ruling_seen c now arbiter ruling i l state.Discharged w = ruling_noted c now i (record l { tally = noted l.tally arbiter ruling }) state.Discharged w
ruling_seen c now arbiter ruling i l _ w = w

-- a ruling of this arbitrator about the victim
unfoldable pub ruling_received : Settings → ℕ → Who → Who → Ruling → Work → Work
ruling_received c now from victim ruling w =
    in_found (ruling_seen c now (from.actor - arbiter_actor 0) ruling) (λ v. v) (slot_where (of_instance victim) w.ring.slots) w
