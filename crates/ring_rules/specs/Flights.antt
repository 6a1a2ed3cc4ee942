-- How ranges move, and how a session ends: Transfer and Gone.
use Rattle.std.specs.Prelude.{ℕ, Bool, true, false, ◌&&◌, List, Option, Some, None, nat_le, nat_lt}
use Rattle.ring_points.specs.declared.interval.Interval.{Interval}
use Rattle.ring_points.specs.declared.who.Flight.{Flight}
use Rattle.ring_points.specs.declared.who.Who.{Who}
use Rattle.fabric_terms.specs.declared.message.Body.{Body}
use Rattle.fabric_terms.specs.declared.message.Body.TheVariants as body
use Rattle.fabric_terms.specs.declared.report.Report.TheVariants as report
use Rattle.join_phases.specs.Phases.{holding_phase}
use Rattle.token_core.specs.Tokens.{gained, can_gain}
use Rattle.ring_rules.specs.declared.link.Link.{Link}
use Rattle.ring_rules.specs.declared.link.LinkState.{LinkState}
use Rattle.ring_rules.specs.declared.link.LinkState.TheVariants as state
use Rattle.ring_rules.specs.Rings.{Work, ◌▷◌}
use Rattle.ring_rules.specs.Slots.{slot_where, greets_by}
use Rattle.ring_rules.specs.Deeds.{put_slot, drop_slot, set_token, set_phase, send, tell, undo_freeze, in_session, answer_unknown, say_gone}

-- A flight is taken once, with a number above the last one taken, and where it fits.

abbrev pub take_flight : ℕ → Link → ℕ → List Interval → Work → Bool → Work
take_flight i l number part w false = w
take_flight i l number part w true =
    w
    ▷ set_token (gained w.ring.token part)
    ▷ put_slot i (record l { got = number })
    ▷ tell (report.Took l.peer number part)
    ▷ set_phase holding_phase

abbrev pub transfer_seen : ℕ → List Interval → ℕ → Link → LinkState → Work → Work
transfer_seen number part i l state.Bound w = take_flight i l number part w (nat_lt l.got number && can_gain w.ring.token part)
transfer_seen number part i l state.Parting w = say_gone l w
transfer_seen number part i l _ w = w

unfoldable pub transfer_received : Who → ℕ → ℕ → ℕ → List Interval → Work → Work
transfer_received from theirs own number part w = in_session from theirs own (transfer_seen number part) (answer_unknown from theirs own) w

-- The peer has no record and never will. A flight that it did not get comes back, a freeze for the slot is undone, the
-- peer gets its answer if it wants one, and the slot ends.

abbrev pub answer_if : Bool → Who → Body → Work → Work
answer_if true to b w = send to b w
answer_if false to b w = w

abbrev pub close : ℕ → Link → Bool → Work → Work
close i l bound w =
    w
    ▷ undo_freeze i
    ▷ answer_if bound l.peer (body.Gone l.mine l.yours l.got false)
    ▷ drop_slot i

abbrev pub flight_returned : ℕ → Link → Flight → Bool → Work → Bool → Work
flight_returned i l f bound w false = w
flight_returned i l f bound w true =
    w
    ▷ set_token (gained w.ring.token f.part)
    ▷ tell (report.Returned l.peer f.number f.part)
    ▷ close i l bound

abbrev pub flight_settled : ℕ → Link → Flight → Bool → Work → Bool → Work
flight_settled i l f bound w true = close i l bound w
flight_settled i l f bound w false = flight_returned i l f bound w (can_gain w.ring.token f.part)

abbrev pub gone_heard : ℕ → Link → ℕ → Bool → Option Flight → Work → Work
gone_heard i l got bound None w = close i l bound w
gone_heard i l got bound (Some f) w = flight_settled i l f bound w (nat_le f.number got)

abbrev pub gone_seen : ℕ → Bool → ℕ → Link → LinkState → Work → Work
gone_seen got bound i l state.Offered w = gone_heard i l got bound l.flight w
gone_seen got bound i l state.Bound w = gone_heard i l got bound l.flight w
gone_seen got bound i l state.Parting w = gone_heard i l got bound l.flight w
gone_seen got bound i l _ w = w

-- in no session: a slot that greets by this number ends, and the sender gets its answer if it wants one

abbrev pub gone_unknown : Who → ℕ → ℕ → Bool → Work → Work
gone_unknown from theirs own bound w = answer_if bound from (body.Gone own theirs 0 false) w

abbrev pub gone_greeting : Who → ℕ → ℕ → Bool → Work → Option ℕ → Work
gone_greeting from theirs own bound w None = gone_unknown from theirs own bound w
gone_greeting from theirs own bound w (Some i) = w ▷ drop_slot i ▷ gone_unknown from theirs own bound

abbrev pub gone_elsewhere : Who → ℕ → ℕ → Bool → Work → Work
gone_elsewhere from theirs own bound w = gone_greeting from theirs own bound w (slot_where (greets_by own) w.ring.slots)

unfoldable pub gone_received : Who → ℕ → ℕ → ℕ → Bool → Work → Work
gone_received from theirs own got bound w = in_session from theirs own (gone_seen got bound) (gone_elsewhere from theirs own bound) w
