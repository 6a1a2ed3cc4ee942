-- The rows of a session, of a ruling about one, and of a round that is claimed.
use Rattle.std.proofs.Common.{◌≡◌, ℕ, zero, suc, ◌-◌, Bool, true, false, not, ◌&&◌, ◌||◌, List, Option, Some, None, refl}
use Rattle.std.specs.Prelude.{◌==◌, nat_le, nat_lt}
use Rattle.ring_points.specs.declared.interval.Interval.{Interval}
use Rattle.ring_points.specs.declared.who.Flight.{Flight}
use Rattle.ring_points.specs.declared.who.Ruling.{Ruling}
use Rattle.ring_points.specs.declared.who.Who.{Who}
use Rattle.ring_points.specs.Whos.{arbiter_actor, node_instance}
use Rattle.fabric_terms.specs.declared.message.Body.{Body}
use Rattle.fabric_terms.specs.declared.message.Body.TheVariants as body
use Rattle.fabric_terms.specs.declared.report.Reason.{Reason}
use Rattle.fabric_terms.specs.declared.report.Reason.TheVariants as reason
use Rattle.fabric_terms.specs.declared.report.Report.TheVariants as report
use Rattle.fabric_terms.specs.declared.report.Why.TheVariants.{Lost}
use Rattle.arbiter_quorum.specs.Tallies.{noted, verdict_of}
use Rattle.arbiter_quorum.specs.declared.verdict.Verdict.{Verdict}
use Rattle.arbiter_quorum.specs.declared.verdict.Verdict.TheVariants as verdict
use Rattle.heir_rounds.specs.Rounds.{round_noted, round_verdict}
use Rattle.heir_rounds.specs.declared.verdict.RoundVerdict.{RoundVerdict}
use Rattle.heir_rounds.specs.declared.verdict.RoundVerdict.TheVariants as rounds
use Rattle.token_core.specs.Tokens.{gained, can_gain}
use Rattle.ring_rules.specs.declared.link.Link.{Link}
use Rattle.ring_rules.specs.declared.link.LinkState.{LinkState}
use Rattle.ring_rules.specs.declared.link.LinkState.TheVariants as state
use Rattle.ring_rules.specs.Rings.{Settings, Work}
use Rattle.ring_rules.specs.Links.{is_bare, hello_body, offer_body}
use Rattle.ring_rules.specs.Slots.{slot_where, of_instance}
use Rattle.ring_rules.specs.Deeds as d
use Rattle.ring_rules.specs.Handshakes as h
use Rattle.ring_rules.specs.Renewals as n
use Rattle.ring_rules.specs.Flights as f
use Rattle.ring_rules.specs.Rulings as r
use Rattle.ring_rules.specs.Claims as q
use Rattle.run_facts.specs.RingApart.{is_unit_frame, StaysApart}
use Rattle.run_facts.proofs.ApartSaying.{sends, tells, leaves, hello_apart, offer_apart}

-- A session is looked up.

slot_apart : (row : d.SessionRow) (i : ℕ) (o : Option Link) (w : Work) → ((i : ℕ) (l : Link) (st : LinkState) → StaysApart (row i l st w)) → StaysApart w →
    StaysApart (d.in_slot row i o w)
slot_apart row i None w inside a = a
slot_apart row i (Some l) w inside a = inside i l l.state

found_apart : (row : d.SessionRow) (none : Work → Work) (o : Option ℕ) (w : Work) →
    ((i : ℕ) (l : Link) (st : LinkState) → StaysApart (row i l st w)) → StaysApart (none w) → StaysApart w → StaysApart (d.in_found row none o w)
found_apart row none None w inside outside a = outside
found_apart row none (Some i) w inside outside a = slot_apart row i _ w inside a

unknown_apart : (from : Who) (theirs own : ℕ) (w : Work) → StaysApart w → StaysApart (d.answer_unknown from theirs own w)
unknown_apart from theirs own w a = sends from _ w refl a

gone_said : (l : Link) (w : Work) → StaysApart w → StaysApart (d.say_gone l w)
gone_said l w a = sends l.peer _ w refl a

-- Handshakes.

pub greet_apart : (l : Link) (refused : Reason → Work → Work) (w : Work) → ((reason : Reason) → StaysApart (refused reason w)) → StaysApart w →
    StaysApart (h.greet l refused w)
greet_apart l refused w refuses a = unless (slot_where _ w.ring.slots)
  where
    free : (o : Option ℕ) → StaysApart (h.greet_free l refused w o)
    free None = refuses reason.Full
    free (Some i) = sends l.peer (hello_body l) (h.count_session (d.put_slot i l w)) (hello_apart l) a

    unless : (o : Option ℕ) → StaysApart (h.greet_unless l refused w o)
    unless (Some i) = refuses reason.Linked
    unless None = free _

accepted_apart : (l : Link) (w : Work) → StaysApart w → StaysApart (h.hello_accepted l w)
accepted_apart l w a = free (slot_where _ w.ring.slots)
  where
    free : (o : Option ℕ) → StaysApart (h.accept_free l w o)
    free None = a
    free (Some i) = sends l.peer (offer_body l) (h.count_session (d.put_slot i l w)) (offer_apart l) a

pub hello_received_apart : (set : Settings) (now : ℕ) (from : Who) (theirs wire len : ℕ) (w : Work) → StaysApart w →
    StaysApart (h.hello_received set now from theirs wire len w)
unfolding h.hello_received
hello_received_apart set now from theirs wire len w a = meets _
  where
    same : (l : Link) (t : Bool) → StaysApart (h.offer_same l w t)
    same l true = sends l.peer (offer_body l) w (offer_apart l) a
    same l false = a

    again : (theirs : ℕ) (l : Link) (st : LinkState) → StaysApart (h.offer_again theirs l st w)
    again theirs l state.Offered = same l (l.yours == theirs)
    again theirs l st = a

    repeated : (theirs : ℕ) (o : Option Link) → StaysApart (h.hello_repeated theirs o w)
    repeated theirs None = a
    repeated theirs (Some l) = again theirs l l.state

    crossed : (l : Link) (i : ℕ) (t : Bool) → StaysApart (h.hello_crossed l i w t)
    crossed l i true = a
    crossed l i false = accepted_apart l (d.drop_slot i w) a

    of_node : (l : Link) (o : Option ℕ) → StaysApart (h.hello_of_node l w o)
    of_node l None = accepted_apart l w a
    of_node l (Some i) = crossed l i _

    by_instance : (l : Link) (o : Option ℕ) → StaysApart (h.hello_of_instance l w o)
    by_instance l (Some i) = repeated l.yours _
    by_instance l None = of_node l _

    meets : (l : Link) → StaysApart (h.hello_meets l w)
    meets l = by_instance l _

pub offer_received_apart : (now : ℕ) (from : Who) (theirs own len : ℕ) (w : Work) → StaysApart w →
    StaysApart (h.offer_received now from theirs own len w)
unfolding h.offer_received
offer_received_apart now from theirs own len w a = seen (slot_where _ w.ring.slots)
  where
    again : (i : ℕ) (l : Link) (st : LinkState) → StaysApart (h.offer_repeated i l st w)
    again i l state.Bound = sends l.peer _ w refl a
    again i l state.Parting = gone_said l w a
    again i l st = a

    taken : (i : ℕ) (o : Option Link) → StaysApart (h.offer_taken now from theirs len i o w)
    taken i None = a
    taken i (Some l) = record { sends = (sends from (body.Take l.mine theirs) w refl a).sends; tells = a.tells }

    seen : (o : Option ℕ) → StaysApart (h.offer_seen now from theirs own len w o)
    seen (Some i) = taken i _
    seen None = found_apart h.offer_repeated (d.answer_unknown from theirs own) _ w again (unknown_apart from theirs own w a) a

pub take_received_apart : (now : ℕ) (from : Who) (theirs own : ℕ) (w : Work) → StaysApart w → StaysApart (h.take_received now from theirs own w)
unfolding h.take_received
take_received_apart now from theirs own w a = found_apart (h.take_seen now) (d.answer_unknown from theirs own) _ w inside (unknown_apart from theirs own w a) a
  where
    inside : (i : ℕ) (l : Link) (st : LinkState) → StaysApart (h.take_seen now i l st w)
    inside i l state.Offered = sends l.peer _ w refl a
    inside i l state.Parting = gone_said l w a
    inside i l st = a

-- Renewals.

wanted_apart : (i : ℕ) (l : Link) (want : Bool) (w : Work) → StaysApart w → StaysApart (n.grant_wanted i l want w)
wanted_apart i l want w a = granted _
  where
    frozen : (part : List Interval) (t : Bool) → StaysApart (n.freeze_if i part w t)
    frozen part true = a
    frozen part false = a

    granted : (t : Bool) → StaysApart (n.grant_if i l w t)
    granted true = frozen _ _
    granted false = a

pub renew_received_apart : (from : Who) (theirs own stamp version got : ℕ) (want : Bool) (ranges : List Interval) (w : Work) → StaysApart w →
    StaysApart (n.renew_received from theirs own stamp version got want ranges w)
unfolding n.renew_received
renew_received_apart from theirs own stamp version got want ranges w a =
    found_apart (n.renew_seen stamp version got want ranges) (d.answer_unknown from theirs own) _ w inside (unknown_apart from theirs own w a) a
  where
    heard : (i : ℕ) (l : Link) (v : Work) → StaysApart v → StaysApart (n.renew_heard i l stamp version want v)
    heard i l v b =
        wanted_apart i l want (d.send l.peer (body.RenewAck l.mine l.yours stamp version) (d.put_slot i l v))
        (sends l.peer (body.RenewAck l.mine l.yours stamp version) (d.put_slot i l v) refl b)

    inside : (i : ℕ) (l : Link) (st : LinkState) → StaysApart (n.renew_seen stamp version got want ranges i l st w)
    inside i l state.Offered = heard i _ _ a
    inside i l state.Bound = heard i _ w a
    inside i l state.Parting = gone_said l w a
    inside i l st = a

pub ack_received_apart : (from : Who) (theirs own stamp version : ℕ) (w : Work) → StaysApart w → StaysApart (n.ack_received from theirs own stamp version w)
unfolding n.ack_received
ack_received_apart from theirs own stamp version w a = found_apart (n.ack_seen stamp version) (λ v. v) _ w inside a a
  where
    inside : (i : ℕ) (l : Link) (st : LinkState) → StaysApart (n.ack_seen stamp version i l st w)
    inside i l state.Bound = a
    inside i l state.Parting = a
    inside i l st = a

-- Flights.

pub transfer_received_apart : (from : Who) (theirs own number : ℕ) (part : List Interval) (w : Work) → StaysApart w →
    StaysApart (f.transfer_received from theirs own number part w)
unfolding f.transfer_received
transfer_received_apart from theirs own number part w a =
    found_apart (f.transfer_seen number part) (d.answer_unknown from theirs own) _ w inside (unknown_apart from theirs own w a) a
  where
    taken : (i : ℕ) (l : Link) (t : Bool) → StaysApart (f.take_flight i l number part w t)
    taken i l true = tells (report.Took l.peer number part) (d.put_slot i (record l { got = number }) (d.set_token (gained w.ring.token part) w)) refl a
    taken i l false = a

    inside : (i : ℕ) (l : Link) (st : LinkState) → StaysApart (f.transfer_seen number part i l st w)
    inside i l state.Bound = taken i l (nat_lt l.got number && can_gain w.ring.token part)
    inside i l state.Parting = gone_said l w a
    inside i l st = a

answered_apart : (t : Bool) (to : Who) (b : Body) (w : Work) → is_unit_frame b ≡ false → StaysApart w → StaysApart (f.answer_if t to b w)
answered_apart true to b w h a = sends to b w h a
answered_apart false to b w h a = a

close_apart : (i : ℕ) (l : Link) (bound : Bool) (w : Work) → StaysApart w → StaysApart (f.close i l bound w)
close_apart i l bound w a =
    let g = answered_apart bound l.peer (body.Gone l.mine l.yours l.got false) (d.undo_freeze i w) refl a in record { sends = g.sends; tells = g.tells }

pub gone_received_apart : (from : Who) (theirs own got : ℕ) (bound : Bool) (w : Work) → StaysApart w → StaysApart (f.gone_received from theirs own got bound w)
unfolding f.gone_received
gone_received_apart from theirs own got bound w a = found_apart (f.gone_seen got bound) (f.gone_elsewhere from theirs own bound) _ w inside (elsewhere _) a
  where
    returned : (i : ℕ) (l : Link) (z : Flight) (t : Bool) → StaysApart (f.flight_returned i l z bound w t)
    returned i l z false = a
    returned i l z true =
        let gains : Work = d.set_token (gained w.ring.token z.part) w in
        close_apart i l bound (d.tell (report.Returned l.peer z.number z.part) gains) (tells (report.Returned l.peer z.number z.part) gains refl a)

    settled : (i : ℕ) (l : Link) (z : Flight) (t : Bool) → StaysApart (f.flight_settled i l z bound w t)
    settled i l z true = close_apart i l bound w a
    settled i l z false = returned i l z (can_gain w.ring.token z.part)

    heard : (i : ℕ) (l : Link) (o : Option Flight) → StaysApart (f.gone_heard i l got bound o w)
    heard i l None = close_apart i l bound w a
    heard i l (Some z) = settled i l z (nat_le z.number got)

    inside : (i : ℕ) (l : Link) (st : LinkState) → StaysApart (f.gone_seen got bound i l st w)
    inside i l state.Offered = heard i l _
    inside i l state.Bound = heard i l _
    inside i l state.Parting = heard i l _
    inside i l st = a

    elsewhere : (o : Option ℕ) → StaysApart (f.gone_greeting from theirs own bound w o)
    elsewhere None = answered_apart bound from (body.Gone own theirs 0 false) w refl a
    elsewhere (Some i) = answered_apart bound from (body.Gone own theirs 0 false) (d.drop_slot i w) refl a

-- Rulings.

pub ruling_received_apart : (set : Settings) (now : ℕ) (from victim : Who) (ruling : Ruling) (w : Work) → StaysApart w →
    StaysApart (r.ruling_received set now from victim ruling w)
unfolding r.ruling_received
ruling_received_apart set now from victim ruling w a =
    found_apart (r.ruling_seen set now (from.actor - arbiter_actor 0) ruling) (λ v. v) (slot_where (of_instance victim) w.ring.slots) w inside a a
  where
    heir : (i : ℕ) (l : Link) (t : Bool) → StaysApart (r.made_heir set now i l w t)
    heir i l true = tells (report.Discharged l.peer) w refl a
    heir i l false = tells (report.Heir l.peer (r.ripe_at set now l)) (d.put_slot i (record l { state = state.Heir; ripe = r.ripe_at set now l }) w) refl a

    told : (st : LinkState) (l : Link) → StaysApart (r.tell_discharge st l w)
    told state.Accused l = tells (report.Discharged l.peer) w refl a
    told st l = a

    keeps : (i : ℕ) (l : Link) (v : Work) (t : Bool) → StaysApart v → StaysApart (r.kept_discharged i l v t)
    keeps i l v true b = b
    keeps i l v false b = b

    judges : (i : ℕ) (l : Link) (before : LinkState) (v : Verdict) → StaysApart (r.judged set now i l before v w)
    judges i l before verdict.Heir = heir i l (is_bare l)
    judges i l before verdict.Discharged = keeps i l (r.tell_discharge before l w) (is_bare l || not (r.may_succeed set l)) (told before l)
    judges i l before verdict.Lost = leaves Lost w a
    judges i l before verdict.Open = a

    by_tally : (i : ℕ) (st : LinkState) (k : Link) → StaysApart (r.ruling_noted set now i k st w)
    by_tally i st k = judges i k st (verdict_of k.tally)

    inside : (i : ℕ) (l : Link) (st : LinkState) → StaysApart (r.ruling_seen set now (from.actor - arbiter_actor 0) ruling i l st w)
    inside i l state.Accused = by_tally i state.Accused (record l { tally = noted l.tally (from.actor - arbiter_actor 0) ruling })
    inside i l state.Discharged = by_tally i state.Discharged (record l { tally = noted l.tally (from.actor - arbiter_actor 0) ruling })
    inside i l st = a

-- Claims of rounds.

pub claims_apart : (set : Settings) (l : Link) (w : Work) → StaysApart w → StaysApart (q.claim_round set l w)
claims_apart set l w a = where_rounds (r.has_rounds set)
  where
    one : (k : ℕ) (v : Work) (t : Bool) → StaysApart v → StaysApart (q.claim_if k l v t)
    one k v true b = sends (node_instance (arbiter_actor k) 0) (body.Claim l.peer l.rounds.round) v refl b
    one k v false b = b

    first : (k : ℕ) → StaysApart (q.claim_first k l w)
    first zero = a
    first (suc k) = one (suc k) (q.claim_first k l w) (q.owes_round (suc k) l) (first k)

    where_rounds : (t : Bool) → StaysApart (q.claim_where set l w t)
    where_rounds true = first set.arbitrators
    where_rounds false = a

pub kept_received_apart : (set : Settings) (now : ℕ) (from victim : Who) (round : ℕ) (claimer : Who) (w : Work) → StaysApart w →
    StaysApart (q.kept_received set now from victim round claimer w)
unfolding q.kept_received
kept_received_apart set now from victim round claimer w a = where_rounds (r.has_rounds set)
  where
    judges : (i : ℕ) (l : Link) (v : RoundVerdict) → StaysApart (q.round_judged set now i l v w)
    judges i l rounds.Won = tells (report.Heir l.peer (r.ripe_at set now l)) (d.put_slot i (record l { state = state.Heir; ripe = r.ripe_at set now l }) w) refl a
    judges i l (rounds.Next k) = claims_apart set l (d.put_slot i l w) a
    judges i l rounds.Over = a
    judges i l rounds.Open = a

    inside : (i : ℕ) (l : Link) (st : LinkState) → StaysApart (q.kept_seen set now (from.actor - arbiter_actor 0) round claimer i l st w)
    inside i l state.Discharged =
        judges i (record l { rounds = round_noted l.rounds round (from.actor - arbiter_actor 0) claimer })
        (round_verdict l.rounds round (from.actor - arbiter_actor 0) claimer)
    inside i l st = a

    where_rounds : (t : Bool) → StaysApart (q.kept_where set now (from.actor - arbiter_actor 0) victim round claimer w t)
    where_rounds true =
        found_apart (q.kept_seen set now (from.actor - arbiter_actor 0) round claimer) (λ v. v) (slot_where (of_instance victim) w.ring.slots) w inside a a
    where_rounds false = a
