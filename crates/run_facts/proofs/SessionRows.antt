-- What the rows of a session, and of a ruling about one, say of their node.
use Rattle.std.proofs.Common.{ℕ, zero, suc, ◌-◌, Bool, true, false, not, ◌&&◌, ◌||◌, List, Option, Some, None, refl}
use Rattle.std.specs.Prelude.{◌==◌, nat_le, nat_lt}
use Rattle.ring_points.specs.declared.interval.Interval.{Interval}
use Rattle.ring_points.specs.declared.who.Flight.{Flight}
use Rattle.ring_points.specs.declared.who.Ruling.{Ruling}
use Rattle.ring_points.specs.declared.who.Who.{Who}
use Rattle.ring_points.specs.Whos.{arbiter_actor}
use Rattle.fabric_terms.specs.declared.message.Body.{Body}
use Rattle.fabric_terms.specs.declared.message.Body.TheVariants as body
use Rattle.fabric_terms.specs.declared.report.Reason.{Reason}
use Rattle.fabric_terms.specs.declared.report.Reason.TheVariants as reason
use Rattle.fabric_terms.specs.declared.report.Report.TheVariants as report
use Rattle.fabric_terms.specs.declared.report.Why.TheVariants.{Lost}
use Rattle.arbiter_quorum.specs.Tallies.{noted, verdict_of}
use Rattle.arbiter_quorum.specs.declared.verdict.Verdict.{Verdict}
use Rattle.arbiter_quorum.specs.declared.verdict.Verdict.TheVariants as verdict
use Rattle.token_core.specs.Tokens.{gained, can_gain}
use Rattle.ring_rules.specs.declared.link.Link.{Link}
use Rattle.ring_rules.specs.declared.link.LinkState.{LinkState}
use Rattle.ring_rules.specs.declared.link.LinkState.TheVariants as state
use Rattle.ring_rules.specs.Rings.{Settings, Work}
use Rattle.ring_rules.specs.Links.{is_bare}
use Rattle.ring_rules.specs.Slots.{slot_where, of_instance}
use Rattle.ring_rules.specs.Deeds as d
use Rattle.ring_rules.specs.Handshakes as h
use Rattle.ring_rules.specs.Renewals as n
use Rattle.ring_rules.specs.Flights as f
use Rattle.ring_rules.specs.Rulings as r
use Rattle.ring_rules.specs.Claims as q
use Rattle.heir_rounds.specs.Rounds.{round_noted, round_verdict}
use Rattle.heir_rounds.specs.declared.verdict.RoundVerdict.{RoundVerdict}
use Rattle.heir_rounds.specs.declared.verdict.RoundVerdict.TheVariants as rounds
use Rattle.run_facts.proofs.Said.{Says, says_tell, says_bound, says_holding, says_leave}

-- the link with the ruling noted
abbrev noting : Who → Ruling → Link → Link
noting from ruling l = record l { tally = noted l.tally (from.actor - arbiter_actor 0) ruling }

module _ (m0 : Who) where
  abbrev Fine : Work → Type 0
  Fine w = Says m0 w

  -- a session is looked up

  pub slot_says : (row : d.SessionRow) (i : ℕ) (o : Option Link) (w : Work) → ((i : ℕ) (l : Link) (st : LinkState) → Fine (row i l st w)) → Fine w →
      Fine (d.in_slot row i o w)
  slot_says row i None w inside a = a
  slot_says row i (Some l) w inside a = inside i l l.state

  pub found_says : (row : d.SessionRow) (none : Work → Work) (o : Option ℕ) (w : Work) →
      ((i : ℕ) (l : Link) (st : LinkState) → Fine (row i l st w)) → Fine (none w) → Fine w → Fine (d.in_found row none o w)
  found_says row none None w inside outside a = outside
  found_says row none (Some i) w inside outside a = slot_says row i _ w inside a

  -- handshakes

  pub greet_says : (l : Link) (refused : Reason → Work → Work) (w : Work) → ((reason : Reason) → Fine (refused reason w)) → Fine w →
      Fine (h.greet l refused w)
  greet_says l refused w refuses a = unless (slot_where _ w.ring.slots)
    where
      free : (o : Option ℕ) → Fine (h.greet_free l refused w o)
      free None = refuses reason.Full
      free (Some i) = a

      unless : (o : Option ℕ) → Fine (h.greet_unless l refused w o)
      unless (Some i) = refuses reason.Linked
      unless None = free _

  pub accepted_says : (l : Link) (w : Work) → Fine w → Fine (h.hello_accepted l w)
  accepted_says l w a = free (slot_where _ w.ring.slots)
    where
      free : (o : Option ℕ) → Fine (h.accept_free l w o)
      free None = a
      free (Some i) = a

  pub hello_says : (set : Settings) (now : ℕ) (from : Who) (theirs wire len : ℕ) (w : Work) → Fine w →
      Fine (h.hello_received set now from theirs wire len w)
  unfolding h.hello_received
  hello_says set now from theirs wire len w a = meets _
    where
      again : (theirs : ℕ) (l : Link) (st : LinkState) (t : Bool) → Fine (h.offer_again theirs l st w)
      again theirs l state.Offered t = same (l.yours == theirs)
        where
          same : (t : Bool) → Fine (h.offer_same l w t)
          same true = a
          same false = a
      again theirs l st t = a

      repeated : (theirs : ℕ) (o : Option Link) → Fine (h.hello_repeated theirs o w)
      repeated theirs None = a
      repeated theirs (Some l) = again theirs l l.state true

      crossed : (l : Link) (i : ℕ) (t : Bool) → Fine (h.hello_crossed l i w t)
      crossed l i true = a
      crossed l i false = accepted_says l (d.drop_slot i w) a

      of_node : (l : Link) (o : Option ℕ) → Fine (h.hello_of_node l w o)
      of_node l None = accepted_says l w a
      of_node l (Some i) = crossed l i _

      of_instance : (l : Link) (o : Option ℕ) → Fine (h.hello_of_instance l w o)
      of_instance l (Some i) = repeated l.yours _
      of_instance l None = of_node l _

      meets : (l : Link) → Fine (h.hello_meets l w)
      meets l = of_instance l _

  pub offer_says : (now : ℕ) (from : Who) (theirs own len : ℕ) (w : Work) → Fine w → Fine (h.offer_received now from theirs own len w)
  unfolding h.offer_received
  offer_says now from theirs own len w a = seen (slot_where _ w.ring.slots)
    where
      again : (i : ℕ) (l : Link) (st : LinkState) → Fine (h.offer_repeated i l st w)
      again i l state.Bound = a
      again i l state.Parting = a
      again i l st = a

      taken : (i : ℕ) (o : Option Link) → Fine (h.offer_taken now from theirs len i o w)
      taken i None = a
      taken i (Some l) = says_bound m0 w a

      seen : (o : Option ℕ) → Fine (h.offer_seen now from theirs own len w o)
      seen (Some i) = taken i _
      seen None = found_says h.offer_repeated (d.answer_unknown from theirs own) _ w again a a

  pub take_says : (now : ℕ) (from : Who) (theirs own : ℕ) (w : Work) → Fine w → Fine (h.take_received now from theirs own w)
  unfolding h.take_received
  take_says now from theirs own w a = found_says (h.take_seen now) (d.answer_unknown from theirs own) _ w inside a a
    where
      inside : (i : ℕ) (l : Link) (st : LinkState) → Fine (h.take_seen now i l st w)
      inside i l state.Offered = says_bound m0 w a
      inside i l state.Parting = a
      inside i l st = a

  -- renewals

  pub wanted_says : (i : ℕ) (l : Link) (want : Bool) (w : Work) → Fine w → Fine (n.grant_wanted i l want w)
  wanted_says i l want w a = granted _
    where
      frozen : (part : List Interval) (t : Bool) → Fine (n.freeze_if i part w t)
      frozen part true = a
      frozen part false = a

      granted : (t : Bool) → Fine (n.grant_if i l w t)
      granted true = frozen _ _
      granted false = a

  pub renew_says : (from : Who) (theirs own stamp version got : ℕ) (want : Bool) (ranges : List Interval) (w : Work) → Fine w →
      Fine (n.renew_received from theirs own stamp version got want ranges w)
  unfolding n.renew_received
  renew_says from theirs own stamp version got want ranges w a = found_says (n.renew_seen stamp version got want ranges) (d.answer_unknown from theirs own) _ w inside a a
    where
      heard : (i : ℕ) (l : Link) (v : Work) → Fine v → Fine (n.renew_heard i l stamp version want v)
      heard i l v b = wanted_says i l want (d.send l.peer (body.RenewAck l.mine l.yours stamp version) (d.put_slot i l v)) b

      inside : (i : ℕ) (l : Link) (st : LinkState) → Fine (n.renew_seen stamp version got want ranges i l st w)
      inside i l state.Offered = heard i _ _ (says_bound m0 w a)
      inside i l state.Bound = heard i _ w a
      inside i l state.Parting = a
      inside i l st = a

  pub ack_says : (from : Who) (theirs own stamp version : ℕ) (w : Work) → Fine w → Fine (n.ack_received from theirs own stamp version w)
  unfolding n.ack_received
  ack_says from theirs own stamp version w a = found_says (n.ack_seen stamp version) (λ v. v) _ w inside a a
    where
      inside : (i : ℕ) (l : Link) (st : LinkState) → Fine (n.ack_seen stamp version i l st w)
      inside i l state.Bound = a
      inside i l state.Parting = a
      inside i l st = a

  -- flights

  pub transfer_says : (from : Who) (theirs own number : ℕ) (part : List Interval) (w : Work) → Fine w →
      Fine (f.transfer_received from theirs own number part w)
  unfolding f.transfer_received
  transfer_says from theirs own number part w a = found_says (f.transfer_seen number part) (d.answer_unknown from theirs own) _ w inside a a
    where
      taken : (i : ℕ) (l : Link) (t : Bool) → Fine (f.take_flight i l number part w t)
      taken i l true =
          let put : Work = d.put_slot i (record l { got = number }) (d.set_token (gained w.ring.token part) w) in
          let tells : Work = d.tell (report.Took l.peer number part) put in
          says_holding m0 tells (says_tell m0 (report.Took l.peer number part) put refl refl a)
      taken i l false = a

      inside : (i : ℕ) (l : Link) (st : LinkState) → Fine (f.transfer_seen number part i l st w)
      inside i l state.Bound = taken i l (nat_lt l.got number && can_gain w.ring.token part)
      inside i l state.Parting = a
      inside i l st = a

  pub answered_says : (t : Bool) (to : Who) (b : Body) (w : Work) → Fine w → Fine (f.answer_if t to b w)
  answered_says true to b w a = a
  answered_says false to b w a = a

  pub close_says : (i : ℕ) (l : Link) (bound : Bool) (w : Work) → Fine w → Fine (f.close i l bound w)
  close_says i l bound w a = answered_says bound l.peer (body.Gone l.mine l.yours l.got false) (d.undo_freeze i w) a

  pub gone_says : (from : Who) (theirs own got : ℕ) (bound : Bool) (w : Work) → Fine w → Fine (f.gone_received from theirs own got bound w)
  unfolding f.gone_received
  gone_says from theirs own got bound w a = found_says (f.gone_seen got bound) (f.gone_elsewhere from theirs own bound) _ w inside (elsewhere _) a
    where
      returned : (i : ℕ) (l : Link) (z : Flight) (t : Bool) → Fine (f.flight_returned i l z bound w t)
      returned i l z false = a
      returned i l z true =
          let gains : Work = d.set_token (gained w.ring.token z.part) w in
          close_says i l bound (d.tell (report.Returned l.peer z.number z.part) gains) (says_tell m0 (report.Returned l.peer z.number z.part) gains refl refl a)

      settled : (i : ℕ) (l : Link) (z : Flight) (t : Bool) → Fine (f.flight_settled i l z bound w t)
      settled i l z true = close_says i l bound w a
      settled i l z false = returned i l z (can_gain w.ring.token z.part)

      heard : (i : ℕ) (l : Link) (o : Option Flight) → Fine (f.gone_heard i l got bound o w)
      heard i l None = close_says i l bound w a
      heard i l (Some z) = settled i l z (nat_le z.number got)

      inside : (i : ℕ) (l : Link) (st : LinkState) → Fine (f.gone_seen got bound i l st w)
      inside i l state.Offered = heard i l _
      inside i l state.Bound = heard i l _
      inside i l state.Parting = heard i l _
      inside i l st = a

      elsewhere : (o : Option ℕ) → Fine (f.gone_greeting from theirs own bound w o)
      elsewhere None = answered_says bound from (body.Gone own theirs 0 false) w a
      elsewhere (Some i) = answered_says bound from (body.Gone own theirs 0 false) (d.drop_slot i w) a

  -- rulings

  pub ruling_says : (set : Settings) (now : ℕ) (from victim : Who) (ruling : Ruling) (w : Work) → Fine w →
      Fine (r.ruling_received set now from victim ruling w)
  unfolding r.ruling_received
  ruling_says set now from victim ruling w a =
      found_says (r.ruling_seen set now (from.actor - arbiter_actor 0) ruling) (λ v. v) (slot_where (of_instance victim) w.ring.slots) w inside a a
    where
      heir : (i : ℕ) (l : Link) (t : Bool) → Fine (r.made_heir set now i l w t)
      heir i l true = says_tell m0 (report.Discharged l.peer) w refl refl a
      heir i l false = says_tell m0 (report.Heir l.peer (r.ripe_at set now l)) (d.put_slot i (record l { state = state.Heir; ripe = r.ripe_at set now l }) w) refl refl a

      tells : (st : LinkState) (l : Link) → Fine (r.tell_discharge st l w)
      tells state.Accused l = says_tell m0 (report.Discharged l.peer) w refl refl a
      tells st l = a

      keeps : (i : ℕ) (l : Link) (v : Work) (t : Bool) → Fine v → Fine (r.kept_discharged i l v t)
      keeps i l v true b = b
      keeps i l v false b = b

      judges : (i : ℕ) (l : Link) (before : LinkState) (v : Verdict) → Fine (r.judged set now i l before v w)
      judges i l before verdict.Heir = heir i l (is_bare l)
      judges i l before verdict.Discharged = keeps i l (r.tell_discharge before l w) (is_bare l || not (r.may_succeed set l)) (tells before l)
      judges i l before verdict.Lost = says_leave m0 Lost w a
      judges i l before verdict.Open = a

      inside : (i : ℕ) (l : Link) (st : LinkState) → Fine (r.ruling_seen set now (from.actor - arbiter_actor 0) ruling i l st w)
      inside i l state.Accused = judges i (noting from ruling l) state.Accused (verdict_of (noting from ruling l).tally)
      inside i l state.Discharged = judges i (noting from ruling l) state.Discharged (verdict_of (noting from ruling l).tally)
      inside i l st = a

  -- claims of rounds

  pub claims_say : (set : Settings) (l : Link) (w : Work) → Fine w → Fine (q.claim_round set l w)
  claims_say set l w a = where_rounds (r.has_rounds set)
    where
      one : (n : ℕ) (v : Work) (t : Bool) → Fine v → Fine (q.claim_if n l v t)
      one n v true b = b
      one n v false b = b

      first : (k : ℕ) → Fine (q.claim_first k l w)
      first zero = a
      first (suc k) = one (suc k) (q.claim_first k l w) (q.owes_round (suc k) l) (first k)

      where_rounds : (t : Bool) → Fine (q.claim_where set l w t)
      where_rounds true = first set.arbitrators
      where_rounds false = a

  pub kept_says : (set : Settings) (now : ℕ) (from victim : Who) (round : ℕ) (claimer : Who) (w : Work) → Fine w →
      Fine (q.kept_received set now from victim round claimer w)
  unfolding q.kept_received
  kept_says set now from victim round claimer w a = where_rounds (r.has_rounds set)
    where
      judges : (i : ℕ) (l : Link) (v : RoundVerdict) → Fine (q.round_judged set now i l v w)
      judges i l rounds.Won =
          says_tell m0 (report.Heir l.peer (r.ripe_at set now l)) (d.put_slot i (record l { state = state.Heir; ripe = r.ripe_at set now l }) w) refl refl a
      judges i l (rounds.Next n) = claims_say set l (d.put_slot i l w) a
      judges i l rounds.Over = a
      judges i l rounds.Open = a

      inside : (i : ℕ) (l : Link) (st : LinkState) → Fine (q.kept_seen set now (from.actor - arbiter_actor 0) round claimer i l st w)
      inside i l state.Discharged =
          judges i (record l { rounds = round_noted l.rounds round (from.actor - arbiter_actor 0) claimer })
          (round_verdict l.rounds round (from.actor - arbiter_actor 0) claimer)
      inside i l st = a

      where_rounds : (t : Bool) → Fine (q.kept_where set now (from.actor - arbiter_actor 0) victim round claimer w t)
      where_rounds true =
          found_says (q.kept_seen set now (from.actor - arbiter_actor 0) round claimer) (λ v. v) (slot_where (of_instance victim) w.ring.slots) w inside a a
      where_rounds false = a
