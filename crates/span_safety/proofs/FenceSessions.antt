-- What the rows of a session, and of a ruling about one, leave of the leases.
use Rattle.std.proofs.Common.{◌≡◌, ℕ, ◌+◌, ◌≤◌, Bool, true, false, ◌&&◌, List, Option, Some, None, refl, sym, ap, ◌∙◌, subst, arith}
use Rattle.std.specs.Prelude.{◌==◌, min, nat_le, nat_lt}
use Rattle.ring_points.specs.declared.interval.Interval.{Interval}
use Rattle.ring_points.specs.declared.who.Flight.{Flight}
use Rattle.ring_points.specs.declared.who.Who.{Who}
use Rattle.fabric_terms.specs.declared.message.Body.{Body}
use Rattle.fabric_terms.specs.declared.message.Body.TheVariants as body
use Rattle.fabric_terms.specs.declared.report.Reason.{Reason}
use Rattle.fabric_terms.specs.declared.report.Reason.TheVariants as reason
use Rattle.fabric_terms.specs.declared.report.Report.TheVariants as report
use Rattle.token_core.specs.Tokens.{can_gain, gained}
use Rattle.ring_rules.specs.declared.link.Link.{Link}
use Rattle.ring_rules.specs.declared.link.LinkState.{LinkState}
use Rattle.ring_rules.specs.declared.link.LinkState.TheVariants as state
use Rattle.ring_rules.specs.Rings.{Settings, Work}
use Rattle.ring_rules.specs.Links.{bound_link, offered_link, recorded_if, renewed, acknowledged}
use Rattle.ring_rules.specs.Slots.{guards, slot_at, slot_where}
use Rattle.ring_rules.specs.Deeds as d
use Rattle.ring_rules.specs.Handshakes as h
use Rattle.ring_rules.specs.Renewals as n
use Rattle.ring_rules.specs.Flights as f
use Rattle.span_safety.proofs.Lasting.{AllLast, Lasts, all_at, drops, puts}

module _ (set : Settings) (least now : ℕ) (soon : least ≤ now + set.lease + set.answer) where
  abbrev Fine : Work → Type 0
  Fine w = AllLast set.lease set.answer least w.ring.slots

  abbrev Long : Link → Type 0
  Long l = Lasts set.lease set.answer least l

  -- a session is looked up

  pub slot_keeps : (row : d.SessionRow) (i : ℕ) (o : Option Link) (w : Work) → slot_at i w.ring.slots ≡ o →
      ((l : Link) (st : LinkState) → l.state ≡ st → Long l → Fine (row i l st w)) → Fine w → Fine (d.in_slot row i o w)
  slot_keeps row i None w e inside a = a
  slot_keeps row i (Some l) w e inside a = inside l l.state refl (all_at set.lease set.answer least w.ring.slots i l a e)

  pub found_keeps : (row : d.SessionRow) (none : Work → Work) (o : Option ℕ) (w : Work) →
      ((i : ℕ) (l : Link) (st : LinkState) → l.state ≡ st → Long l → Fine (row i l st w)) → Fine (none w) → Fine w →
      Fine (d.in_found row none o w)
  found_keeps row none None w inside outside a = outside
  found_keeps row none (Some i) w inside outside a = slot_keeps row i _ w refl (inside i) a

  -- handshakes

  pub greet_keeps : (l : Link) (refused : Reason → Work → Work) (w : Work) → Long l → ((reason : Reason) → Fine (refused reason w)) → Fine w →
      Fine (h.greet l refused w)
  greet_keeps l refused w lasts refuses a = unless (slot_where _ w.ring.slots)
    where
      free : (o : Option ℕ) → Fine (h.greet_free l refused w o)
      free None = refuses reason.Full
      free (Some i) = puts set.lease set.answer least i l w lasts a

      unless : (o : Option ℕ) → Fine (h.greet_unless l refused w o)
      unless (Some i) = refuses reason.Linked
      unless None = free _

  pub accepted_keeps : (l : Link) (w : Work) → Long l → Fine w → Fine (h.hello_accepted l w)
  accepted_keeps l w lasts a = free (slot_where _ w.ring.slots)
    where
      free : (o : Option ℕ) → Fine (h.accept_free l w o)
      free None = a
      free (Some i) = puts set.lease set.answer least i l w lasts a

  pub hello_keeps : (from : Who) (theirs wire : ℕ) (w : Work) → Fine w → Fine (h.hello_received set now from theirs wire set.lease w)
  unfolding h.hello_received
  hello_keeps from theirs wire w a = meets (offered_link set now w.ring from theirs wire set.lease) (refl, λ g. soon)
    where
      again : (theirs : ℕ) (l : Link) (st : LinkState) → Fine (h.offer_again theirs l st w)
      again theirs l state.Offered = same (l.yours == theirs)
        where
          same : (t : Bool) → Fine (h.offer_same l w t)
          same true = a
          same false = a
      again theirs l st = a

      repeated : (theirs : ℕ) (o : Option Link) → Fine (h.hello_repeated theirs o w)
      repeated theirs None = a
      repeated theirs (Some l) = again theirs l l.state

      crossed : (l : Link) (i : ℕ) (t : Bool) → Long l → Fine (h.hello_crossed l i w t)
      crossed l i true lasts = a
      crossed l i false lasts = accepted_keeps l (d.drop_slot i w) lasts (drops set.lease set.answer least i w a)

      of_node : (l : Link) (o : Option ℕ) → Long l → Fine (h.hello_of_node l w o)
      of_node l None lasts = accepted_keeps l w lasts a
      of_node l (Some i) lasts = crossed l i _ lasts

      of_instance : (l : Link) (o : Option ℕ) → Long l → Fine (h.hello_of_instance l w o)
      of_instance l (Some i) lasts = repeated l.yours _
      of_instance l None lasts = of_node l _ lasts

      meets : (l : Link) → Long l → Fine (h.hello_meets l w)
      meets l lasts = of_instance l _ lasts

  -- a greeting of the configured length is answered with that length
  bound_lasts : (l : Link) (from : Who) (theirs : ℕ) → Long l → Long (bound_link now l from theirs set.lease)
  bound_lasts l from theirs lasts = (least_is, λ g. subst (λ k. least ≤ now + k + set.answer) (sym least_is) soon)
    where
      least_is : min l.len set.lease ≡ set.lease
      least_is = let e = lasts.0 in omega arith

  pub offer_keeps : (from : Who) (theirs own : ℕ) (w : Work) → Fine w → Fine (h.offer_received now from theirs own set.lease w)
  unfolding h.offer_received
  offer_keeps from theirs own w a = seen (slot_where _ w.ring.slots)
    where
      again : (i : ℕ) (l : Link) (st : LinkState) → l.state ≡ st → Long l → Fine (h.offer_repeated i l st w)
      again i l state.Bound e lasts = a
      again i l state.Parting e lasts = a
      again i l st e lasts = a

      taken : (i : ℕ) (o : Option Link) → slot_at i w.ring.slots ≡ o → Fine (h.offer_taken now from theirs set.lease i o w)
      taken i None e = a
      taken i (Some l) e = puts set.lease set.answer least i (bound_link now l from theirs set.lease) w (bound_lasts l from theirs (all_at set.lease set.answer least w.ring.slots i l a e)) a

      seen : (o : Option ℕ) → Fine (h.offer_seen now from theirs own set.lease w o)
      seen (Some i) = taken i _ refl
      seen None = found_keeps h.offer_repeated (d.answer_unknown from theirs own) _ w again a a

  -- a state that guards
  pub guarding : (l : Link) (st : LinkState) → l.state ≡ st → guards st ≡ true → Long l → least ≤ l.until + set.answer
  guarding l st e g lasts = lasts.1 (ap guards e ∙ g)

  pub take_keeps : (from : Who) (theirs own : ℕ) (w : Work) → Fine w → Fine (h.take_received now from theirs own w)
  unfolding h.take_received
  take_keeps from theirs own w a = found_keeps (h.take_seen now) (d.answer_unknown from theirs own) _ w inside a a
    where
      inside : (i : ℕ) (l : Link) (st : LinkState) → l.state ≡ st → Long l → Fine (h.take_seen now i l st w)
      inside i l state.Offered e lasts = puts set.lease set.answer least i (record l { state = state.Bound }) w (lasts.0, λ g. guarding l state.Offered e refl lasts) a
      inside i l state.Parting e lasts = a
      inside i l st e lasts = a

  -- renewals

  wanted_keeps : (i : ℕ) (l : Link) (want : Bool) (w : Work) → Fine w → Fine (n.grant_wanted i l want w)
  wanted_keeps i l want w a = granted _
    where
      frozen : (part : List Interval) (t : Bool) → Fine (n.freeze_if i part w t)
      frozen part true = a
      frozen part false = a

      granted : (t : Bool) → Fine (n.grant_if i l w t)
      granted true = frozen _ _
      granted false = a

  -- a Renew changes neither the length nor the end of a lease
  renewed_lasts : (l : Link) (version got : ℕ) (ranges : List Interval) → l.len ≡ set.lease → least ≤ l.until + set.answer → Long (renewed l version got ranges)
  renewed_lasts l version got ranges len le = (same_len (nat_lt l.held_version version) ∙ len, λ g. subst (λ t. least ≤ t + set.answer) (sym (same_until (nat_lt l.held_version version))) le)
    where
      same_len : (t : Bool) → (recorded_if l version ranges t).len ≡ l.len
      same_len true = refl
      same_len false = refl

      same_until : (t : Bool) → (recorded_if l version ranges t).until ≡ l.until
      same_until true = refl
      same_until false = refl

  pub renew_keeps : (from : Who) (theirs own stamp version got : ℕ) (want : Bool) (ranges : List Interval) (w : Work) → Fine w →
      Fine (n.renew_received from theirs own stamp version got want ranges w)
  unfolding n.renew_received
  renew_keeps from theirs own stamp version got want ranges w a =
      found_keeps (n.renew_seen stamp version got want ranges) (d.answer_unknown from theirs own) _ w inside a a
    where
      heard : (i : ℕ) (l : Link) (v : Work) → Long l → Fine v → Fine (n.renew_heard i l stamp version want v)
      heard i l v lasts b = wanted_keeps i l want (d.send l.peer (body.RenewAck l.mine l.yours stamp version) (d.put_slot i l v)) (puts set.lease set.answer least i l v lasts b)

      inside : (i : ℕ) (l : Link) (st : LinkState) → l.state ≡ st → Long l → Fine (n.renew_seen stamp version got want ranges i l st w)
      inside i l state.Offered e lasts = heard i _ _ (renewed_lasts l version got ranges lasts.0 (guarding l state.Offered e refl lasts)) a
      inside i l state.Bound e lasts = heard i _ w (renewed_lasts l version got ranges lasts.0 (guarding l state.Bound e refl lasts)) a
      inside i l state.Parting e lasts = a
      inside i l st e lasts = a

  -- an acknowledgement never makes a lease shorter
  acked_lasts : (l : Link) (stamp version : ℕ) → Long l → Long (acknowledged l stamp version)
  acked_lasts l stamp version lasts = (lasts.0, λ g. let le = lasts.1 g in omega arith)

  pub ack_keeps : (from : Who) (theirs own stamp version : ℕ) (w : Work) → Fine w → Fine (n.ack_received from theirs own stamp version w)
  unfolding n.ack_received
  ack_keeps from theirs own stamp version w a = found_keeps (n.ack_seen stamp version) (λ v. v) _ w inside a a
    where
      inside : (i : ℕ) (l : Link) (st : LinkState) → l.state ≡ st → Long l → Fine (n.ack_seen stamp version i l st w)
      inside i l state.Bound e lasts = puts set.lease set.answer least i (acknowledged l stamp version) w (acked_lasts l stamp version lasts) a
      inside i l state.Parting e lasts = puts set.lease set.answer least i (acknowledged l stamp version) w (acked_lasts l stamp version lasts) a
      inside i l st e lasts = a

  -- flights

  pub transfer_keeps : (from : Who) (theirs own number : ℕ) (part : List Interval) (w : Work) → Fine w →
      Fine (f.transfer_received from theirs own number part w)
  unfolding f.transfer_received
  transfer_keeps from theirs own number part w a = found_keeps (f.transfer_seen number part) (d.answer_unknown from theirs own) _ w inside a a
    where
      taken : (i : ℕ) (l : Link) (t : Bool) → Long l → Fine (f.take_flight i l number part w t)
      taken i l true lasts = puts set.lease set.answer least i (record l { got = number }) w lasts a
      taken i l false lasts = a

      inside : (i : ℕ) (l : Link) (st : LinkState) → l.state ≡ st → Long l → Fine (f.transfer_seen number part i l st w)
      inside i l state.Bound e lasts = taken i l (nat_lt l.got number && can_gain w.ring.token part) lasts
      inside i l state.Parting e lasts = a
      inside i l st e lasts = a

  answered_keeps : (t : Bool) (to : Who) (b : Body) (w : Work) → Fine w → Fine (f.answer_if t to b w)
  answered_keeps true to b w a = a
  answered_keeps false to b w a = a

  close_keeps : (i : ℕ) (l : Link) (bound : Bool) (w : Work) → Fine w → Fine (f.close i l bound w)
  close_keeps i l bound w a =
      let undoes : Work = d.undo_freeze i w in
      let answers : Work = f.answer_if bound l.peer (body.Gone l.mine l.yours l.got false) undoes in
      drops set.lease set.answer least i answers (answered_keeps bound l.peer (body.Gone l.mine l.yours l.got false) undoes a)

  pub gone_keeps : (from : Who) (theirs own got : ℕ) (bound : Bool) (w : Work) → Fine w → Fine (f.gone_received from theirs own got bound w)
  unfolding f.gone_received
  gone_keeps from theirs own got bound w a = found_keeps (f.gone_seen got bound) (f.gone_elsewhere from theirs own bound) _ w inside (elsewhere _) a
    where
      returned : (i : ℕ) (l : Link) (z : Flight) (t : Bool) → Fine (f.flight_returned i l z bound w t)
      returned i l z false = a
      returned i l z true =
          let gains : Work = d.set_token (gained w.ring.token z.part) w in close_keeps i l bound (d.tell (report.Returned l.peer z.number z.part) gains) a

      settled : (i : ℕ) (l : Link) (z : Flight) (t : Bool) → Fine (f.flight_settled i l z bound w t)
      settled i l z true = close_keeps i l bound w a
      settled i l z false = returned i l z (can_gain w.ring.token z.part)

      heard : (i : ℕ) (l : Link) (o : Option Flight) → Fine (f.gone_heard i l got bound o w)
      heard i l None = close_keeps i l bound w a
      heard i l (Some z) = settled i l z (nat_le z.number got)

      inside : (i : ℕ) (l : Link) (st : LinkState) → l.state ≡ st → Long l → Fine (f.gone_seen got bound i l st w)
      inside i l state.Offered e lasts = heard i l _
      inside i l state.Bound e lasts = heard i l _
      inside i l state.Parting e lasts = heard i l _
      inside i l st e lasts = a

      elsewhere : (o : Option ℕ) → Fine (f.gone_greeting from theirs own bound w o)
      elsewhere None = answered_keeps bound from (body.Gone own theirs 0 false) w a
      elsewhere (Some i) = answered_keeps bound from (body.Gone own theirs 0 false) (d.drop_slot i w) (drops set.lease set.answer least i w a)
