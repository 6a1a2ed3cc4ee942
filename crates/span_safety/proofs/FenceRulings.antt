-- What the rows of a ruling about a peer, and of a round, leave of the leases.
use Rattle.std.proofs.Common.{◌≡◌, ℕ, zero, suc, ◌+◌, ◌-◌, ◌≤◌, Bool, true, false, not, ◌||◌, refl, sym, ◌∙◌}
use Rattle.ring_points.specs.declared.who.Ruling.{Ruling}
use Rattle.ring_points.specs.declared.who.Who.{Who}
use Rattle.ring_points.specs.Whos.{arbiter_actor}
use Rattle.arbiter_quorum.specs.Tallies.{noted, verdict_of}
use Rattle.arbiter_quorum.specs.declared.verdict.Verdict.{Verdict}
use Rattle.arbiter_quorum.specs.declared.verdict.Verdict.TheVariants as verdict
use Rattle.heir_rounds.specs.Rounds.{round_noted, round_verdict}
use Rattle.heir_rounds.specs.declared.verdict.RoundVerdict.{RoundVerdict}
use Rattle.heir_rounds.specs.declared.verdict.RoundVerdict.TheVariants as rounds
use Rattle.ring_rules.specs.declared.link.Link.{Link}
use Rattle.ring_rules.specs.declared.link.LinkState.{LinkState}
use Rattle.ring_rules.specs.declared.link.LinkState.TheVariants as state
use Rattle.ring_rules.specs.Rings.{Settings, Work}
use Rattle.ring_rules.specs.Links.{is_bare}
use Rattle.ring_rules.specs.Slots.{guards, slot_where, of_instance}
use Rattle.ring_rules.specs.Deeds as d
use Rattle.ring_rules.specs.Rulings as r
use Rattle.ring_rules.specs.Claims as q
use Rattle.span_safety.proofs.Lasting.{AllLast, Lasts, drops, puts}
use Rattle.span_safety.proofs.FenceSessions.{found_keeps}

module _ (set : Settings) (least now : ℕ) (soon : least ≤ now + set.lease + set.answer) where
  abbrev Fine : Work → Type 0
  Fine w = AllLast set.lease set.answer least w.ring.slots

  abbrev Long : Link → Type 0
  Long l = Lasts set.lease set.answer least l

  -- rulings

  -- a state that does not count
  idle : {A : Type 0} (st : LinkState) → guards st ≡ false → guards st ≡ true → A
  idle st n y = absurd (let e : false ≡ true = sym n ∙ y in cc (e))

  pub heir_keeps : (i : ℕ) (l : Link) (w : Work) → Long l → Fine w → Fine (r.becomes_heir set now i l w)
  heir_keeps i l w lasts a =
      puts set.lease set.answer least i (record l { state = state.Heir; ripe = r.ripe_at set now l }) w (lasts.0, λ g. idle state.Heir refl g) a

  pub ruling_keeps : (from victim : Who) (ruling : Ruling) (w : Work) → Fine w → Fine (r.ruling_received set now from victim ruling w)
  unfolding r.ruling_received
  ruling_keeps from victim ruling w a =
      found_keeps set least now soon (r.ruling_seen set now (from.actor - arbiter_actor 0) ruling) (λ v. v) (slot_where (of_instance victim) w.ring.slots) w inside a a
    where
      heir : (i : ℕ) (l : Link) (t : Bool) → Long l → Fine (r.made_heir set now i l w t)
      heir i l true lasts = drops set.lease set.answer least i w a
      heir i l false lasts = heir_keeps i l w lasts a

      tells : (st : LinkState) (l : Link) → Fine (r.tell_discharge st l w)
      tells state.Accused l = a
      tells st l = a

      keeps : (i : ℕ) (l : Link) (v : Work) (t : Bool) → Long l → Fine v → Fine (r.kept_discharged i l v t)
      keeps i l v true lasts b = drops set.lease set.answer least i v b
      keeps i l v false lasts b = puts set.lease set.answer least i (record l { state = state.Discharged }) v (lasts.0, λ g. idle state.Discharged refl g) b

      judges : (i : ℕ) (l : Link) (before : LinkState) (v : Verdict) → Long l → Fine (r.judged set now i l before v w)
      judges i l before verdict.Heir lasts = heir i l (is_bare l) lasts
      judges i l before verdict.Discharged lasts = keeps i l (r.tell_discharge before l w) (is_bare l || not (r.may_succeed set l)) lasts (tells before l)
      judges i l before verdict.Lost lasts = tt
      judges i l before verdict.Open lasts = puts set.lease set.answer least i l w lasts a

      inside : (i : ℕ) (l : Link) (st : LinkState) → l.state ≡ st → Long l → Fine (r.ruling_seen set now (from.actor - arbiter_actor 0) ruling i l st w)
      inside i l state.Accused e lasts =
          let k : Link = record l { tally = noted l.tally (from.actor - arbiter_actor 0) ruling } in judges i k state.Accused (verdict_of k.tally) lasts
      inside i l state.Discharged e lasts =
          let k : Link = record l { tally = noted l.tally (from.actor - arbiter_actor 0) ruling } in judges i k state.Discharged (verdict_of k.tally) lasts
      inside i l st e lasts = a

  -- claims of rounds

  pub claims_keep : (l : Link) (w : Work) → Fine w → Fine (q.claim_round set l w)
  claims_keep l w a = where_rounds (r.has_rounds set)
    where
      one : (k : ℕ) (v : Work) (t : Bool) → Fine v → Fine (q.claim_if k l v t)
      one k v true b = b
      one k v false b = b

      first : (k : ℕ) → Fine (q.claim_first k l w)
      first zero = a
      first (suc k) = one (suc k) (q.claim_first k l w) (q.owes_round (suc k) l) (first k)

      where_rounds : (t : Bool) → Fine (q.claim_where set l w t)
      where_rounds true = first set.arbitrators
      where_rounds false = a

  pub kept_keeps : (from victim : Who) (round : ℕ) (claimer : Who) (w : Work) → Fine w → Fine (q.kept_received set now from victim round claimer w)
  unfolding q.kept_received
  kept_keeps from victim round claimer w a = where_rounds (r.has_rounds set)
    where
      judges : (i : ℕ) (l : Link) (v : RoundVerdict) → Long l → Fine (q.round_judged set now i l v w)
      judges i l rounds.Won lasts = heir_keeps i l w lasts a
      judges i l (rounds.Next k) lasts = claims_keep l (d.put_slot i l w) (puts set.lease set.answer least i l w lasts a)
      judges i l rounds.Over lasts = drops set.lease set.answer least i w a
      judges i l rounds.Open lasts = puts set.lease set.answer least i l w lasts a

      inside : (i : ℕ) (l : Link) (st : LinkState) → l.state ≡ st → Long l → Fine (q.kept_seen set now (from.actor - arbiter_actor 0) round claimer i l st w)
      inside i l state.Discharged e lasts =
          judges i (record l { rounds = round_noted l.rounds round (from.actor - arbiter_actor 0) claimer })
          (round_verdict l.rounds round (from.actor - arbiter_actor 0) claimer) lasts
      inside i l st e lasts = a

      where_rounds : (t : Bool) → Fine (q.kept_where set now (from.actor - arbiter_actor 0) victim round claimer w t)
      where_rounds true =
          found_keeps set least now soon (q.kept_seen set now (from.actor - arbiter_actor 0) round claimer) (λ v. v) (slot_where (of_instance victim) w.ring.slots) w inside a a
      where_rounds false = a
