-- What the arbitrators' rulings make of a slot.
use Rattle.std.proofs.Common.{◌≡◌, ℕ, ◌+◌, ◌-◌, ◌<◌, ◌≤◌, ◌||◌, ◌&&◌, nat_le, nat_lt, not, Bool, true, false, List, [], ◌∷◌, ◌++◌, length, Option, Some, None, ◌⊎◌, refl, sym, ap, subst, inl, inr, arith}
use Rattle.std.specs.Prelude.{is_some}
use Rattle.std.proofs.lemmas.Bool.{le-leb, and_parts}
use Rattle.ring_points.specs.declared.interval.Interval.{Interval}
use Rattle.ring_points.specs.declared.who.Flight as points
use Rattle.ring_points.specs.declared.who.Ruling.{Ruling}
use Rattle.ring_points.specs.declared.who.Who.{Who}
use Rattle.ring_points.specs.Ranges.{in_ranges, rises_from}
use Rattle.ring_points.specs.Whos.{arbiter_actor}
use Rattle.fabric_terms.specs.declared.config.FabricConfig.{FabricConfig}
use Rattle.fabric_terms.specs.declared.report.Report.TheVariants as report
use Rattle.fabric_terms.specs.declared.report.Why.TheVariants.{Lost}
use Rattle.token_core.specs.Calls.{is_empty}
use Rattle.arbiter_quorum.specs.Tallies.{Tally, noted, verdict_of, is_heir}
use Rattle.heir_rounds.specs.Rounds.{RoundTally}
use Rattle.arbiter_quorum.specs.declared.verdict.Verdict.{Verdict}
use Rattle.arbiter_quorum.specs.declared.verdict.Verdict.TheVariants as verdict
use Rattle.ring_rules.specs.declared.link.Link.{Link}
use Rattle.ring_rules.specs.declared.link.LinkState.{LinkState}
use Rattle.ring_rules.specs.declared.link.LinkState.TheVariants as state
use Rattle.ring_rules.specs.Deeds as rows
use Rattle.ring_rules.specs.Deeds.{in_slot, in_found, put_slot, tell}
use Rattle.ring_rules.specs.Links.{is_bare, has_flight}
use Rattle.ring_rules.specs.Rings.{Work, settings_of}
use Rattle.ring_rules.specs.Rulings.{ripe_at, becomes_heir, made_heir, may_succeed, kept_discharged, judged, ruling_seen, ruling_received}
use Rattle.ring_rules.specs.Slots.{slot_at, slot_where, of_instance}
use Rattle.ring_rules.proofs.Rows.{ruling_received-is}
use Rattle.fabric_lemmas.specs.Members.{IsMember}
use Rattle.ring_machine.specs.Slots.{Accused, HasClaim, of_record, of_flight, is_tallying, is_decided}
use Rattle.ring_machine.specs.Frames.{Accuse, Ruled}
use Rattle.ring_machine.specs.World.{World}
use Rattle.ring_machine.specs.Arbitration.{AnsweredBy, HeirBy}
use Rattle.ring_machine.specs.Deeds.{AccuseAgain, MajorityAnswered, MajorityKept, SessionDropped}
use Rattle.ring_machine.specs.Effects.{ended}
use Rattle.ring_machine.specs.Events.{IsSound}
use Rattle.ring_points.proofs.Whos.{same_who-true}
use Rattle.ring_refinement.specs.Images.{machine_of, state_of, points_of, flight_of, slot_of}
use Rattle.ring_refinement.specs.Tables.{is_wronged, SoundTally}
use Rattle.ring_refinement.proofs.Places.{found_at}
use Rattle.ring_refinement.proofs.Changes.{stays_alone}
use Rattle.ring_refinement.proofs.Ranges.{Rises}
use Rattle.ring_refinement.proofs.Tallies.{granted_by, heir_answered, answered_by, tally_noted, RestsOn, verdict_rests}
use Rattle.ring_refinement.proofs.Telling.{moved_and, over_and}
use Rattle.ring_refinement.proofs.Going.{Going}
use Rattle.ring_refinement.proofs.Leaving.{Went, on, left_went}
use Rattle.ring_refinement.proofs.Quiet.{tells}
use Rattle.ring_refinement.proofs.SlotRows.{nothing_besides, puts, drops, wronged}

-- a list that is not empty has a point
has_point : (is : List Interval) → Rises is → is_empty is ≡ false → (p : ℕ) × (in_ranges p is ≡ true)
has_point [] h n = absurd (cc (n))
has_point (j ∷ js) h n =
    let a = and_parts (nat_le 0 j.lo && nat_le j.lo j.hi && nat_lt j.hi (18446744073709551616)) (rises_from (j.hi + 2) js) h in
    let b = and_parts (nat_le 0 j.lo && nat_le j.lo j.hi) _ a.0 in
    let d = and_parts (nat_le 0 j.lo) (nat_le j.lo j.hi) b.0 in
    (j.lo, here (nat_le j.lo j.lo) (nat_le j.lo j.hi) _ (le-leb j.lo j.lo (omega arith)) d.1)
  where
    here : (a b d : Bool) → a ≡ true → b ≡ true → (a && b) || d ≡ true
    here true true d h k = refl
    here true false d h k = absurd (cc (k))
    here false b d h k = absurd (cc (h))

first_fails : (a b : Bool) → a || b ≡ false → a ≡ false
first_fails true b e = absurd (cc (e))
first_fails false b e = refl

-- a slot of these states counts rulings
pub data Against (s : LinkState) : Type 0 where
  accused : s ≡ state.Accused → Against s
  discharged : s ≡ state.Discharged → Against s

pub tallies : (s : LinkState) → Against s → is_tallying (state_of s) ≡ true
tallies s (accused e) = ap (λ s. is_tallying (state_of s)) e
tallies s (discharged e) = ap (λ s. is_tallying (state_of s)) e

pub wrongs_by : (s : LinkState) → Against s → is_wronged (state_of s) ≡ true
wrongs_by s (accused e) = ap (λ s. is_wronged (state_of s)) e
wrongs_by s (discharged e) = ap (λ s. is_wronged (state_of s)) e

pub not_bound : (s : LinkState) → Against s → s ≡ state.Bound → ⊥
not_bound s (accused e) h = cc (e, h)
not_bound s (discharged e) h = cc (e, h)

-- where a slot is not bare, there is something to take over
pub claims : (l : Link) → Rises l.held → (is_empty l.held && not (has_flight l)) ≡ false → HasClaim (points_of l.held) (flight_of l.flight)
claims l h bare = go l.flight refl bare
  where
    held : is_empty l.held ≡ false → HasClaim (points_of l.held) (flight_of l.flight)
    held e = let p = has_point l.held h e in of_record p.0 p.1

    fails : (b : Bool) → b && true ≡ false → b ≡ false
    fails true e = absurd (cc (e))
    fails false e = refl

    go : (o : Option points.Flight) → l.flight ≡ o → (is_empty l.held && not (is_some o)) ≡ false → HasClaim (points_of l.held) (flight_of l.flight)
    go None e b = held (fails (is_empty l.held) b)
    go (Some f) e b = of_flight (record { number = f.number; part = points_of f.part }) (ap flight_of e)

module _ {c : FabricConfig} {m : World} {x : Who} {now : ℕ} {w : Work} (sound : IsSound (machine_of c)) (node : ℕ) (g : Going c m x now w) where
  -- the slot's session ends after an answer
  pub dropped_going : (i : ℕ) (l : Link) → slot_at i w.ring.slots ≡ Some l → is_wronged (state_of l.state) ≡ true →
      (is_decided (state_of l.state) ≡ true) ⊎ ((state_of l.state ≡ Accused) × AnsweredBy (machine_of c) g.after.sent x l.peer) → Going c m x now (rows.drop_slot i w)
  dropped_going i l at is_one may =
      drops sound g i l at SessionDropped may (ended (slot_of l)) [] refl refl (λ h. not_bound h) (λ h. wronged sound g i l at is_one) _ _ _ (nothing_besides sound g [])
    where
      not_bound : l.state ≡ state.Bound → ⊥
      not_bound h = cc (is_one, h)

  -- the tally with a ruling more
  noted_sound : (i : ℕ) (l : Link) → slot_at i w.ring.slots ≡ Some l → Against l.state → (a : ℕ) (ruling : Ruling) → 1 ≤ a → a ≤ length c.arbiters →
      IsMember (Ruled a x l.peer ruling) m.sent → SoundTally c x l.peer g.after.sent (noted l.tally a ruling)
  noted_sound i l at s a ruling from to came =
      tally_noted l.tally ((g.shows.slots.sound i l at).tally (tallies l.state s)) a ruling from to (g.beside.sent _ came)

  -- it is Discharged then, or ends
  kept_going : (i : ℕ) (l : Link) → slot_at i w.ring.slots ≡ Some l → Against l.state → (t : Tally) → SoundTally c x l.peer g.after.sent t →
      AnsweredBy (machine_of c) g.after.sent x l.peer → (r q : Bool) → is_bare l || r ≡ q → Going c m x now (kept_discharged i (record l { tally = t }) w q)
  kept_going i l at s t t_sound answered r true e = dropped_going i l at (wrongs_by l.state s) (by s)
    where
      by : Against l.state → (is_decided (state_of l.state) ≡ true) ⊎ ((state_of l.state ≡ Accused) × AnsweredBy (machine_of c) g.after.sent x l.peer)
      by (accused e) = inr (ap state_of e, answered)
      by (discharged e) = inl (ap (λ s. is_decided (state_of s)) e)
  kept_going i l at s t t_sound answered r false e =
      puts sound g i l at MajorityAnswered (tallies l.state s, answered, claims l (g.shows.slots.sound i l at).held (first_fails (is_bare l) r e)) (record l { tally = t; state = state.Discharged }) [] refl refl
      (let o = g.shows.slots.sound i l at in record { held = o.held; part = o.part; length = λ p. absurd (cc (p)); tally = λ h. t_sound; rounds = λ h. o.rounds (tallies l.state s) })
      (stays_alone g.shows.slots i l (record l { tally = t; state = state.Discharged }) at refl (λ h. absurd (cc (h))) (λ h. absurd (cc (h))))
      (λ h. absurd (not_bound l.state s h)) (λ h. wronged sound g i l at (wrongs_by l.state s)) _ _ _ (nothing_besides sound g [])

  -- the answers are no majority yet
  open_going : (i : ℕ) (l : Link) → slot_at i w.ring.slots ≡ Some l → Against l.state → (t : Tally) → SoundTally c x l.peer g.after.sent t →
      Going c m x now (put_slot i (record l { tally = t }) w)
  open_going i l at s t t_sound =
      puts sound g i l at AccuseAgain (tallies l.state s) (record l { tally = t }) (Accuse x l.peer ∷ []) refl refl
      (let o = g.shows.slots.sound i l at in record { held = o.held; part = o.part; length = o.length; tally = λ h. t_sound; rounds = o.rounds })
      (stays_alone g.shows.slots i l (record l { tally = t }) at refl (λ h. h) (λ h. h)) (λ h. h) (λ h. wronged sound g i l at (wrongs_by l.state s)) _ _ _
      (nothing_besides sound g (Accuse x l.peer ∷ []))

  -- a majority keeps it, by their grants or in a later round
  pub becomes_going : (i : ℕ) (l : Link) → slot_at i w.ring.slots ≡ Some l → Against l.state → (t : Tally) (u : RoundTally) →
      AnsweredBy (machine_of c) g.after.sent x l.peer → HeirBy (machine_of c) g.after.sent x l.peer →
      HasClaim (points_of l.held) (flight_of l.flight) →
      Going c m x now (becomes_heir (settings_of c node) now i (record l { tally = t; rounds = u }) w)
  becomes_going i l at s t u answered keeps claim =
      puts sound g i l at MajorityKept (tallies l.state s, answered, keeps, claim) k [] refl refl
      (let o = g.shows.slots.sound i l at in record {
        held = o.held;
        part = o.part;
        length = λ p. absurd (cc (p));
        tally = λ h. absurd (cc (h));
        rounds = λ h. absurd (cc (h));
      })
      (stays_alone g.shows.slots i l k at refl (λ h. absurd (cc (h))) (λ h. absurd (cc (h))))
      (λ h. absurd (not_bound l.state s h)) (λ h. wronged sound g i l at (wrongs_by l.state s)) _ _
      (w.told ++ report.Heir l.peer (ripe_at (settings_of c node) now l) ∷ []) (record {
        stays = g.stays;
        sends = λ h. h;
        leads = λ n P h. moved_and x w.told n w.ring.token.next_flight P _ (report.Heir l.peer (ripe_at (settings_of c node) now l)) h tt tt;
        over = λ h. over_and (machine_of c) g.after w.told (report.Heir l.peer (ripe_at (settings_of c node) now l)) h tt;
      })
    where
      k : Link
      k = record l { tally = t; rounds = u; state = state.Heir; ripe = ripe_at (settings_of c node) now l }

  -- a majority granted
  heir_going : (i : ℕ) (l : Link) → slot_at i w.ring.slots ≡ Some l → Against l.state → (t : Tally) → SoundTally c x l.peer g.after.sent t → is_heir t ≡ true →
      (q : Bool) → is_bare l ≡ q → Going c m x now (made_heir (settings_of c node) now i (record l { tally = t }) w q)
  heir_going i l at s t t_sound granted true bare = dropped_going_told
    where
      may : Against l.state → (is_decided (state_of l.state) ≡ true) ⊎ ((state_of l.state ≡ Accused) × AnsweredBy (machine_of c) g.after.sent x l.peer)
      may (accused e) = inr (ap state_of e, heir_answered t t_sound granted)
      may (discharged e) = inl (ap (λ s. is_decided (state_of s)) e)

      dropped_going_told : Going c m x now (made_heir (settings_of c node) now i (record l { tally = t }) w true)
      dropped_going_told =
          drops sound g i l at SessionDropped (may s) (ended (slot_of l)) [] refl refl (not_bound l.state s) (λ h. wronged sound g i l at (wrongs_by l.state s)) _ _
          (w.told ++ report.Discharged l.peer ∷ []) (record {
            stays = g.stays;
            sends = λ h. h;
            leads = λ n P h. moved_and x w.told n w.ring.token.next_flight P _ (report.Discharged l.peer) h tt tt;
            over = λ h. over_and (machine_of c) g.after w.told (report.Discharged l.peer) h tt;
          })
  heir_going i l at s t t_sound granted false bare =
      becomes_going i l at s t l.rounds (heir_answered t t_sound granted) (granted_by t t_sound granted)
      (claims l (g.shows.slots.sound i l at).held bare)

module _ {c : FabricConfig} {m : World} {x : Who} {now : ℕ} {w : Work} (sound : IsSound (machine_of c)) (node : ℕ) (g : Going c m x now w) where
  -- the verdict on a slot
  judged_went : (i : ℕ) (l : Link) → slot_at i w.ring.slots ≡ Some l → (before : LinkState) → l.state ≡ before → Against before →
      (a : ℕ) (ruling : Ruling) → 1 ≤ a → a ≤ length c.arbiters →
      IsMember (Ruled a x l.peer ruling) m.sent → (u : Verdict) → RestsOn (noted l.tally a ruling) u →
      Went c m x now (judged (settings_of c node) now i (record l { tally = noted l.tally a ruling }) before u w)
  judged_went i l at before is s a ruling from to came verdict.Heir rests =
      on (heir_going sound node g i l at against t (noted_sound sound node g i l at against a ruling from to came) rests (is_bare l) refl)
    where
      t : Tally
      t = noted l.tally a ruling

      against : Against l.state
      against = subst Against (sym is) s
  judged_went i l at state.Accused is s a ruling from to came verdict.Discharged rests =
      let told : Going c m x now (tell (report.Discharged l.peer) w) = tells sound g (report.Discharged l.peer) tt tt refl refl tt in
      let t_sound = noted_sound sound node told i l at (accused is) a ruling from to came in
      on (kept_going sound node told i l at (accused is) (noted l.tally a ruling) t_sound (answered_by (noted l.tally a ruling) t_sound rests)
      (not (may_succeed (settings_of c node) (record l { tally = noted l.tally a ruling })))
      (is_bare l || not (may_succeed (settings_of c node) (record l { tally = noted l.tally a ruling }))) refl)
  judged_went i l at state.Discharged is s a ruling from to came verdict.Discharged rests =
      let t_sound = noted_sound sound node g i l at (discharged is) a ruling from to came in
      on (kept_going sound node g i l at (discharged is) (noted l.tally a ruling) t_sound (answered_by (noted l.tally a ruling) t_sound rests)
      (not (may_succeed (settings_of c node) (record l { tally = noted l.tally a ruling })))
      (is_bare l || not (may_succeed (settings_of c node) (record l { tally = noted l.tally a ruling }))) refl)
  judged_went i l at state.Hello is s a ruling from to came verdict.Discharged rests = absurd (let h = tallies state.Hello s in cc (h))
  judged_went i l at state.Offered is s a ruling from to came verdict.Discharged rests = absurd (let h = tallies state.Offered s in cc (h))
  judged_went i l at state.Bound is s a ruling from to came verdict.Discharged rests = absurd (let h = tallies state.Bound s in cc (h))
  judged_went i l at state.Parting is s a ruling from to came verdict.Discharged rests = absurd (let h = tallies state.Parting s in cc (h))
  judged_went i l at state.Heir is s a ruling from to came verdict.Discharged rests = absurd (let h = tallies state.Heir s in cc (h))
  judged_went i l at before is s a ruling from to came verdict.Lost rests = left_went sound g Lost
  judged_went i l at before is s a ruling from to came verdict.Open rests =
      let against = subst Against (sym is) s in
      on (open_going sound node g i l at against (noted l.tally a ruling) (noted_sound sound node g i l at against a ruling from to came))

  -- a ruling of arbitrator a
  pub ruling_went : (from victim : Who) (ruling : Ruling) → arbiter_actor 0 < from.actor → from.actor ≤ arbiter_actor (length c.arbiters) →
      IsMember (Ruled (from.actor - arbiter_actor 0) x victim ruling) m.sent → Went c m x now (ruling_received (settings_of c node) now from victim ruling w)
  ruling_went from victim ruling least most came =
      subst (λ (u : Work). Went c m x now u) (sym (ruling_received-is (settings_of c node) now from victim ruling w)) (go (slot_where (of_instance victim) w.ring.slots) refl)
    where
      a : ℕ
      a = from.actor - arbiter_actor 0

      seen : (i : ℕ) (l : Link) → slot_at i w.ring.slots ≡ Some l → l.peer ≡ victim → (s : LinkState) → l.state ≡ s →
          Went c m x now (ruling_seen (settings_of c node) now (from.actor - arbiter_actor 0) ruling i l s w)
      seen i l at peer state.Accused is =
          judged_went i l at state.Accused is (accused refl) (from.actor - arbiter_actor 0) ruling (omega arith) (omega arith)
          (subst (λ (y : Who). IsMember (Ruled (from.actor - arbiter_actor 0) x y ruling) m.sent) (sym peer) came)
          (verdict_of (noted l.tally (from.actor - arbiter_actor 0) ruling)) (verdict_rests (noted l.tally (from.actor - arbiter_actor 0) ruling))
      seen i l at peer state.Discharged is =
          judged_went i l at state.Discharged is (discharged refl) (from.actor - arbiter_actor 0) ruling (omega arith) (omega arith)
          (subst (λ (y : Who). IsMember (Ruled (from.actor - arbiter_actor 0) x y ruling) m.sent) (sym peer) came)
          (verdict_of (noted l.tally (from.actor - arbiter_actor 0) ruling)) (verdict_rests (noted l.tally (from.actor - arbiter_actor 0) ruling))
      seen i l at peer s is = on g

      there : (i : ℕ) (o : Option Link) → slot_at i w.ring.slots ≡ o → of_instance victim o ≡ true →
          Went c m x now (in_slot (ruling_seen (settings_of c node) now (from.actor - arbiter_actor 0) ruling) i o w)
      there i None at t = on g
      there i (Some l) at t = seen i l at (same_who-true l.peer victim t) l.state refl

      go : (o : Option ℕ) → slot_where (of_instance victim) w.ring.slots ≡ o →
          Went c m x now (in_found (ruling_seen (settings_of c node) now (from.actor - arbiter_actor 0) ruling) (λ u. u) o w)
      go None e = on g
      go (Some i) e = let f = found_at (of_instance victim) w.ring.slots i e in there i (slot_at i w.ring.slots) refl f.passes
