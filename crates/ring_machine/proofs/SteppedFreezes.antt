-- After a deed each freeze is sound.
use Rattle.std.proofs.Common.{◌≡◌, ℕ, ◌<◌, ◌≤◌, true, List, [], ◌++◌, Some, ◌⊎◌, refl, sym, ap, ◌∙◌, subst, inl, inr, ⊎_elim, arith}
use Rattle.ring_points.specs.declared.who.Who.{Who}
use Rattle.fabric_lemmas.specs.Members.{IsMember}
use Rattle.ring_machine.specs.Points.{Points}
use Rattle.ring_machine.specs.Ends.{End}
use Rattle.ring_machine.specs.Slots.{Slot, is_engaged, is_settled}
use Rattle.ring_machine.specs.Tokens.{Freeze}
use Rattle.ring_machine.specs.Frames.{Frame, Renew, RenewAck}
use Rattle.ring_machine.specs.World.{Settings, Instance, World, slot}
use Rattle.ring_machine.specs.Effects.{Outcome}
use Rattle.ring_machine.specs.Sessions.{Tied, BothTied}
use Rattle.ring_machine.specs.SoundFlights.{FrozenTo, SoundFreeze}
use Rattle.ring_machine.specs.SoundFrames.{SoundRenew, SoundAck}
use Rattle.ring_machine.proofs.Whos.{test, end_cases}
use Rattle.ring_machine.proofs.States.{implied}
use Rattle.ring_machine.proofs.Duty.{Deeded}
use Rattle.ring_machine.proofs.Stepped.{next_world, slot_cases, instance_cases, own_slot, other_slot, own_instance, sent_cases, old_tie, own_tie, far_differs}
use Rattle.ring_machine.proofs.SteppedClaims.{no_renew_to, no_renew_from, no_ack_to, no_ack_from, far_untouched}

-- the fact of a freeze at slots that are equal to these
frozen_at : (sent : List Frame) (g h : End) (z : Freeze) (a a2 b b2 : Slot) → a2 ≡ a → b2 ≡ b →
    FrozenTo sent g h z a.got a.acked b.flight b.held_version b.held → FrozenTo sent g h z a2.got a2.acked b2.flight b2.held_version b2.held
frozen_at sent g h z a a2 b b2 p r d =
    subst (λ (T : Type 0). T)
    (λ i. FrozenTo sent g h z (sym p i).got (sym p i).acked (sym r i).flight (sym r i).held_version (sym r i).held) d

-- the freeze is e's, and new, while nothing else happens
record NewFreeze (w : World) (e : End) (out : Outcome) (y : Who) (z : Freeze) : Type 0 where
  own : e.who ≡ y
  later : (w.instance y).token.version < z.version
  silent : out.sent ≡ []
  same : out.slot ≡ slot w e

module _ {c : Settings} {w : World} {e : End} {next : ℕ} {out : Outcome} (d : Deeded c w e next out) where
  abbrev t : Slot
  t = out.slot

  -- a freeze against an end that nothing of its version has reached
  unseen_freeze : (g h : End) (z : Freeze) (a b : Slot) →
      ((stamp version got : ℕ) (points : Points) → IsMember (Renew g h stamp version got points) (next_world d).sent → ⊥) →
      ((stamp version : ℕ) → IsMember (RenewAck h g stamp version) (next_world d).sent → ⊥) → 0 < z.version → a.acked ≡ 0 → b.held_version ≡ 0 →
      FrozenTo (next_world d).sent g h z a.got a.acked b.flight b.held_version b.held
  unseen_freeze g h z a b no_renew no_ack pos ack version_is = record {
    renews = λ stamp version got points m le p i j. no_renew stamp version got points m;
    confirms = λ stamp version got points m le l pending. absurd (no_renew stamp version got points m);
    acks = λ stamp version m le l pending. no_ack stamp version m;
    settled = λ le l pending. omega arith;
    recorded = λ le p i j. omega arith;
  }

  -- a new freeze is seen by nobody yet
  new_freeze : (g h : End) (z : Freeze) → (w.instance g.who).token.version < z.version → (slot w g).far ≡ h → (slot w h).far ≡ g → SoundFreeze w g h z
  new_freeze g h z lt far back = record {
    renews = λ stamp version got points m le p i j.
        let r : SoundRenew w g h stamp version got = d.inv.frames (Renew g h stamp version got points) m in
        let a = r.announced in omega arith;
    confirms = λ stamp version got points m le l pending.
        let r : SoundRenew w g h stamp version got = d.inv.frames (Renew g h stamp version got points) m in
        let a = r.announced in absurd (omega arith);
    acks = λ stamp version m le l pending.
        let r : SoundAck w h g stamp version = d.inv.frames (RenewAck h g stamp version) m in
        let a = r.recorded in let b = seen in omega arith;
    settled = λ le l pending. let a = acked in let b = seen in omega arith;
    recorded = λ le p i j. let b = seen in omega arith;
  }
    where
      seen : (slot w h).held_version ≤ (w.instance g.who).token.version
      seen = subst (λ (g : End). (slot w h).held_version ≤ (w.instance g.who).token.version) back (d.inv.slots h).version

      acked : (slot w g).acked ≤ (slot w h).held_version
      acked = subst (λ h. (slot w g).acked ≤ (slot w h).held_version) far (d.inv.slots g).acked

  -- a freeze that the deed does not concern
  other_freeze : (g h : End) (z : Freeze) → (e ≡ g → ⊥) → (e ≡ h → ⊥) → SoundFreeze w g h z →
      FrozenTo (next_world d).sent g h z (slot w g).got (slot w g).acked (slot w h).flight (slot w h).held_version (slot w h).held
  other_freeze g h z n m r = record {
    renews = λ stamp version got points a. r.renews stamp version got points (old stamp version got points a);
    confirms = λ stamp version got points a. r.confirms stamp version got points (old stamp version got points a);
    acks = λ stamp version a.
        r.acks stamp version
        (⊎_elim (λ new. absurd (m (sym (d.duty.sends (RenewAck h g stamp version) new).own))) (λ old. old) (sent_cases d _ a));
    settled = r.settled;
    recorded = r.recorded;
  }
    where
      old : (stamp version got : ℕ) (points : Points) → IsMember (Renew g h stamp version got points) (next_world d).sent →
          IsMember (Renew g h stamp version got points) w.sent
      old stamp version got points a =
          ⊎_elim (λ new. absurd (n (sym (d.duty.sends (Renew g h stamp version got points) new).own))) (λ old. old) (sent_cases d _ a)

  freeze_mine : (h : End) (z : Freeze) → (w.instance e.who).token.freeze ≡ Some z → out.token.freeze ≡ Some z →
      is_engaged t.state ≡ true → t.far ≡ h → (e ≡ h → ⊥) → Tied w h e → SoundFreeze (next_world d) e h z
  freeze_mine h z was is en far n tie =
      frozen_at (next_world d).sent e h z t (slot (next_world d) e) (slot w h) (slot (next_world d) h) (own_slot d) (other_slot d h n)
      (test (is_engaged (slot w e).state)
      (λ a.
      let same : (slot w e).far ≡ h = sym (d.duty.link.far (implied is_engaged is_settled refl (slot w e).state a)) ∙ far in
      subst
      (λ h. Tied w h e → FrozenTo (out.sent ++ w.sent) e h z t.got t.acked (slot w h).flight (slot w h).held_version (slot w h).held)
      same (d.duty.token.mine a z was is) tie)
      (λ a. unseen_freeze e h z t (slot w h) (λ stamp version got points. no_renew_from d a h stamp version got points) (λ stamp version. no_ack_to d a h stamp version)
      (d.inv.tokens e.who z was).positive (d.duty.token.newly a).acked (far_untouched d a h tie.far).held_version))

  freeze_theirs : (g : End) (z : Freeze) → (w.instance g.who).token.freeze ≡ Some z → is_engaged t.state ≡ true → t.far ≡ g →
      (e ≡ g → ⊥) → Tied w g e → SoundFreeze (next_world d) g e z
  freeze_theirs g z was en far n tie =
      frozen_at (next_world d).sent g e z (slot w g) (slot (next_world d) g) t (slot (next_world d) e) (other_slot d g n) (own_slot d)
      (test (is_engaged (slot w e).state)
      (λ a.
      let same : (slot w e).far ≡ g = sym (d.duty.link.far (implied is_engaged is_settled refl (slot w e).state a)) ∙ far in
      subst
      (λ (g : End).
      (w.instance g.who).token.freeze ≡ Some z → Tied w g e → FrozenTo (out.sent ++ w.sent) g e z (slot w g).got (slot w g).acked
      t.flight t.held_version t.held)
      same (d.duty.token.theirs a z) was tie)
      (λ a. unseen_freeze g e z (slot w g) t (λ stamp version got points. no_renew_to d a g stamp version got points) (λ stamp version. no_ack_from d a g stamp version)
      (d.inv.tokens g.who z was).positive (far_untouched d a g tie.far).acked (d.duty.token.newly a).held_version))

  -- a freeze of now stood before, or is e's and new
  freeze_from : (y : Who) (z : Freeze) → ((next_world d).instance y).token.freeze ≡ Some z → ((w.instance y).token.freeze ≡ Some z) ⊎ NewFreeze w e out y z
  freeze_from y z = instance_cases d (λ y i. i.token.freeze ≡ Some z → ((w.instance y).token.freeze ≡ Some z) ⊎ NewFreeze w e out y z)
      (λ is. ⊎_elim (λ a. inl a) (λ a. inr (record { own = refl; later = a.0; silent = a.1; same = a.2 })) (d.duty.token.freeze z is))
      (λ y n is. inl is) y

  old_freeze : (g h : End) (z : Freeze) → ((next_world d).instance g.who).token.freeze ≡ Some z → BothTied (next_world d) g h →
      (w.instance g.who).token.freeze ≡ Some z → SoundFreeze (next_world d) g h z
  old_freeze g h z is tied was = ⊎_elim
      (λ (i : e ≡ g).
      subst
      (λ g. ((next_world d).instance g.who).token.freeze ≡ Some z → (w.instance g.who).token.freeze ≡ Some z → BothTied (next_world d) g h → SoundFreeze (next_world d) g h z)
      i mine is was tied)
      (λ (i : e ≡ g → ⊥). ⊎_elim
      (λ (j : e ≡ h).
      subst (λ h. BothTied (next_world d) g h → SoundFreeze (next_world d) g h z) j
      (λ tied. let own = own_tie d g tied.theirs in freeze_theirs g z was own.0 own.1 i (old_tie d g e i tied.mine)) tied)
      (λ (j : e ≡ h → ⊥). frozen_at (next_world d).sent g h z (slot w g) (slot (next_world d) g) (slot w h) (slot (next_world d) h) (other_slot d g i) (other_slot d h j)
      (other_freeze g h z i j (d.inv.freezes g h z was (record { mine = old_tie d g h i tied.mine; theirs = old_tie d h g j tied.theirs }))))
      (end_cases e h))
      (end_cases e g)
    where
      mine : ((next_world d).instance e.who).token.freeze ≡ Some z → (w.instance e.who).token.freeze ≡ Some z →
          BothTied (next_world d) e h → SoundFreeze (next_world d) e h z
      mine is was tied =
          let own = own_tie d h tied.mine in
          let n = far_differs d h own.0 own.1 in
          freeze_mine h z was (ap (λ (i : Instance). i.token.freeze) (sym (own_instance d)) ∙ is) own.0 own.1 n (old_tie d h e n tied.theirs)

  pub freezes_after : (g h : End) (z : Freeze) → ((next_world d).instance g.who).token.freeze ≡ Some z → BothTied (next_world d) g h →
      SoundFreeze (next_world d) g h z
  freezes_after g h z is tied = ⊎_elim (old_freeze g h z is tied) new (freeze_from g.who z is)
    where
      new : NewFreeze w e out g.who z → SoundFreeze (next_world d) g h z
      new a =
          let all : (i : End) → slot (next_world d) i ≡ slot w i = slot_cases d (λ i s. s ≡ slot w i) a.same (λ i n. refl) in
          frozen_at (next_world d).sent g h z (slot w g) (slot (next_world d) g) (slot w h) (slot (next_world d) h) (all g) (all h)
          (subst (λ (l : List Frame). FrozenTo (l ++ w.sent) g h z (slot w g).got (slot w g).acked (slot w h).flight (slot w h).held_version (slot w h).held) (sym a.silent)
          (new_freeze g h z a.later (ap (λ (s : Slot). s.far) (sym (all g)) ∙ tied.mine.far) (ap (λ (s : Slot). s.far) (sym (all h)) ∙ tied.theirs.far)))
