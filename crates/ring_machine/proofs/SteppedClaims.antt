-- After a deed each claim is backed.
use Rattle.std.proofs.Common.{◌≡◌, ℕ, false, ◌++◌, refl, sym, ◌∙◌, subst, ⊎_elim, arith}
use Rattle.std.proofs.lemmas.Bool.{both_ways}
use Rattle.fabric_lemmas.specs.Members.{IsMember}
use Rattle.ring_machine.specs.Points.{Points}
use Rattle.ring_machine.specs.Ends.{End}
use Rattle.ring_machine.specs.Slots.{Slot, is_engaged, is_settled}
use Rattle.ring_machine.specs.Frames.{Renew, RenewAck}
use Rattle.ring_machine.specs.World.{Settings, World, slot}
use Rattle.ring_machine.specs.Effects.{Outcome}
use Rattle.ring_machine.specs.Sessions.{Tied, Untouched, flew}
use Rattle.ring_machine.specs.Claims.{Backed, of_owner, Claim, by_record, by_renew, by_flight}
use Rattle.ring_machine.specs.SoundFrames.{SoundRenew, SoundAck}
use Rattle.ring_machine.proofs.Whos.{test, end_cases, apart_ends}
use Rattle.ring_machine.proofs.States.{implied, touch_cases, not_touched}
use Rattle.ring_machine.proofs.Later.{backed_later}
use Rattle.ring_machine.proofs.Duty.{Deeded, SentRenew, SentAck}
use Rattle.ring_machine.proofs.Stepped.{next_world, slot_cases, other_slot, sent_cases, later}

module _ {c : Settings} {w : World} {e : End} {next : ℕ} {out : Outcome} (d : Deeded c w e next out) where
  abbrev t : Slot
  t = out.slot

  -- nothing of e's session came or went while e had none
  pub no_renew_to : is_engaged (slot w e).state ≡ false → (g : End) (stamp version got : ℕ) (points : Points) →
      IsMember (Renew g e stamp version got points) (next_world d).sent → ⊥
  no_renew_to a g stamp version got points m = ⊎_elim
      (λ new.
      let r : SentRenew w e (slot w e) g e stamp version got = d.duty.sends (Renew g e stamp version got points) new in
      both_ways _ a r.sound.tied.mine.engaged)
      (λ old. let r : SoundRenew w g e stamp version got = d.inv.frames (Renew g e stamp version got points) old in both_ways _ a r.tied.theirs.engaged)
      (sent_cases d _ m)

  pub no_renew_from : is_engaged (slot w e).state ≡ false → (g : End) (stamp version got : ℕ) (points : Points) →
      IsMember (Renew e g stamp version got points) (next_world d).sent → ⊥
  no_renew_from a g stamp version got points m = ⊎_elim
      (λ new.
      let r : SentRenew w e (slot w e) e g stamp version got = d.duty.sends (Renew e g stamp version got points) new in
      both_ways _ a r.sound.tied.mine.engaged)
      (λ old. let r : SoundRenew w e g stamp version got = d.inv.frames (Renew e g stamp version got points) old in both_ways _ a r.tied.mine.engaged)
      (sent_cases d _ m)

  pub no_ack_to : is_engaged (slot w e).state ≡ false → (g : End) (stamp version : ℕ) → IsMember (RenewAck g e stamp version) (next_world d).sent → ⊥
  no_ack_to a g stamp version m = ⊎_elim
      (λ new. let r : SentAck w e (slot w e) t g e stamp version = d.duty.sends (RenewAck g e stamp version) new in both_ways _ a r.sound.tied.mine.engaged)
      (λ old. let r : SoundAck w g e stamp version = d.inv.frames (RenewAck g e stamp version) old in both_ways _ a r.tied.theirs.engaged)
      (sent_cases d _ m)

  pub no_ack_from : is_engaged (slot w e).state ≡ false → (g : End) (stamp version : ℕ) → IsMember (RenewAck e g stamp version) (next_world d).sent → ⊥
  no_ack_from a g stamp version m = ⊎_elim
      (λ new. let r : SentAck w e (slot w e) t e g stamp version = d.duty.sends (RenewAck e g stamp version) new in both_ways _ a r.sound.tied.mine.engaged)
      (λ old. let r : SoundAck w e g stamp version = d.inv.frames (RenewAck e g stamp version) old in both_ways _ a r.tied.mine.engaged)
      (sent_cases d _ m)

  -- a slot that is with e has no content while e has no session
  pub far_untouched : is_engaged (slot w e).state ≡ false → (g : End) → (slot w g).far ≡ e → Untouched (slot w g)
  far_untouched a g far = ⊎_elim
      (λ h. absurd (both_ways _ a (subst (λ (h : End). Tied w h g) far ((d.inv.slots g).touched h)).engaged))
      (λ u. u)
      (touch_cases (slot w g))

  -- a claim of before is backed still
  old_claim : (g h : End) (p : ℕ) → (slot w g).far ≡ h → (e ≡ g → Claim (out.sent ++ w.sent) e h t (slot w h).got p) →
      Claim w.sent g h (slot w g) (slot w h).got p → Backed c (next_world d) g.who h.who p
  old_claim g h p far now claim = backed_later (later d) g.who h.who p (d.duty.place.stays g h p far now claim) (d.inv.backed g h p far claim)

  -- a claim that no new Renew makes is one of before
  claim_before : (g h : End) (s : Slot) (got p : ℕ) →
      ((stamp version theirs : ℕ) (points : Points) → IsMember (Renew h g stamp version theirs points) out.sent → ⊥) →
      Claim (next_world d).sent g h s got p → Claim w.sent g h s got p
  claim_before g h s got p none (by_record r) = by_record r
  claim_before g h s got p none (by_renew a stamp version theirs points m lt r) =
      by_renew a stamp version theirs points
      (⊎_elim (λ new. absurd (none stamp version theirs points new)) (λ old. old) (sent_cases d _ m)) lt r
  claim_before g h s got p none (by_flight l is le r) = by_flight l is le r

  -- e has no claim where it had no session
  no_claim : is_engaged (slot w e).state ≡ false → (h : End) (got p : ℕ) → Claim (next_world d).sent e h t got p → ⊥
  no_claim a h got p (by_record r) = let u = d.duty.token.newly a in let v = u.held_version in let pos = d.duty.link.recorded p r in omega arith
  no_claim a h got p (by_renew i stamp version theirs points m lt r) = no_renew_to a h stamp version theirs points m
  no_claim a h got p (by_flight l is le r) = not_touched t (d.duty.token.newly a) (flew l is)

  own_claims : (h : End) (p : ℕ) → t.far ≡ h → Claim (next_world d).sent e h t (slot (next_world d) h).got p → Backed c (next_world d) e.who h.who p
  own_claims h p far claim = test (is_engaged (slot w e).state)
      (λ a.
      let same : (slot w e).far ≡ h = sym (d.duty.link.far (implied is_engaged is_settled refl (slot w e).state a)) ∙ far in
      let other : e ≡ h → ⊥ = λ i. apart_ends e (slot w e).far ((d.inv.slots e).apart a) (i ∙ sym same) in
      let now : Claim (next_world d).sent e h t (slot w h).got p = subst (λ (s : Slot). Claim (next_world d).sent e h t s.got p) (other_slot d h other) claim in
      let before : Claim w.sent e h (slot w e) (slot w h).got p =
      subst (λ h. Claim (next_world d).sent e h t (slot w h).got p → Claim w.sent e h (slot w e) (slot w h).got p) same (d.duty.place.mine a p) now in
      old_claim e h p same (λ i. now) before)
      (λ a. absurd (no_claim a h (slot (next_world d) h).got p claim))

  -- a claim on a point of e's, of a slot that e's deed does not concern
  stranger : (g : End) (p : ℕ) → (e ≡ g → ⊥) → (slot w g).far ≡ e → Claim (next_world d).sent g e (slot w g) t.got p →
      ((stamp version theirs : ℕ) (points : Points) → IsMember (Renew e g stamp version theirs points) out.sent → ⊥) →
      (Tied w e g → ⊥) → Backed c (next_world d) g.who e.who p
  stranger g p n far claim none no_tie = old_claim g e p far (λ j. absurd (n j)) (go (claim_before g e (slot w g) t.got p none claim))
    where
      go : Claim w.sent g e (slot w g) t.got p → Claim w.sent g e (slot w g) (slot w e).got p
      go (by_record r) = by_record r
      go (by_renew i stamp version theirs points m lt r) = by_renew i stamp version theirs points m lt r
      go (by_flight l is le r) = absurd (no_tie (subst (λ (h : End). Tied w h g) far ((d.inv.slots g).touched (flew l is))))

  far_claims : (g : End) (p : ℕ) → (e ≡ g → ⊥) → (slot w g).far ≡ e → Claim (next_world d).sent g e (slot w g) t.got p → Backed c (next_world d) g.who e.who p
  far_claims g p n far claim = test (is_engaged (slot w e).state)
      (λ a. ⊎_elim
      (λ (i : (slot w e).far ≡ g).
      let now : Claim (out.sent ++ w.sent) (slot w e).far e (slot w (slot w e).far) t.got p =
      subst (λ g. Claim (next_world d).sent g e (slot w g) t.got p) (sym i) claim in
      ⊎_elim
      (λ old. old_claim g e p far (λ j. absurd (n j)) (subst (λ g. Claim w.sent g e (slot w g) (slot w e).got p) i old))
      (λ new. of_owner new)
      (d.duty.place.theirs a p now))
      (λ (i : (slot w e).far ≡ g → ⊥).
      stranger g p n far claim
      (λ stamp version theirs points m. i (sym (d.duty.sends (Renew e g stamp version theirs points) m).far)) (λ tie. i tie.far))
      (end_cases (slot w e).far g))
      (λ a.
      stranger g p n far claim
      (λ stamp version theirs points m. both_ways _ a (d.duty.sends (Renew e g stamp version theirs points) m).sound.tied.mine.engaged)
      (λ tie. both_ways _ a tie.engaged))

  pub backed_after : (g h : End) (p : ℕ) → (slot (next_world d) g).far ≡ h →
      Claim (next_world d).sent g h (slot (next_world d) g) (slot (next_world d) h).got p → Backed c (next_world d) g.who h.who p
  backed_after g h p = slot_cases d (λ g s. s.far ≡ h → Claim (next_world d).sent g h s (slot (next_world d) h).got p → Backed c (next_world d) g.who h.who p)
      (own_claims h p)
      (λ g n. slot_cases d (λ h s. (slot w g).far ≡ h → Claim (next_world d).sent g h (slot w g) s.got p → Backed c (next_world d) g.who h.who p)
      (far_claims g p n)
      (λ h m far claim. old_claim g h p far (λ j. absurd (n j))
      (claim_before g h (slot w g) (slot w h).got p (λ stamp version theirs points a. m (sym (d.duty.sends (Renew h g stamp version theirs points) a).own)) claim))
      h)
      g
