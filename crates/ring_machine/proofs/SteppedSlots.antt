-- After a deed each slot is sound, and an instance has one open session at most with another.
use Rattle.std.proofs.Common.{◌≡◌, ℕ, ◌<◌, true, refl, sym, ap, ◌∙◌, subst, ⊎_elim, arith}
use Rattle.fabric_lemmas.specs.Members.{IsMember}
use Rattle.ring_machine.specs.Ends.{End}
use Rattle.ring_machine.specs.Slots.{Slot, Asking, HasClaim, of_record, of_flight, guards, is_engaged, is_settled, is_active, is_willing}
use Rattle.ring_machine.specs.Frames.{RenewAck}
use Rattle.ring_machine.specs.World.{Settings, Instance, World, slot}
use Rattle.ring_machine.specs.Effects.{Outcome}
use Rattle.ring_machine.specs.Sessions.{Tied, Touched, flew, heard}
use Rattle.ring_machine.specs.Leases.{Rests, Leased, SoundHeir}
use Rattle.ring_machine.specs.SoundSlots.{SoundSlot, AsksFor}
use Rattle.ring_machine.proofs.Whos.{end_cases}
use Rattle.ring_machine.proofs.States.{implied}
use Rattle.ring_machine.proofs.Later.{tied_later, closed_later, answered_by_later, heir_by_later, freed_later, rests_later, leased_later}
use Rattle.ring_machine.proofs.Duty.{Deeded, SentAck}
use Rattle.ring_machine.proofs.Stepped.{next_world, slot_cases, own_slot, other_slot, own_instance, sent_cases, later, counter_rises, old_tie, own_tie, far_differs}

-- a slot with a claim is touched
pub claim_touched : (s : Slot) → ((p : ℕ) → s.held p ≡ true → 0 < s.held_version) → HasClaim s.held s.flight → Touched s
claim_touched s recorded (of_record p h) = heard (recorded p h)
claim_touched s recorded (of_flight l h) = flew l h

module _ {c : Settings} {w : World} {e : End} {next : ℕ} {out : Outcome} (d : Deeded c w e next out) where
  abbrev t : Slot
  t = out.slot

  -- h's lease and its acknowledgements by g still rest on stamps no later than the moment
  heir_after : (g h : End) (len ripe : ℕ) → Tied w h g → ((stamp version : ℕ) → IsMember (RenewAck g h stamp version) out.sent → ⊥) →
      SoundHeir c w g h len ripe → SoundHeir c (next_world d) g h len ripe
  heir_after g h len ripe tie deaf r = record {
    answered = answered_by_later (later d) g.who h.who r.answered;
    keeps = heir_by_later (later d) g.who h.who r.keeps;
    since = r.since;
    begun = r.begun;
    waits = r.waits;
    reading = (later d).pairs g.who (r.since, r.begun) r.reading;
    lease = slot_cases d (λ h s. Tied w h g → (guards (slot w h).state ≡ true → Leased (w.instance h.who).pairs r.since (slot w h).until (slot w h).len) →
        ((stamp version : ℕ) → IsMember (RenewAck g h stamp version) w.sent → Rests (w.instance h.who).pairs r.since stamp) →
        guards s.state ≡ true → Leased ((next_world d).instance h.who).pairs r.since s.until s.len)
        (λ tie was acks u. leased_later (later d) e.who r.since r.since t.until t.len (omega arith) (d.duty.link.since r.since tie.engaged was
        (subst
        (λ (g : End). (stamp version : ℕ) → IsMember (RenewAck g e stamp version) w.sent → Rests (w.instance e.who).pairs r.since stamp)
        (sym tie.far) acks)
        u))
        (λ h n tie was acks u. leased_later (later d) h.who r.since r.since (slot w h).until (slot w h).len (omega arith) (was u))
        h tie r.lease r.acks;
    acks = λ stamp version a. rests_later (later d) h.who r.since r.since stamp (omega arith)
        (⊎_elim (λ new. absurd (deaf stamp version new)) (λ old. r.acks stamp version old) (sent_cases d (RenewAck g h stamp version) a));
  }

  own_slot_sound : SoundSlot c (next_world d) e t
  own_slot_sound =
      let link = d.duty.link in
      let token = d.duty.token in record {
        numbered = λ h. subst (λ (i : Instance). e.number < i.next_session) (sym (own_instance d)) link.numbered;
        far_used = λ h. (later d).uses t.far (link.far_used h);
        apart = link.apart;
        touched = λ h. tied_later (later d) t.far e (link.touched h);
        bound = λ h. tied_later (later d) t.far e (link.bound h);
        asker = λ h.
            subst (λ (s : Slot). s.state ≡ Asking → AsksFor s e.who.actor t.len) (sym (other_slot d t.far (far_differs d t.far h refl)))
            (link.asker h);
        agreed = λ h tie. let n = far_differs d t.far h refl in link.agreed h (old_tie d t.far e n tie) ∙ ap (λ (s : Slot). s.len) (sym (other_slot d t.far n));
        plain = link.plain;
        recorded = link.recorded;
        leased = λ g. leased_later (later d) e.who w.time w.time t.until t.len (omega arith) (link.leased g);
        discharged = λ h. let k = link.discharged h in (answered_by_later (later d) e.who t.far.who k.0, k.1);
        heir = λ h. heir_after e t.far t.len t.ripe (link.touched (claim_touched t link.recorded (link.heir_claims h)))
            (λ stamp version b.
            let a : SentAck w e (slot w e) t e t.far stamp version = d.duty.sends (RenewAck e t.far stamp version) b in
            let wi = a.willing in cc (ap is_willing h, wi))
            (link.heir h);
        heir_claims = link.heir_claims;
        claims = link.claims;
        parting = link.parting;
        parted = λ h. let a = link.parted h in (a.0, a.1, closed_later (later d) t.far e a.2);
        acked = let a = token.acked in let b = (later d).held_versions t.far in omega arith;
        version = let a = token.version in let b = (later d).versions t.far.who in omega arith;
        got = let a = token.got in let b = (later d).next_flights t.far.who in omega arith;
        freed = λ h u. freed_later (later d) e t.far (link.freed h u);
      }

  -- what another slot's far end asks, it asked before
  asker_after : (g : End) → is_engaged (slot w g).state ≡ true → (slot (next_world d) (slot w g).far).state ≡ Asking →
      AsksFor (slot (next_world d) (slot w g).far) g.who.actor (slot w g).len
  asker_after g en a =
      let s = d.inv.slots g in
      let b = (later d).asks (slot w g).far (s.far_used en) a in
      let k = s.asker en b.asking in
      record { node_is = ap (λ (h : End). h.who.actor) b.far ∙ k.node_is; no_shorter = let i = b.len in let j = k.no_shorter in omega arith }

  -- another slot that is tied with its far end has its length
  agreed_after : (g : End) → (e ≡ g → ⊥) → is_engaged (slot w g).state ≡ true → Tied (next_world d) (slot w g).far g →
      (slot w g).len ≡ (slot (next_world d) (slot w g).far).len
  agreed_after g n en tie = ⊎_elim
      (λ (i : e ≡ (slot w g).far).
      let back : Tied (next_world d) e g = subst (λ h. Tied (next_world d) h g) (sym i) tie in
      let own = own_tie d g back in
      let forth : Tied w t.far e = subst (λ h. Tied w h e) (sym own.1) (record { engaged = en; far = sym i }) in
      let same : t.len ≡ (slot w t.far).len = d.duty.link.agreed own.0 forth in
      ap (λ h. (slot w h).len) (sym own.1) ∙ (sym same ∙ (ap (λ (s : Slot). s.len) (sym (own_slot d)) ∙ ap (λ h. (slot (next_world d) h).len) i)))
      (λ (i : e ≡ (slot w g).far → ⊥).
      (d.inv.slots g).agreed en (old_tie d (slot w g).far g i tie) ∙ ap (λ (s : Slot). s.len) (sym (other_slot d (slot w g).far i)))
      (end_cases e (slot w g).far)

  other_slot_sound : (g : End) → (e ≡ g → ⊥) → SoundSlot c (next_world d) g (slot w g)
  other_slot_sound g n =
      let s = d.inv.slots g in record {
        numbered = λ h. let a = s.numbered h in let b = counter_rises d g.who in omega arith;
        far_used = λ h. (later d).uses (slot w g).far (s.far_used h);
        apart = s.apart;
        touched = λ h. tied_later (later d) (slot w g).far g (s.touched h);
        bound = λ h. tied_later (later d) (slot w g).far g (s.bound h);
        asker = asker_after g;
        agreed = agreed_after g n;
        plain = s.plain;
        recorded = s.recorded;
        leased = λ u. leased_later (later d) g.who w.time w.time (slot w g).until (slot w g).len (omega arith) (s.leased u);
        discharged = λ h. let k = s.discharged h in (answered_by_later (later d) g.who (slot w g).far.who k.0, k.1);
        heir = λ h. heir_after g (slot w g).far (slot w g).len (slot w g).ripe (s.touched (claim_touched (slot w g) s.recorded (s.heir_claims h)))
            (λ stamp version b. n (sym (d.duty.sends (RenewAck g (slot w g).far stamp version) b).own)) (s.heir h);
        heir_claims = s.heir_claims;
        claims = s.claims;
        parting = s.parting;
        parted = λ h. let a = s.parted h in (a.0, a.1, closed_later (later d) (slot w g).far g a.2);
        acked = let a = s.acked in let b = (later d).held_versions (slot w g).far in omega arith;
        version = let a = s.version in let b = (later d).versions (slot w g).far.who in omega arith;
        got = let a = s.got in let b = (later d).next_flights (slot w g).far.who in omega arith;
        freed = λ h u. freed_later (later d) g (slot w g).far (s.freed h u);
      }

  pub slots_after : (g : End) → SoundSlot c (next_world d) g (slot (next_world d) g)
  slots_after = slot_cases d (λ g s. SoundSlot c (next_world d) g s) own_slot_sound other_slot_sound

  -- e's slot is the only open one of its instance with the other's
  single_own : (h : End) → (e ≡ h → ⊥) → e.who ≡ h.who → is_active t.state ≡ true → is_active (slot w h).state ≡ true → t.far.who ≡ (slot w h).far.who → ⊥
  single_own h n who a b far = ⊎_elim
      (λ (was : is_active (slot w e).state ≡ true).
      n
      (d.inv.single e h who was b (ap (λ (g : End). g.who) (sym (d.duty.link.far (implied is_active is_settled refl (slot w e).state was))) ∙ far)))
      (λ alone. alone h (sym who) b (sym far))
      (d.duty.link.single a)

  pub single_after : (g h : End) → g.who ≡ h.who → is_active (slot (next_world d) g).state ≡ true →
      is_active (slot (next_world d) h).state ≡ true → (slot (next_world d) g).far.who ≡ (slot (next_world d) h).far.who → g ≡ h
  single_after g h =
      slot_cases d
      (λ g s. g.who ≡ h.who → is_active s.state ≡ true → is_active (slot (next_world d) h).state ≡ true → s.far.who ≡ (slot (next_world d) h).far.who → g ≡ h)
      (slot_cases d (λ h s. e.who ≡ h.who → is_active t.state ≡ true → is_active s.state ≡ true → t.far.who ≡ s.far.who → e ≡ h)
      (λ i a b far. refl)
      (λ h n i a b far. absurd (single_own h n i a b far))
      h)
      (λ g n. slot_cases d (λ h s. g.who ≡ h.who → is_active (slot w g).state ≡ true → is_active s.state ≡ true → (slot w g).far.who ≡ s.far.who → g ≡ h)
      (λ i a b far. absurd (single_own g n (sym i) b a (sym far)))
      (λ h m i a b far. d.inv.single g h i a b far)
      h)
      g
