-- The world after a deed: what holds of its slots and instances, by cases, and that it is later.
use Rattle.std.proofs.Common.{◌≡◌, ℕ, ◌≤◌, true, false, ◌⊎◌, refl, sym, ap, ◌∙◌, subst, arith}
use Rattle.ring_points.specs.declared.who.Who.{Who}
use Rattle.ring_points.specs.Whos.{same_who}
use Rattle.fabric_lemmas.specs.Members.{IsMember}
use Rattle.ring_machine.specs.Ends.{End}
use Rattle.ring_machine.specs.Slots.{Slot, Asking, is_used, is_settled, is_engaged, is_willing}
use Rattle.ring_machine.specs.Frames.{Frame}
use Rattle.ring_machine.specs.World.{Settings, Instance, World, Dead, slot}
use Rattle.ring_machine.specs.Effects.{Outcome, changed, stepped}
use Rattle.ring_machine.specs.Sessions.{Tied, Quiet}
use Rattle.ring_machine.proofs.Lists.{IsMember-append_right, IsMember-append_cases}
use Rattle.ring_points.proofs.Whos.{same_who-false}
use Rattle.ring_machine.proofs.Whos.{updated_cases, replaced_cases, apart_ends}
use Rattle.ring_machine.proofs.Later.{Later, AskedBefore}
use Rattle.ring_machine.proofs.Duty.{Deeded}

module _ {c : Settings} {w : World} {e : End} {next : ℕ} {out : Outcome} (d : Deeded c w e next out) where
  abbrev pub next_world : World
  next_world = stepped w e next out

  abbrev acted : Instance
  acted = changed (w.instance e.who) e.number next out.slot out.token

  -- what holds of a slot
  pub slot_cases : (P : End → Slot → Type 0) → P e out.slot → ((g : End) → (e ≡ g → ⊥) → P g (slot w g)) → (g : End) → P g (slot next_world g)
  slot_cases P mine others g = updated_cases (λ i. P g (i.slots g.number)) w.instance e.who g.who acted
      (λ who. replaced_cases (P g) (w.instance e.who).slots e.number g.number out.slot
      (λ number. subst (λ g. P g out.slot) (λ i. record { who = who i; number = number i }) mine)
      (λ n. subst (λ u. P g ((w.instance u).slots g.number)) (sym who) (others g (λ h. n (ap (λ (h : End). h.number) h)))))
      (λ who. others g (apart_ends e g who))

  pub own_slot : slot next_world e ≡ out.slot
  own_slot = slot_cases (λ g s. e ≡ g → s ≡ out.slot) (λ a. refl) (λ g n a. absurd (n a)) e refl

  pub other_slot : (g : End) → (e ≡ g → ⊥) → slot next_world g ≡ slot w g
  other_slot g = slot_cases (λ g s. (e ≡ g → ⊥) → s ≡ slot w g) (λ n. absurd (n refl)) (λ g n m. refl) g

  -- what holds of an instance
  pub instance_cases : (P : Who → Instance → Type 0) → P e.who acted → ((y : Who) → same_who e.who y ≡ false → P y (w.instance y)) →
      (y : Who) → P y (next_world.instance y)
  instance_cases P mine others y = updated_cases (P y) w.instance e.who y acted (λ h. subst (λ u. P u acted) h mine) (others y)

  pub own_instance : next_world.instance e.who ≡ acted
  own_instance = instance_cases (λ y i. e.who ≡ y → i ≡ acted) (λ a. refl) (λ y n a. absurd (same_who-false e.who y n a)) e.who refl

  pub other_instance : (y : Who) → same_who e.who y ≡ false → next_world.instance y ≡ w.instance y
  other_instance y = instance_cases (λ y i. same_who e.who y ≡ false → i ≡ w.instance y) (λ n. absurd (same_who-false e.who e.who n refl)) (λ y n m. refl) y

  pub sent_cases : (f : Frame) → IsMember f next_world.sent → IsMember f out.sent ⊎ IsMember f w.sent
  sent_cases f m = IsMember-append_cases f out.sent w.sent m

  pub later : Later c w next_world
  later =
      let link = d.duty.link in
      let token = d.duty.token in record {
        time = omega arith;
        sent = λ f m. IsMember-append_right f out.sent w.sent m;
        pairs = λ y q. instance_cases (λ y i. IsMember q (w.instance y).pairs → IsMember q i.pairs) (λ m. m) (λ y n m. m) y;
        dies = instance_cases (λ y i. Dead c (w.instance y) → Dead c i) (λ a. absurd (a.not_live d.live)) (λ y n a. a);
        versions = instance_cases (λ y i. (w.instance y).token.version ≤ i.token.version) token.version_rises (λ y n. omega arith);
        next_flights = instance_cases (λ y i. (w.instance y).token.next_flight ≤ i.token.next_flight) token.next_flight_rises (λ y n. omega arith);
        uses = slot_cases (λ g s. is_used (slot w g).state ≡ true → is_used s.state ≡ true) (λ h. link.used) (λ g n h. h);
        asks =
            slot_cases (λ g s. is_used (slot w g).state ≡ true → s.state ≡ Asking → AskedBefore (slot w g) s) link.asks
            (λ g n h a. record { asking = a; far = refl; len = refl });
        engages = slot_cases (λ g s. is_engaged (slot w g).state ≡ true → is_engaged s.state ≡ true) link.engages (λ g n h. h);
        settles = slot_cases (λ g s. is_settled (slot w g).state ≡ true → is_settled s.state ≡ true) link.settles (λ g n h. h);
        far = slot_cases (λ g s. is_settled (slot w g).state ≡ true → s.far ≡ (slot w g).far) link.far (λ g n h. refl);
        len = slot_cases (λ g s. is_settled (slot w g).state ≡ true → s.len ≡ (slot w g).len) link.len (λ g n h. refl);
        quiets =
            slot_cases
            (λ g s. is_settled (slot w g).state ≡ true → Quiet (slot w g).state (slot w g).held (slot w g).flight → Quiet s.state s.held s.flight)
            link.quiets (λ g n h q. q);
        willing =
            slot_cases (λ g s. is_settled (slot w g).state ≡ true → is_willing s.state ≡ true → is_willing (slot w g).state ≡ true)
            link.willing (λ g n h a. a);
        still =
            slot_cases (λ g s. is_settled (slot w g).state ≡ true → is_willing (slot w g).state ≡ false → s.got ≡ (slot w g).got)
            token.got_still (λ g n a b. refl);
        held_versions = slot_cases (λ g s. (slot w g).held_version ≤ s.held_version) token.held_version_rises (λ g n. omega arith);
        gots = slot_cases (λ g s. (slot w g).got ≤ s.got) token.got_rises (λ g n. omega arith);
      }

  pub counter_rises : (y : Who) → (w.instance y).next_session ≤ (next_world.instance y).next_session
  counter_rises = instance_cases (λ y i. (w.instance y).next_session ≤ i.next_session) d.duty.link.counter (λ y n. omega arith)

  -- a tie of before is of now, and the other way round where e is not concerned
  pub old_tie : (g h : End) → (e ≡ g → ⊥) → Tied next_world g h → Tied w g h
  old_tie g h n t =
      let s = other_slot g n in
      record { engaged = subst (λ (s : Slot). is_engaged s.state ≡ true) s t.engaged; far = ap (λ (s : Slot). s.far) (sym s) ∙ t.far }

  pub own_tie : (h : End) → Tied next_world e h → (is_engaged out.slot.state ≡ true) × (out.slot.far ≡ h)
  own_tie h t = (subst (λ (s : Slot). is_engaged s.state ≡ true) own_slot t.engaged, ap (λ (s : Slot). s.far) (sym own_slot) ∙ t.far)

  pub new_tie : (h : End) → is_engaged out.slot.state ≡ true → out.slot.far ≡ h → Tied next_world e h
  new_tie h a b = record { engaged = subst (λ (s : Slot). is_engaged s.state ≡ true) (sym own_slot) a; far = ap (λ (s : Slot). s.far) own_slot ∙ b }

  -- the other end of a session is another instance's
  pub far_apart : (h : End) → Tied w e h → same_who e.who h.who ≡ false
  far_apart h t = subst (λ (h : End). same_who e.who h.who ≡ false) t.far ((d.inv.slots e).apart t.engaged)

  pub far_differs : (h : End) → is_engaged out.slot.state ≡ true → out.slot.far ≡ h → e ≡ h → ⊥
  far_differs h a b = apart_ends e h (subst (λ (h : End). same_who e.who h.who ≡ false) b (d.duty.link.apart a))
