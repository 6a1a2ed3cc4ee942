-- A deed that does its duty keeps the invariant, and leaves its instance live.
use Rattle.std.proofs.Common.{◌≡◌, ℕ, ◌+◌, ◌<◌, true, Some, sym, subst, arith, ap, ◌∙◌, refl}
use Rattle.fabric_lemmas.specs.Members.{IsMember}
use Rattle.ring_machine.specs.Points.{is_point}
use Rattle.ring_machine.specs.Ends.{End}
use Rattle.ring_machine.specs.Slots.{guards}
use Rattle.ring_machine.specs.Tokens.{Freeze}
use Rattle.drift_clock.specs.Within.{Within}
use Rattle.ring_machine.specs.World.{Settings, World, Unborn, Running, At, Live, unborn}
use Rattle.ring_machine.specs.Effects.{Outcome, stepped}
use Rattle.ring_machine.specs.SoundFlights.{SoundToken}
use Rattle.ring_machine.specs.Invariant.{Invariant}
use Rattle.ring_machine.proofs.Whos.{replaced_cases}
use Rattle.ring_machine.proofs.Duty.{Deeded}
use Rattle.ring_machine.proofs.Stepped.{instance_cases, own_instance}
use Rattle.ring_machine.proofs.SteppedSlots.{slots_after, single_after}
use Rattle.ring_machine.proofs.SteppedFrames.{frames_after, flights_after, flown_after}
use Rattle.ring_machine.proofs.SteppedClaims.{backed_after}
use Rattle.ring_machine.proofs.SteppedFreezes.{freezes_after}

module _ {c : Settings} {w : World} {e : End} {next : ℕ} {out : Outcome} (d : Deeded c w e next out) where
  -- e's instance is not unborn
  born_here : (w.instance e.who).phase ≡ Unborn → ⊥
  born_here h = let r = d.live.running in cc (h, r)

  pub keeps : Invariant c (stepped w e next out)
  keeps =
      let place = d.duty.place in record {
        owned = λ y p.
            instance_cases d (λ y i. Live c i → i.token.ranges p ≡ true → out.place p ≡ At y) (λ l h. place.owned p h)
            (λ y n l h. place.keeps y p n l (d.inv.owned y p l h)) y;
        exact = λ y p.
            instance_cases d (λ y i. Live c i → out.place p ≡ At y → i.token.ranges p ≡ true) (λ l h. place.exact p h)
            (λ y n l h. d.inv.exact y p l (place.gets_none y p n h)) y;
        unborn_place = λ y p.
            instance_cases d (λ y i. i.phase ≡ Unborn → out.place p ≡ At y → (y ≡ w.whole) × (is_point p ≡ true))
            (λ h. absurd (born_here h)) (λ y n h i. d.inv.unborn_place y p h (place.gets_none y p n i)) y;
        whole_ring = λ p.
            instance_cases d (λ y i. y ≡ w.whole → i.phase ≡ Unborn → is_point p ≡ true → out.place p ≡ At w.whole) (λ same h. absurd (born_here h))
            (λ y n same h q. let now = ap (λ y. (w.instance y).phase) (sym same) ∙ h in place.keeps_unborn w.whole p now (d.inv.whole_ring p now q)) w.whole refl;
        inside = λ p h q. d.inv.inside p h (d.inside p q);
        not_started = instance_cases d (λ y i. w.starts y.actor < y.instance → i.phase ≡ Unborn) (d.inv.not_started e.who) (λ y n. d.inv.not_started y);
        no_zeroth = instance_cases d (λ y i. y.instance ≡ 0 → i.phase ≡ Unborn) (d.inv.no_zeroth e.who) (λ y n. d.inv.no_zeroth y);
        blank = instance_cases d (λ y i. i.phase ≡ Unborn → i ≡ unborn) (λ h. absurd (born_here h)) (λ y n. d.inv.blank y);
        clocks =
            instance_cases d
            (λ y i. (time reading : ℕ) → i.phase ≡ Running → IsMember (time, reading) i.pairs → Within c.bound (time, reading) (w.time, i.reading))
            (d.inv.clocks e.who) (λ y n. d.inv.clocks y);
        present = instance_cases d (λ y i. i.phase ≡ Running → IsMember (w.time, i.reading) i.pairs) (d.inv.present e.who) (λ y n. d.inv.present y);
        slots = slots_after d;
        frames = frames_after d;
        single = single_after d;
        backed = backed_after d;
        flights = flights_after d;
        flown = flown_after d;
        counted =
            instance_cases d (λ y i. 0 < i.token.next_flight)
            (let a = d.inv.counted e.who in let b = d.duty.token.next_flight_rises in omega arith) (λ y n. d.inv.counted y);
        tokens = instance_cases d (λ y i. (z : Freeze) → i.token.freeze ≡ Some z → SoundToken i.token z) d.duty.token.sound (λ y n. d.inv.tokens y);
        freezes = freezes_after d;
      }

  pub stays_live : Live c ((stepped w e next out).instance e.who)
  stays_live = subst (Live c) (sym (own_instance d)) (record {
    running = d.live.running;
    below = λ m.
        replaced_cases (λ s. guards s.state ≡ true → (w.instance e.who).reading < s.until + c.answer) (w.instance e.who).slots e.number
        m out.slot (λ h. d.duty.fence) (λ h. d.live.below m);
  })
