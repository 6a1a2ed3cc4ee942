-- An instance that leaves or stops is dead, and keeps the invariant.
use Rattle.std.proofs.Common.{◌≡◌, ℕ, ◌<◌, ◌≤◌, true, Some, refl, subst, arith, ap, sym, ◌∙◌}
use Rattle.ring_points.specs.declared.who.Who.{Who}
use Rattle.fabric_lemmas.specs.Members.{IsMember}
use Rattle.ring_machine.specs.Points.{is_point}
use Rattle.ring_machine.specs.Tokens.{Freeze}
use Rattle.drift_clock.specs.Within.{Within}
use Rattle.ring_machine.specs.World.{Settings, Instance, World, Phase, Unborn, Running, At, Live, Dead, unborn}
use Rattle.ring_machine.specs.SoundFlights.{SoundToken}
use Rattle.ring_machine.specs.Events.{in_phase}
use Rattle.ring_machine.specs.Invariant.{Invariant}
use Rattle.ring_machine.proofs.Whos.{updated_cases}
use Rattle.ring_machine.proofs.Later.{Later}
use Rattle.ring_machine.proofs.Unmoved.{Unmoved, unmoved_later, slots_unmoved, frames_unmoved, backed_unmoved, flights_unmoved, freezes_unmoved, single_unmoved}

module _ {c : Settings} {w : World} (inv : Invariant c w) (x : Who) (phase : Phase) (born : (w.instance x).phase ≡ Unborn → ⊥)
    (not_unborn : phase ≡ Unborn → ⊥) (not_running : phase ≡ Running → ⊥) where
  abbrev out : Instance
  out = record (w.instance x) { phase = phase }

  abbrev instances : Who → Instance
  instances = (in_phase w x phase).instance

  -- what holds of an instance
  instance_cases : (P : Who → Instance → Type 0) → P x out → ((y : Who) → P y (w.instance y)) → (y : Who) → P y (instances y)
  instance_cases P new old y = updated_cases (P y) w.instance x y out (λ h. subst (λ z. P z out) h new) (λ h. old y)

  gone : Live c out → ⊥
  gone l = not_running l.running

  left : Unmoved c w w.time instances
  left = record {
    time_passes = omega arith;
    dies = instance_cases (λ y i. Dead c (w.instance y) → Dead c i) (λ d. record { born = not_unborn; not_live = gone }) (λ y d. d);
    pairs = λ y q. instance_cases (λ y i. IsMember q (w.instance y).pairs → IsMember q i.pairs) (λ m. m) (λ y m. m) y;
    slots = λ e. instance_cases (λ y i. i.slots e.number ≡ (w.instance y).slots e.number) refl (λ y. refl) e.who;
    counters = instance_cases (λ y i. (w.instance y).next_session ≤ i.next_session) (omega arith) (λ y. omega arith);
    versions = instance_cases (λ y i. (w.instance y).token.version ≤ i.token.version) (omega arith) (λ y. omega arith);
    next_flights = instance_cases (λ y i. (w.instance y).token.next_flight ≤ i.token.next_flight) (omega arith) (λ y. omega arith);
    freezes = instance_cases (λ y i. (z : Freeze) → i.token.freeze ≡ Some z → (w.instance y).token.freeze ≡ Some z) (λ z h. h) (λ y z h. h);
  }

  pub left_later : Later c w (in_phase w x phase)
  left_later = unmoved_later inv w.starts left

  pub left_keeps : Invariant c (in_phase w x phase)
  left_keeps = record {
    owned = instance_cases (λ y i. (p : ℕ) → Live c i → i.token.ranges p ≡ true → w.place p ≡ At y) (λ p l. absurd (gone l)) inv.owned;
    exact = instance_cases (λ y i. (p : ℕ) → Live c i → w.place p ≡ At y → i.token.ranges p ≡ true) (λ p l. absurd (gone l)) inv.exact;
    unborn_place =
        instance_cases (λ y i. (p : ℕ) → i.phase ≡ Unborn → w.place p ≡ At y → (y ≡ w.whole) × (is_point p ≡ true))
        (λ p h. absurd (not_unborn h)) inv.unborn_place;
    whole_ring = λ p.
        instance_cases (λ y i. y ≡ w.whole → i.phase ≡ Unborn → is_point p ≡ true → w.place p ≡ At w.whole) (λ same h. absurd (not_unborn h))
        (λ y same h. inv.whole_ring p (ap (λ y. (w.instance y).phase) (sym same) ∙ h)) w.whole refl;
    inside = inv.inside;
    not_started = instance_cases (λ y i. w.starts y.actor < y.instance → i.phase ≡ Unborn) (λ h. absurd (born (inv.not_started x h))) inv.not_started;
    no_zeroth = instance_cases (λ y i. y.instance ≡ 0 → i.phase ≡ Unborn) (λ h. absurd (born (inv.no_zeroth x h))) inv.no_zeroth;
    blank = instance_cases (λ y i. i.phase ≡ Unborn → i ≡ unborn) (λ h. absurd (not_unborn h)) inv.blank;
    clocks =
        instance_cases
        (λ y i. (time reading : ℕ) → i.phase ≡ Running → IsMember (time, reading) i.pairs → Within c.bound (time, reading) (w.time, i.reading))
        (λ time reading h. absurd (not_running h)) inv.clocks;
    present = instance_cases (λ y i. i.phase ≡ Running → IsMember (w.time, i.reading) i.pairs) (λ h. absurd (not_running h)) inv.present;
    slots = slots_unmoved inv w.starts left;
    frames = frames_unmoved inv w.starts left;
    single = single_unmoved inv w.starts left;
    backed = backed_unmoved inv w.starts left;
    flights = flights_unmoved inv w.starts left;
    flown = λ e f number p i. let n = inv.flown e f number p i in let m = left.next_flights e.who in omega arith;
    counted = λ y. let n = inv.counted y in let m = left.next_flights y in omega arith;
    tokens = instance_cases (λ y i. (z : Freeze) → i.token.freeze ≡ Some z → SoundToken i.token z) (inv.tokens x) inv.tokens;
    freezes = freezes_unmoved inv w.starts left;
  }
