-- A node starts: its next instance owns nothing, or the whole ring, if it is the one that begins with it.
use Rattle.std.proofs.Common.{◌≡◌, ◌+◌, ℕ, ◌<◌, ◌≤◌, true, ◌&&◌, Some, refl, sym, ap, subst, inl, ⊎_elim, arith, ◌∙◌}
use Rattle.std.proofs.lemmas.Bool.{and_parts, and_from}
use Rattle.ring_points.specs.declared.who.Who.{Who}
use Rattle.ring_points.specs.Whos.{same_who}
use Rattle.fabric_lemmas.specs.Members.{IsMember}
use Rattle.ring_machine.specs.Points.{is_point}
use Rattle.ring_machine.specs.Tokens.{Freeze}
use Rattle.drift_clock.specs.Within.{Within}
use Rattle.ring_machine.specs.World.{Settings, Instance, World, Unborn, Running, At, Live, Dead, unborn, born}
use Rattle.ring_machine.specs.SoundFlights.{SoundToken}
use Rattle.ring_machine.specs.Events.{next_instance, started}
use Rattle.ring_machine.specs.Invariant.{Invariant}
use Rattle.ring_points.proofs.Whos.{same_who-true, same_who-refl}
use Rattle.ring_machine.proofs.Whos.{updated_cases, replaced_cases}
use Rattle.ring_machine.proofs.Waits.{Within-refl}
use Rattle.ring_machine.proofs.Later.{Later}
use Rattle.ring_machine.proofs.Unmoved.{Unmoved, unmoved_later, slots_unmoved, frames_unmoved, backed_unmoved, flights_unmoved, freezes_unmoved, single_unmoved}

module _ {c : Settings} {w : World} (inv : Invariant c w) (node reading : ℕ) where
  abbrev x : Who
  x = next_instance w node

  abbrev new : Instance
  new = born w.whole w.time x reading

  abbrev starts : ℕ → ℕ
  starts = (started c w node reading).starts

  abbrev instances : Who → Instance
  instances = (started c w node reading).instance

  was_unborn : (w.instance x).phase ≡ Unborn
  was_unborn = inv.not_started x (omega arith)

  -- what holds of an instance; the new one was unborn
  instance_cases : (P : Who → Instance → Instance → Type 0) → P x unborn new → ((y : Who) → P y (w.instance y) (w.instance y)) →
      (y : Who) → P y (w.instance y) (instances y)
  instance_cases P here old y =
      updated_cases (P y (w.instance y)) w.instance x y new
      (λ h. subst (λ z. P z (w.instance z) new) h (subst (λ i. P x i new) (sym (inv.blank x was_unborn)) here)) (λ h. old y)

  starts_rise : (m : ℕ) → w.starts m ≤ starts m
  starts_rise m = replaced_cases (λ n. w.starts m ≤ n) w.starts node m (w.starts node + 1) (λ h. let same = ap w.starts h in omega arith) (λ h. omega arith)

  -- the new instance is counted
  counted_here : starts x.actor < x.instance → ⊥
  counted_here = replaced_cases (λ n. n < w.starts node + 1 → ⊥) w.starts node node (w.starts node + 1) (λ h lt. omega arith) (λ n. absurd (n refl))

  begun : Unmoved c w w.time instances
  begun = record {
    time_passes = omega arith;
    dies = instance_cases (λ y i j. Dead c i → Dead c j) (λ d. absurd (d.born refl)) (λ y d. d);
    pairs = λ y q. instance_cases (λ y i j. IsMember q i.pairs → IsMember q j.pairs) (λ m. absurd m) (λ y m. m) y;
    slots = λ e. instance_cases (λ y i j. j.slots e.number ≡ i.slots e.number) refl (λ y. refl) e.who;
    counters = instance_cases (λ y i j. i.next_session ≤ j.next_session) (omega arith) (λ y. omega arith);
    versions = instance_cases (λ y i j. i.token.version ≤ j.token.version) (omega arith) (λ y. omega arith);
    next_flights = instance_cases (λ y i j. i.token.next_flight ≤ j.token.next_flight) (omega arith) (λ y. omega arith);
    freezes = instance_cases (λ y i j. (z : Freeze) → j.token.freeze ≡ Some z → i.token.freeze ≡ Some z) (λ z h. h) (λ y z h. h);
  }

  pub started_later : Later c w (started c w node reading)
  started_later = unmoved_later inv starts begun

  -- who begins with the whole ring has it, since it waits for it
  first_owns : (p : ℕ) → same_who x w.whole && is_point p ≡ true → w.place p ≡ At x
  first_owns p h =
      let k = and_parts (same_who x w.whole) (is_point p) h in
      let first : x ≡ w.whole = same_who-true x w.whole k.0 in
      subst (λ y. w.place p ≡ At y) (sym first) (inv.whole_ring p (ap (λ y. (w.instance y).phase) (sym first) ∙ was_unborn) k.1)

  owns_first : (p : ℕ) → w.place p ≡ At x → same_who x w.whole && is_point p ≡ true
  owns_first p h =
      let k = inv.unborn_place x p was_unborn h in
      and_from (same_who x w.whole) (is_point p) (subst (λ y. same_who x y ≡ true) k.0 (same_who-refl x)) k.1

  pub started_keeps : Invariant c (started c w node reading)
  started_keeps = record {
    owned = instance_cases (λ y i j. (p : ℕ) → Live c j → j.token.ranges p ≡ true → w.place p ≡ At y) (λ p l h. first_owns p h) inv.owned;
    exact = instance_cases (λ y i j. (p : ℕ) → Live c j → w.place p ≡ At y → j.token.ranges p ≡ true) (λ p l h. owns_first p h) inv.exact;
    unborn_place =
        instance_cases (λ y i j. (p : ℕ) → j.phase ≡ Unborn → w.place p ≡ At y → (y ≡ w.whole) × (is_point p ≡ true))
        (λ p h. absurd (cc (h))) inv.unborn_place;
    inside = inv.inside;
    whole_ring = λ p.
        instance_cases (λ y i j. y ≡ w.whole → j.phase ≡ Unborn → is_point p ≡ true → w.place p ≡ At w.whole) (λ same h. absurd (cc (h)))
        (λ y same h. inv.whole_ring p (ap (λ y. (w.instance y).phase) (sym same) ∙ h)) w.whole refl;
    not_started =
        instance_cases (λ y i j. starts y.actor < y.instance → j.phase ≡ Unborn) (λ h. absurd (counted_here h))
        (λ y h. let rises = starts_rise y.actor in inv.not_started y (omega arith));
    no_zeroth = instance_cases (λ y i j. y.instance ≡ 0 → j.phase ≡ Unborn) (λ h. absurd (omega arith)) inv.no_zeroth;
    blank = instance_cases (λ y i j. j.phase ≡ Unborn → j ≡ unborn) (λ h. absurd (cc (h))) inv.blank;
    clocks = instance_cases (λ y i j. (time read : ℕ) → j.phase ≡ Running → IsMember (time, read) j.pairs → Within c.bound (time, read) (w.time, j.reading))
        (λ time read h m.
        ⊎_elim
        (λ (e : (time, read) ≡ (w.time, reading)). subst (λ (z : ℕ × ℕ). Within c.bound z (w.time, reading)) (sym e) (Within-refl c.bound (w.time, reading)))
        (λ n. absurd n) m)
        inv.clocks;
    present = instance_cases (λ y i j. j.phase ≡ Running → IsMember (w.time, j.reading) j.pairs) (λ h. inl refl) inv.present;
    slots = slots_unmoved inv starts begun;
    frames = frames_unmoved inv starts begun;
    single = single_unmoved inv starts begun;
    backed = backed_unmoved inv starts begun;
    flights = flights_unmoved inv starts begun;
    flown = λ e f number p i. let n = inv.flown e f number p i in let m = begun.next_flights e.who in omega arith;
    counted = λ y. let n = inv.counted y in let m = begun.next_flights y in omega arith;
    tokens = instance_cases (λ y i j. (z : Freeze) → j.token.freeze ≡ Some z → SoundToken j.token z) (λ z h. absurd (cc (h))) inv.tokens;
    freezes = freezes_unmoved inv starts begun;
  }
