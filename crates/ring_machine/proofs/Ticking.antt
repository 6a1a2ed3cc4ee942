-- Time passes within the bound of each running clock, and the invariant is kept.
use Rattle.std.proofs.Common.{◌≡◌, ℕ, ◌+◌, ◌<◌, ◌≤◌, Bool, true, false, ◌∷◌, Some, refl, sym, ap, subst, inl, inr, ⊎_elim, arith, ◌∙◌}
use Rattle.ring_points.specs.declared.who.Who.{Who}
use Rattle.fabric_lemmas.specs.Members.{IsMember}
use Rattle.ring_machine.specs.Points.{is_point}
use Rattle.ring_machine.specs.Tokens.{Freeze}
use Rattle.drift_clock.specs.Within.{Within, FitsAll}
use Rattle.ring_machine.specs.World.{Settings, Instance, World, Unborn, Running, At, Live, Dead, unborn, has_clock}
use Rattle.ring_machine.specs.SoundFlights.{SoundToken}
use Rattle.ring_machine.specs.Events.{ticked, passed}
use Rattle.ring_machine.specs.Invariant.{Invariant}
use Rattle.ring_machine.proofs.Waits.{FitsAll-IsMember, Within-refl}
use Rattle.ring_machine.proofs.Later.{Later}
use Rattle.ring_machine.proofs.Unmoved.{Unmoved, unmoved_later, slots_unmoved, frames_unmoved, backed_unmoved, flights_unmoved, freezes_unmoved, single_unmoved}

module _ {c : Settings} {w : World} (inv : Invariant c w) (advance : ℕ) (readings : Who → ℕ)
    (fits : (x : Who) → (w.instance x).phase ≡ Running → FitsAll c.bound (w.instance x).pairs (w.time + advance, readings x)) where
  abbrev now : ℕ
  now = w.time + advance

  abbrev instances : Who → Instance
  instances = (passed w advance readings).instance

  -- what holds of an instance, by whether its clock ticks
  clock_cases : (P : Who → Instance → Type 0) →
      ((y : Who) → has_clock (w.instance y).phase ≡ true → P y (ticked (w.instance y) (w.time + advance) (readings y) true)) →
      ((y : Who) → has_clock (w.instance y).phase ≡ false → P y (w.instance y)) → (y : Who) → P y (instances y)
  clock_cases P new old y = go (has_clock (w.instance y).phase) refl
    where
      go : (b : Bool) → has_clock (w.instance y).phase ≡ b → P y (ticked (w.instance y) (w.time + advance) (readings y) b)
      go true h = new y h
      go false h = old y h

  -- the present reading of a running clock, and the next one
  next_reading : (y : Who) → (w.instance y).phase ≡ Running → Within c.bound (w.time, (w.instance y).reading) (now, readings y)
  next_reading y r = FitsAll-IsMember c.bound (w.instance y).pairs (now, readings y) (w.time, (w.instance y).reading) (fits y r) (inv.present y r)

  -- who is live at the next reading was live before
  was_live : (y : Who) →
      Live c (record (w.instance y) { reading = readings y; pairs = (w.time + advance, readings y) ∷ (w.instance y).pairs }) →
      Live c (w.instance y)
  was_live y l = record { running = l.running; below = λ m g. let rises = (next_reading y l.running).readings in let b = l.below m g in omega arith }

  time_passed : Unmoved c w now instances
  time_passed = record {
    time_passes = omega arith;
    dies = clock_cases (λ y i. Dead c (w.instance y) → Dead c i) (λ y h d. record { born = d.born; not_live = λ l. d.not_live (was_live y l) }) (λ y h d. d);
    pairs = λ y q. clock_cases (λ y i. IsMember q (w.instance y).pairs → IsMember q i.pairs) (λ y h m. inr m) (λ y h m. m) y;
    slots = λ e. clock_cases (λ y i. i.slots e.number ≡ (w.instance y).slots e.number) (λ y h. refl) (λ y h. refl) e.who;
    counters = clock_cases (λ y i. (w.instance y).next_session ≤ i.next_session) (λ y h. omega arith) (λ y h. omega arith);
    versions = clock_cases (λ y i. (w.instance y).token.version ≤ i.token.version) (λ y h. omega arith) (λ y h. omega arith);
    next_flights = clock_cases (λ y i. (w.instance y).token.next_flight ≤ i.token.next_flight) (λ y h. omega arith) (λ y h. omega arith);
    freezes = clock_cases (λ y i. (z : Freeze) → i.token.freeze ≡ Some z → (w.instance y).token.freeze ≡ Some z) (λ y h z k. k) (λ y h z k. k);
  }

  pub passed_later : Later c w (passed w advance readings)
  passed_later = unmoved_later inv w.starts time_passed

  pub passed_keeps : Invariant c (passed w advance readings)
  passed_keeps = record {
    owned = clock_cases (λ y i. (p : ℕ) → Live c i → i.token.ranges p ≡ true → w.place p ≡ At y) (λ y h p l. inv.owned y p (was_live y l)) (λ y h. inv.owned y);
    exact = clock_cases (λ y i. (p : ℕ) → Live c i → w.place p ≡ At y → i.token.ranges p ≡ true) (λ y h p l. inv.exact y p (was_live y l)) (λ y h. inv.exact y);
    unborn_place =
        clock_cases (λ y i. (p : ℕ) → i.phase ≡ Unborn → w.place p ≡ At y → (y ≡ w.whole) × (is_point p ≡ true))
        (λ y h. inv.unborn_place y) (λ y h. inv.unborn_place y);
    whole_ring = λ p.
        clock_cases (λ y i. y ≡ w.whole → i.phase ≡ Unborn → is_point p ≡ true → w.place p ≡ At w.whole) (λ y h same k. absurd (cc (h, k)))
        (λ y h same k. inv.whole_ring p (ap (λ y. (w.instance y).phase) (sym same) ∙ k)) w.whole refl;
    inside = inv.inside;
    not_started = clock_cases (λ y i. w.starts y.actor < y.instance → i.phase ≡ Unborn) (λ y h. inv.not_started y) (λ y h. inv.not_started y);
    no_zeroth = clock_cases (λ y i. y.instance ≡ 0 → i.phase ≡ Unborn) (λ y h. inv.no_zeroth y) (λ y h. inv.no_zeroth y);
    blank = clock_cases (λ y i. i.phase ≡ Unborn → i ≡ unborn) (λ y h k. absurd (cc (h, k))) (λ y h. inv.blank y);
    clocks = clock_cases (λ y i. (time reading : ℕ) → i.phase ≡ Running → IsMember (time, reading) i.pairs → Within c.bound (time, reading) (now, i.reading))
        (λ y h time reading r m. ⊎_elim
        (λ (e : (time, reading) ≡ (now, readings y)). subst (λ (z : ℕ × ℕ). Within c.bound z (now, readings y)) (sym e) (Within-refl c.bound (now, readings y)))
        (λ (o : IsMember (time, reading) (w.instance y).pairs). FitsAll-IsMember c.bound (w.instance y).pairs (now, readings y) (time, reading) (fits y r) o)
        m)
        (λ y h time reading r. absurd (cc (h, ap has_clock r)));
    present = clock_cases (λ y i. i.phase ≡ Running → IsMember (now, i.reading) i.pairs) (λ y h r. inl refl) (λ y h r. absurd (cc (h, ap has_clock r)));
    slots = slots_unmoved inv w.starts time_passed;
    frames = frames_unmoved inv w.starts time_passed;
    single = single_unmoved inv w.starts time_passed;
    backed = backed_unmoved inv w.starts time_passed;
    flights = flights_unmoved inv w.starts time_passed;
    flown = λ e f number p i. let n = inv.flown e f number p i in let m = time_passed.next_flights e.who in omega arith;
    counted = λ y. let n = inv.counted y in let m = time_passed.next_flights y in omega arith;
    tokens = clock_cases (λ y i. (z : Freeze) → i.token.freeze ≡ Some z → SoundToken i.token z) (λ y h. inv.tokens y) (λ y h. inv.tokens y);
    freezes = freezes_unmoved inv w.starts time_passed;
  }
