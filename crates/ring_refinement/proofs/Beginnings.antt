-- Where a step begins: whether the ring has left, and whether it is below its fence.
use Rattle.std.proofs.Common.{◌≡◌, ℕ, zero, suc, ◌+◌, ◌<◌, min, Bool, true, false, [], ◌∷◌, Option, Some, None, refl, ap, arith}
use Rattle.std.proofs.lemmas.Bool.{leb-false, lt-leb, both_ways}
use Rattle.ring_points.specs.declared.who.Who.{Who}
use Rattle.fabric_terms.specs.declared.config.FabricConfig.{FabricConfig}
use Rattle.join_phases.specs.Phases.{is_left}
use Rattle.ring_rules.specs.declared.link.Link.{Link}
use Rattle.ring_rules.specs.Rings.{Ring, Slots}
use Rattle.ring_rules.specs.Slots as table
use Rattle.ring_rules.specs.Slots.{slot_at, sooner, fence_if, fence_of, is_past}
use Rattle.ring_rules.specs.Starts.{begun}
use Rattle.ring_machine.specs.Slots.{guards}
use Rattle.ring_machine.specs.World.{World, BelowFence}
use Rattle.ring_machine.specs.Events.{IsSound}
use Rattle.ring_machine.specs.Invariant.{Invariant}
use Rattle.ring_refinement.specs.Images.{machine_of, state_of}
use Rattle.ring_refinement.specs.Shown.{Shows, ShowsInstance}
use Rattle.ring_refinement.specs.Refined.{Beside, Refined}
use Rattle.ring_refinement.proofs.Changes.{open_shown, guards_shown}
use Rattle.ring_refinement.proofs.Going.{Going}
use Rattle.ring_refinement.proofs.Leaving.{Standing}
use Rattle.ring_machine.specs.Tokens.{Token}

-- below the least end, below each
below_sooner : (now time : ℕ) (rest : Option ℕ) → is_past now (sooner time rest) ≡ false → (now < time) × (is_past now rest ≡ false)
below_sooner now time None h = (leb-false time now h, refl)
below_sooner now time (Some other) h =
    let below : now < min time other = leb-false (min time other) now h in
    (omega arith, lt-leb other now (omega arith))

below_fence : (answer now : ℕ) (slots : Slots) → is_past now (fence_of answer slots) ≡ false → (i : ℕ) (l : Link) → slot_at i slots ≡ Some l → table.guards l.state ≡ true →
    now < l.until + answer
below_fence answer now [] h i l at guarding = absurd (cc (at))
below_fence answer now (None ∷ ss) h zero l at guarding = absurd (cc (at))
below_fence answer now (None ∷ ss) h (suc i) l at guarding = below_fence answer now ss h i l at guarding
below_fence answer now (Some k ∷ ss) h zero l at guarding = here (table.guards k.state) refl h
  where
    same : k ≡ l
    same = cc (at)

    here : (b : Bool) → table.guards k.state ≡ b → is_past now (fence_if b (k.until + answer) (fence_of answer ss)) ≡ false → now < l.until + answer
    here true e h = let below = (below_sooner now (k.until + answer) (fence_of answer ss) h).0 in let u = ap (λ (l : Link). l.until) same in omega arith
    here false e h = absurd (let g = ap (λ (l : Link). table.guards l.state) same in cc (e, g, guarding))
below_fence answer now (Some k ∷ ss) h (suc i) l at guarding =
    below_fence answer now ss (rest (table.guards k.state) h) i l at guarding
  where
    rest : (b : Bool) → is_past now (fence_if b (k.until + answer) (fence_of answer ss)) ≡ false → is_past now (fence_of answer ss) ≡ false
    rest true h = (below_sooner now (k.until + answer) (fence_of answer ss) h).1
    rest false h = h

-- a ring that has left does nothing
pub left_stays : (c : FabricConfig) (m : World) (x : Who) (r : Ring) → Invariant (machine_of c) m → Shows c m x r → is_left r.phase ≡ true → Refined c m x (begun r)
left_stays c m x r inv shows left = record {
  after = m;
  inv = inv;
  beside = stands m x;
  dies = λ y h. h;
  live = λ h. absurd (both_ways _ h left);
  shows = shows;
  sent = tt;
  moved = (refl, refl);
  over = tt;
}
  where
    stands : (m : World) (x : Who) → Beside m x m
    stands m x = record { time = refl; starts = refl; whole = refl; first_accuser = refl; first_claimer = refl; reading = refl; pairs = refl; others = λ y n. refl; sent = λ f h. h }

module _ {c : FabricConfig} {m : World} {x : Who} {r : Ring} (sound : IsSound (machine_of c)) (inv : Invariant (machine_of c) m) (shows : ShowsInstance c x m.sent (m.instance x) r) where
  pub stands_at_first : Standing c m x (begun r)
  stands_at_first = record {
    after = m;
    inv = inv;
    beside = record { time = refl; starts = refl; whole = refl; first_accuser = refl; first_claimer = refl; reading = refl; pairs = refl; others = λ y n. refl; sent = λ f h. h };
    dies = λ y h. h;
    shows = shows;
    sent = tt;
    moved = (ap (λ (t : Token). t.next_flight) shows.token, refl);
    over = tt;
  }

  -- below the fence that the ring sees, x is live
  below : (now : ℕ) → (m.instance x).reading ≡ now → is_past now (fence_of c.answer r.slots) ≡ false → BelowFence (machine_of c) (m.instance x)
  below now read past = open_shown shows.slots guards refl (λ s. (m.instance x).reading < s.until + c.answer) there
    where
      there : (i : ℕ) (l : Link) → slot_at i r.slots ≡ Some l → guards (state_of l.state) ≡ true → (m.instance x).reading < l.until + c.answer
      there i l at guarding =
          let soon : now < l.until + c.answer = below_fence c.answer now r.slots past i l at (guards_shown l.state guarding) in
          omega arith

  pub goes_at_first : (now : ℕ) → (m.instance x).reading ≡ now → is_left r.phase ≡ false → is_past now (fence_of c.answer r.slots) ≡ false → Going c m x now (begun r)
  goes_at_first now read stays past = record {
    after = m;
    inv = inv;
    live = record { running = shows.running; below = below now read past };
    beside = record { time = refl; starts = refl; whole = refl; first_accuser = refl; first_claimer = refl; reading = refl; pairs = refl; others = λ y n. refl; sent = λ f h. h };
    dies = λ y h. h;
    reading = read;
    stays = stays;
    shows = shows;
    sent = tt;
    moved = (ap (λ (t : Token). t.next_flight) shows.token, refl);
    over = tt;
  }
