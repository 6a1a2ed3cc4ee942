-- What one test of a slot's state says of another, and what a slot without content has.
use Rattle.std.proofs.Common.{◌≡◌, ℕ, zero, suc, Bool, true, false, not, ◌&&◌, ◌||◌, Option, Some, None, ◌⊎◌, refl, inl, inr, arith}
use Rattle.std.proofs.lemmas.Bool.{and_parts}
use Rattle.ring_machine.specs.Slots.{Slot, Flight, State, Unused, Asking, Offered, Bound, Parting, Accused, Discharged, Heir, Abandoned, Parted, Ended}
use Rattle.ring_machine.specs.Sessions.{TouchedBy, flew, heard, took, was_heard, Touched, Untouched}

abbrev used_states : (State → Bool) → Bool
used_states f = f Asking && (f Offered && (f Bound && (f Parting && (f Accused && (f Discharged && (f Heir && (f Abandoned && (f Parted && f Ended))))))))

abbrev all_states : (State → Bool) → Bool
all_states f = f Unused && used_states f

-- the test of each state, in turn
record Each (f : State → Bool) : Type 0 where
  asking : f Asking ≡ true
  offered : f Offered ≡ true
  bound : f Bound ≡ true
  parting : f Parting ≡ true
  accused : f Accused ≡ true
  discharged : f Discharged ≡ true
  heir : f Heir ≡ true
  abandoned : f Abandoned ≡ true
  parted : f Parted ≡ true
  ended : f Ended ≡ true

at_state : (f : State → Bool) → all_states f ≡ true → (s : State) → f s ≡ true
at_state f all s = go s (and_parts (f Unused) (used_states f) all)
  where
    each : used_states f ≡ true → Each f
    each h =
        let h1 = and_parts (f Asking) _ h in
        let h2 = and_parts (f Offered) _ h1.1 in
        let h3 = and_parts (f Bound) _ h2.1 in
        let h4 = and_parts (f Parting) _ h3.1 in
        let h5 = and_parts (f Accused) _ h4.1 in
        let h6 = and_parts (f Discharged) _ h5.1 in
        let h7 = and_parts (f Heir) _ h6.1 in
        let h8 = and_parts (f Abandoned) _ h7.1 in
        let h9 = and_parts (f Parted) _ h8.1 in
        record {
          asking = h1.0;
          offered = h2.0;
          bound = h3.0;
          parting = h4.0;
          accused = h5.0;
          discharged = h6.0;
          heir = h7.0;
          abandoned = h8.0;
          parted = h9.0;
          ended = h9.1;
        }

    go : (s : State) → (f Unused ≡ true) × (used_states f ≡ true) → f s ≡ true
    go Unused h = h.0
    go Asking h = (each h.1).asking
    go Offered h = (each h.1).offered
    go Bound h = (each h.1).bound
    go Parting h = (each h.1).parting
    go Accused h = (each h.1).accused
    go Discharged h = (each h.1).discharged
    go Heir h = (each h.1).heir
    go Abandoned h = (each h.1).abandoned
    go Parted h = (each h.1).parted
    go Ended h = (each h.1).ended

-- of every state, the first test implies the second
pub implied : (f g : State → Bool) → all_states (λ s. not (f s) || g s) ≡ true → (s : State) → f s ≡ true → g s ≡ true
implied f g all s h = go (f s) h (at_state (λ s. not (f s) || g s) all s)
  where
    go : (b : Bool) → b ≡ true → not b || g s ≡ true → g s ≡ true
    go true h k = k
    go false h k = absurd (cc (h))

-- of every state, the first test excludes the second
pub excluded : (f g : State → Bool) → all_states (λ s. not (f s) || not (g s)) ≡ true → (s : State) → f s ≡ true → g s ≡ true → ⊥
excluded f g all s h k = let n : not (g s) ≡ true = implied f (λ s. not (g s)) all s h in cc (k, n)

-- a slot is touched or has nothing
pub touch_cases : (s : Slot) → Touched s ⊎ Untouched s
touch_cases s = go s.flight s.held_version s.got s.acked refl refl refl refl
  where
    go : (flight : Option Flight) (held_version got acked : ℕ) → s.flight ≡ flight → s.held_version ≡ held_version → s.got ≡ got →
        s.acked ≡ acked → Touched s ⊎ Untouched s
    go (Some l) v g a x1 x2 x3 x4 = inl (flew l x1)
    go None (suc v) g a x1 x2 x3 x4 = inl (heard (omega arith))
    go None zero (suc g) a x1 x2 x3 x4 = inl (took (omega arith))
    go None zero zero (suc a) x1 x2 x3 x4 = inl (was_heard (omega arith))
    go None zero zero zero x1 x2 x3 x4 = inr (record { flight = x1; held_version = x2; got = x3; acked = x4 })

pub not_touched : (s : Slot) → Untouched s → Touched s → ⊥
not_touched s u (flew l e) = let n = u.flight in cc
not_touched s u (heard h) = let n = u.held_version in omega arith
not_touched s u (took h) = let n = u.got in omega arith
not_touched s u (was_heard h) = let n = u.acked in omega arith

-- a slot is no more touched than one that has its flight, or more, and its counters
pub touched_less : (s : Slot) → TouchedBy None s.held_version s.got s.acked → Touched s
touched_less s (flew l e) = absurd (cc (e))
touched_less s (heard h) = heard h
touched_less s (took h) = took h
touched_less s (was_heard h) = was_heard h
