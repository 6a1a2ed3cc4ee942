-- A tick, reading by reading.
use Rattle.std.proofs.Common.{◌≡◌, ℕ, zero, suc, ◌+◌, ◌≤◌, ◌<◌, Bool, true, false, List, [], ◌∷◌, Some, None, refl, sym, ap, subst, ◌∙◌, arith, length, get_or, drop, add-one, drop-cons}
use Rattle.std.specs.Prelude.{◌==◌, ◌&&◌, map, slice_get}
use Rattle.std.proofs.lemmas.Bool.{and_parts, eqb-true}
use Rattle.std.proofs.lemmas.List.{drop_all}
use Rattle.drift_clock.proofs.Decided.{fits_decided}
use Rattle.drift_clock.proofs.Named.{named}
use Rattle.drift_clock.specs.Extremes.{Extremes, Stands as DriftStands}
use Rattle.drift_clock.specs.Refusals.{broken_with}
use Rattle.drift_clock.specs.Within.{Pair, FitsAll, fits_all}
use Rattle.drift_clock.specs.declared.bound.Bound.{Bound}
use Rattle.drift_clock.specs.declared.drift.DriftBroken.{DriftBroken}
use Rattle.drift_clock.proofs.Kept.{latest_is}
use Rattle.fabric_terms.specs.declared.config.FabricConfig.{FabricConfig}
use Rattle.ring_points.specs.declared.who.Who.{Who}
use Rattle.fabric_lemmas.specs.Maps.{at}
use Rattle.unit_rules.specs.Fabric.{fabric}
use Rattle.world_rules.specs.Schedules.{are_of, fits_pairs, readings_fit}
use Rattle.world_rules.specs.Worlds.{World as RuledWorld, Running as RuledRunning}
use Rattle.ring_world.specs.Drifts.{broken_of, first_broken, shown_by}
use Rattle.ring_world.specs.Running.{RunsAs}
use Rattle.ring_world.specs.Ticks.{are_of_clocks}
use Rattle.ring_world.specs.Stands.{Stands}
use Rattle.ring_world.specs.declared.running.Running.{Running}
use Rattle.ring_world.specs.declared.world.World.{World}
use Rattle.ring_world.proofs.NodePlaces.{read_at}
use Rattle.ring_world.proofs.Maps.{at_place, equal, unequal}
use Rattle.ring_world.proofs.Nodes.{Ruled, RunsAt, clock_of, run_at, run-length}

-- the test on clocks, place by place

pub of_length : (rs : List (ℕ × ℕ)) (ks : List (Who × ℕ)) → are_of_clocks rs ks ≡ true → length rs ≡ length ks
of_length [] [] e = refl
of_length [] (k ∷ ks) e = absurd (cc)
of_length (r ∷ rs) [] e = absurd (cc)
of_length (r ∷ rs) (k ∷ ks) e = ap suc (of_length rs ks (and_parts (r.0 == k.0.actor) (are_of_clocks rs ks) e).1)

pub of_differ : (rs : List (ℕ × ℕ)) (ks : List (Who × ℕ)) → (length rs ≡ length ks → ⊥) → are_of_clocks rs ks ≡ false
of_differ rs ks h = by_value (are_of_clocks rs ks) refl
  where
    by_value : (b : Bool) → are_of_clocks rs ks ≡ b → b ≡ false
    by_value true e = absurd (h (of_length rs ks e))
    by_value false e = refl

pub of_next : (rs : List (ℕ × ℕ)) (ks : List (Who × ℕ)) (i : ℕ) (r : ℕ × ℕ) (k : Who × ℕ) → i < length rs → i < length ks
    → are_of_clocks (drop i rs) (drop i ks) ≡ ((get_or rs i r).0 == (get_or ks i k).0.actor && are_of_clocks (drop (i + 1) rs) (drop (i + 1) ks))
of_next rs ks i r k h g = rw (drop-cons rs i r, drop-cons ks i k, add-one) refl

pub of_end : (rs : List (ℕ × ℕ)) (ks : List (Who × ℕ)) (i : ℕ) → length rs ≤ i → length ks ≤ i → are_of_clocks (drop i rs) (drop i ks) ≡ true
of_end rs ks i h g = rw (drop_all i rs h, drop_all i ks g) refl

-- and on the nodes of the rules
pub of_nodes : (rs : List (ℕ × ℕ)) (es : List Ruled) → ((i : ℕ) (e : Ruled) → slice_get es i ≡ Some e → e.1.node.ring.me.actor ≡ e.0) → are_of_clocks rs (map clock_of es) ≡ are_of rs es
of_nodes [] [] h = refl
of_nodes [] (e ∷ es) h = refl
of_nodes (r ∷ rs) [] h = refl
of_nodes (r ∷ rs) (e ∷ es) h = ap (λ n. r.0 == n && are_of_clocks rs (map clock_of es)) (h 0 e refl) ∙ ap (λ b. r.0 == e.0 && b) (of_nodes rs es (λ i q g. h (suc i) q g))

pub of-length : (rs : List (ℕ × ℕ)) (es : List Ruled) → are_of rs es ≡ true → length rs ≡ length es
of-length [] [] e = refl
of-length [] (q ∷ es) e = absurd (cc)
of-length (r ∷ rs) [] e = absurd (cc)
of-length (r ∷ rs) (q ∷ es) e = ap suc (of-length rs es (and_parts (r.0 == q.0) (are_of rs es) e).1)

-- the node of the rules of a reading
pub record IsOf (es : List Ruled) (i : ℕ) (r : ℕ × ℕ) : Type 0 where
  pub entry : Ruled
  pub here : slice_get es i ≡ Some entry
  pub number : r.0 ≡ entry.0

pub is_of : (rs : List (ℕ × ℕ)) (es : List Ruled) (i : ℕ) (r : ℕ × ℕ) → are_of rs es ≡ true → i < length rs → IsOf es i (get_or rs i r)
is_of [] es i r e lt = absurd (omega arith)
is_of (q ∷ rs) [] i r e lt = absurd (cc)
is_of (q ∷ rs) (x ∷ es) zero r e lt = record { entry = x; here = refl; number = eqb-true q.0 x.0 (and_parts (q.0 == x.0) (are_of rs es) e).0 }
is_of (q ∷ rs) (x ∷ es) (suc i) r e lt =
    let more = is_of rs es i r (and_parts (q.0 == x.0) (are_of rs es) e).1 (omega arith) in
    record { entry = more.entry; here = more.here; number = more.number }

-- a reading is refused as the rules say

accepted : (b : Bound) (pairs : List Pair) (now : Pair) → FitsAll b pairs now → fits_all b pairs now ≡ true
accepted b pairs now h = (fits_decided b pairs now).1 h

refused : (b : Bound) (pairs : List Pair) (now : Pair) → (FitsAll b pairs now → ⊥) → fits_all b pairs now ≡ false
refused b pairs now h = by_value (fits_all b pairs now) refl
  where
    by_value : (v : Bool) → fits_all b pairs now ≡ v → v ≡ false
    by_value true e = absurd (h ((fits_decided b pairs now).0 e))
    by_value false e = refl

none_broken : (k : Extremes) (pairs : List Pair) (now : Pair) → DriftStands k pairs → k.latest.0 ≤ now.0 → FitsAll k.bound pairs now → broken_with k.bound pairs now ≡ None
none_broken k [] now s le fits = refl
none_broken k (p ∷ ps) now s le fits =
    let latest = latest_is k p ps s in
    let order : p.0 ≤ now.0 = subst (λ (q : Pair). q.0 ≤ now.0) latest le in
    (named k.bound p ps now s.within order).0.1 fits

module _ (c : FabricConfig) (w : RuledWorld fabric) (t : ℕ) (rs : List (ℕ × ℕ)) (i : ℕ) (r : ℕ × ℕ) (lt : i < length rs) where
  abbrev reading : ℕ × ℕ
  reading = get_or rs i r

  broken_next : first_broken c w t (drop i rs) ≡ broken_of c (t, reading.1) (at reading.0 w.nodes) (first_broken c w t (drop (i + 1) rs))
  broken_next = rw (drop-cons rs i r, add-one) refl

  fit_next : readings_fit c w t (drop i rs) ≡ (fits_pairs c t reading.1 (at reading.0 w.nodes) && readings_fit c w t (drop (i + 1) rs))
  fit_next = rw (drop-cons rs i r, add-one) refl

  module _ (s : RuledRunning fabric) (here : at reading.0 w.nodes ≡ Some s) where
    pub broken_on : broken_with c.bound s.pairs (t, reading.1) ≡ None → first_broken c w t (drop (i + 1) rs) ≡ first_broken c w t (drop i rs)
    broken_on none =
        sym (broken_next
        ∙ (ap (λ o. broken_of c (t, reading.1) o (first_broken c w t (drop (i + 1) rs))) here
        ∙ ap (λ o. shown_by (t, reading.1) o (first_broken c w t (drop (i + 1) rs))) none))

    pub fit_on : fits_all c.bound s.pairs (t, reading.1) ≡ true → readings_fit c w t (drop (i + 1) rs) ≡ readings_fit c w t (drop i rs)
    fit_on fits =
        sym (fit_next
        ∙ (ap (λ o. fits_pairs c t reading.1 o && readings_fit c w t (drop (i + 1) rs)) here
        ∙ ap (λ b. b && readings_fit c w t (drop (i + 1) rs)) fits))

    pub broken_here : (earlier : Pair) → broken_with c.bound s.pairs (t, reading.1) ≡ Some earlier → first_broken c w t (drop i rs) ≡ Some (record { earlier = earlier; now = (t, reading.1) })
    broken_here earlier some =
        broken_next
        ∙ (ap (λ o. broken_of c (t, reading.1) o (first_broken c w t (drop (i + 1) rs))) here
        ∙ ap (λ o. shown_by (t, reading.1) o (first_broken c w t (drop (i + 1) rs))) some)

    pub fit_here : fits_all c.bound s.pairs (t, reading.1) ≡ false → readings_fit c w t (drop i rs) ≡ false
    fit_here fits =
        fit_next
        ∙ (ap (λ o. fits_pairs c t reading.1 o && readings_fit c w t (drop (i + 1) rs)) here
        ∙ ap (λ b. b && readings_fit c w t (drop (i + 1) rs)) fits)

    pub fits_when : readings_fit c w t (drop i rs) ≡ true → fits_all c.bound s.pairs (t, reading.1) ≡ true
    fits_when h =
        let e : (fits_all c.bound s.pairs (t, reading.1) && readings_fit c w t (drop (i + 1) rs)) ≡ true =
        sym (fit_next ∙ ap (λ o. fits_pairs c t reading.1 o && readings_fit c w t (drop (i + 1) rs)) here) ∙ h in
        (and_parts (fits_all c.bound s.pairs (t, reading.1)) (readings_fit c w t (drop (i + 1) rs)) e).0

-- the end of the readings
pub broken_end : (c : FabricConfig) (w : RuledWorld fabric) (t : ℕ) (rs : List (ℕ × ℕ)) (i : ℕ) → length rs ≤ i → (first_broken c w t (drop i rs) ≡ None) × (readings_fit c w t (drop i rs) ≡ true)
broken_end c w t rs i h = (rw (drop_all i rs h) refl, rw (drop_all i rs h) refl)

-- the node of a reading, in the rules and in the code
pub record IsClock (a : World) (w : RuledWorld fabric) (reading : ℕ × ℕ) (r : Running) : Type 0 where
  pub entry : Ruled
  pub here : at reading.0 w.nodes ≡ Some entry.1
  pub runs : RunsAs a.config a.time r entry

module _ (a : World) (w : RuledWorld fabric) (rs : List (ℕ × ℕ)) (i : ℕ) (st : Stands a w) (of : are_of rs w.nodes ≡ true) (lt : i < length rs) where
  pub clock_within : i < length a.running.items
  clock_within =
      let n = of-length rs w.nodes of in
      let m = run-length a.config a.time a.running.items w.nodes st.nodes.running in
      omega arith

  pub clock_at : (d : ℕ × ℕ) (r : Running) → r ≡ get_or a.running.items i r → IsClock a w (get_or rs i d) r
  clock_at d r read =
      let e : IsOf w.nodes i (get_or rs i d) = is_of rs w.nodes i d of lt in
      let n : RunsAt a.config a.time a.running.items i e.entry = run_at a.config a.time a.running.items w.nodes i e.entry st.nodes.running e.here in
      let is : r ≡ n.node = read_at a.running.items i n.node r n.here read in
      record {
        entry = e.entry;
        here = ap (λ k. at k w.nodes) e.number ∙ at_place 0 w.nodes i e.entry.0 e.entry.1 st.nodes.rise e.here;
        runs = subst (λ (q : Running). RunsAs a.config a.time q e.entry) (sym is) n.runs;
      }

-- what the clock of the code says of a reading, the rules say
module _ (a : World) (w : RuledWorld fabric) (t : ℕ) (rs : List (ℕ × ℕ)) (i : ℕ) (d : ℕ × ℕ) (r : Running) (lt : i < length rs) (later : a.time ≤ t) (k : IsClock a w (get_or rs i d) r) where
  abbrev pub now : Pair
  now = (t, (get_or rs i d).1)

  pub clock_fits : FitsAll r.drift.bound k.entry.1.pairs now
      → (first_broken a.config w t (drop (i + 1) rs) ≡ first_broken a.config w t (drop i rs)) × (readings_fit a.config w t (drop (i + 1) rs) ≡ readings_fit a.config w t (drop i rs))
  clock_fits fits =
      let order : r.drift.latest.0 ≤ t = omega (arith, k.runs.latest) in
      let none : broken_with a.config.bound k.entry.1.pairs now ≡ None =
      subst (λ (b : Bound). broken_with b k.entry.1.pairs now ≡ None) k.runs.bound (none_broken r.drift k.entry.1.pairs now k.runs.drift order fits) in
      let fit : fits_all a.config.bound k.entry.1.pairs now ≡ true =
      subst (λ (b : Bound). fits_all b k.entry.1.pairs now ≡ true) k.runs.bound (accepted r.drift.bound k.entry.1.pairs now fits) in
      (broken_on a.config w t rs i d lt k.entry.1 k.here none, fit_on a.config w t rs i d lt k.entry.1 k.here fit)

  pub clock_breaks : (broken : DriftBroken) → broken_with r.drift.bound k.entry.1.pairs now ≡ Some broken.earlier → broken.now ≡ now → Some broken ≡ first_broken a.config w t (drop i rs)
  clock_breaks broken earlier is =
      let some : broken_with a.config.bound k.entry.1.pairs now ≡ Some broken.earlier =
      subst (λ (b : Bound). broken_with b k.entry.1.pairs now ≡ Some broken.earlier) k.runs.bound earlier in
      ap (λ (p : Pair). Some (pair_broken broken.earlier p)) is ∙ sym (broken_here a.config w t rs i d lt k.entry.1 k.here broken.earlier some)
    where
      pair_broken : Pair → Pair → DriftBroken
      pair_broken p q = record { earlier = p; now = q }

  pub clock_unfit : (FitsAll r.drift.bound k.entry.1.pairs now → ⊥) → readings_fit a.config w t (drop i rs) ≡ false
  clock_unfit none =
      let unfit : fits_all a.config.bound k.entry.1.pairs now ≡ false =
      subst (λ (b : Bound). fits_all b k.entry.1.pairs now ≡ false) k.runs.bound (refused r.drift.bound k.entry.1.pairs now none) in
      fit_here a.config w t rs i d lt k.entry.1 k.here unfit

-- one more place of the test

pub of_stop : (rs : List (ℕ × ℕ)) (ks : List (Who × ℕ)) (i : ℕ) (r : ℕ × ℕ) (k : Who × ℕ) → i < length rs → i < length ks → ((get_or rs i r).0 ≡ (get_or ks i k).0.actor → ⊥)
    → are_of_clocks (drop i rs) (drop i ks) ≡ false
of_stop rs ks i r k h g ne = of_next rs ks i r k h g ∙ ap (λ b. b && are_of_clocks (drop (i + 1) rs) (drop (i + 1) ks)) (unequal (get_or rs i r).0 (get_or ks i k).0.actor ne)

pub of_go : (rs : List (ℕ × ℕ)) (ks : List (Who × ℕ)) (i : ℕ) (r : ℕ × ℕ) (k : Who × ℕ) → i < length rs → i < length ks → (get_or rs i r).0 ≡ (get_or ks i k).0.actor
    → are_of_clocks (drop (i + 1) rs) (drop (i + 1) ks) ≡ are_of_clocks (drop i rs) (drop i ks)
of_go rs ks i r k h g e =
    let test : ((get_or rs i r).0 == (get_or ks i k).0.actor) ≡ true = ap (λ n. (get_or rs i r).0 == n) (sym e) ∙ equal (get_or rs i r).0 in
    sym (of_next rs ks i r k h g ∙ ap (λ b. b && are_of_clocks (drop (i + 1) rs) (drop (i + 1) ks)) test)
