-- Clocks that show the true time are within every bound.
use Rattle.std.proofs.Common.{arith, ◌≡◌, ◌≤◌, ◌+◌, ◌-◌, ◌*◌, ℕ, Bool, true, false, List, [], ◌∷◌, map, Option, Some, None, refl, ap, sym, subst, ◌∙◌, nat_lt, nat_le}
use Rattle.std.specs.Prelude.{◌==◌, ◌&&◌, unwrap_or, if◌then◌else◌}
use Rattle.std.proofs.lemmas.Bool.{eq-eqb}
use Rattle.std.proofs.lemmas.Bool.Decides.{nat_tests}
use Rattle.std.proofs.Math.Nat.{mul-le-mul_right}
use Rattle.drift_clock.specs.Within.{Pair, is_within, fits_all}
use Rattle.drift_clock.specs.declared.bound.Bound.{Bound}
use Rattle.fabric_terms.specs.declared.config.FabricConfig.{FabricConfig}
use Rattle.world_rules.specs.Events.{ticked}
use Rattle.fabric_lemmas.specs.Maps.{at, put, put_here}
use Rattle.world_rules.specs.Schedules.{are_of, fits_pairs, readings_fit}
use Rattle.world_rules.specs.Uppers.{Upper}
use Rattle.world_rules.specs.Worlds.{World, Running}

-- each pair's reading is its true time, none after t
abbrev pub EvenPairs : ℕ → List Pair → Type 0
EvenPairs t [] = Unit {0}
EvenPairs t (q ∷ qs) = (q.0 ≡ q.1) × (q.1 ≤ t) × EvenPairs t qs

pub record IsEven {a : Upper} (t : ℕ) (r : Running a) : Type 0 where
  pub reading : r.reading ≡ t
  pub pairs : EvenPairs t r.pairs

abbrev pub AllEven : {a : Upper} → ℕ → List (ℕ × Running a) → Type 0
AllEven t [] = Unit {0}
AllEven {a} t (r ∷ rs) = IsEven {a = a} t r.1 × AllEven {a = a} t rs

le_test : (x y : ℕ) → x ≤ y → nat_le x y ≡ true
le_test x y h = grind (arith, nat_tests)

all_true : (b c d e : Bool) → b ≡ true → c ≡ true → d ≡ true → e ≡ true → (b && c && d && e) ≡ true
all_true b c d e f g h i = rw (f, g, h, i) refl

-- a clock that shows the true time is within the bound
even_within : (bound : Bound) (q u : ℕ) → q ≤ u → is_within bound (q, q) (u, u) ≡ true
even_within bound q u h =
    let fast : 1000 * (u - q) ≤ (1000 + bound.d) * (u - q) = mul-le-mul_right (u - q) (omega arith) in
    let slow : (1000 - bound.d) * (u - q) ≤ 1000 * (u - q) = mul-le-mul_right (u - q) (omega arith) in
    all_true (nat_le q u) (nat_le q u) (nat_le (1000 * (u - q)) ((1000 + bound.d) * (u - q) + 1000 * bound.grain)) (nat_le ((1000 - bound.d) * (u - q)) (1000 * (u - q) + 1000 * bound.grain))
    (le_test q u h) (le_test q u h)
    (le_test (1000 * (u - q)) ((1000 + bound.d) * (u - q) + 1000 * bound.grain) (within (1000 * (u - q)) ((1000 + bound.d) * (u - q)) (1000 * bound.grain) fast))
    (le_test ((1000 - bound.d) * (u - q)) (1000 * (u - q) + 1000 * bound.grain) (within ((1000 - bound.d) * (u - q)) (1000 * (u - q)) (1000 * bound.grain) slow))
  where
    within : (x y z : ℕ) → x ≤ y → x ≤ y + z
    within x y z k = omega arith

pub even_fits : (bound : Bound) (pairs : List Pair) (t u : ℕ) → EvenPairs t pairs → t ≤ u → fits_all bound pairs (u, u) ≡ true
even_fits bound [] t u e h = refl
even_fits bound (q ∷ qs) t u e h =
    let same : q ≡ (q.1, q.1) = ap (λ (x : ℕ). (x, q.1)) e.0 in
    let here : is_within bound q (u, u) ≡ true = ap (λ (p : Pair). is_within bound p (u, u)) same ∙ even_within bound q.1 u (omega (arith, e.1, h)) in
    rw here (even_fits bound qs t u e.2 h)

even_later : (pairs : List Pair) (t u : ℕ) → EvenPairs t pairs → t ≤ u → EvenPairs u pairs
even_later [] t u e h = tt
even_later (q ∷ qs) t u e h = (e.0, omega (arith, e.1, h), even_later qs t u e.2 h)

-- Maps of running nodes.

pub even_at : {a : Upper} (t k : ℕ) (rs : List (ℕ × Running a)) (r : Running a) → AllEven {a = a} t rs → at k rs ≡ Some r → IsEven {a = a} t r
even_at {a} t k [] r e h = cc
even_at {a} t k (x ∷ xs) r e h = by_key (x.0 == k) h (λ f. even_at t k xs r e.1 f)
  where
    by_key : (b : Bool) → (if b then Some x.1 else at k xs) ≡ Some r → (at k xs ≡ Some r → IsEven {a = a} t r) → IsEven {a = a} t r
    by_key true f later = let same : x.1 ≡ r = cc in subst (λ (y : Running a). IsEven {a = a} t y) same e.0
    by_key false f later = later f

pub even_put : {a : Upper} (t k : ℕ) (rs : List (ℕ × Running a)) (r : Running a) → AllEven {a = a} t rs → IsEven {a = a} t r → AllEven {a = a} t (put k r rs)
even_put {a} t k [] r e h = (h, tt)
even_put {a} t k (x ∷ xs) r e h = by_keys (nat_lt k x.0) (k == x.0) (put k r xs) (even_put t k xs r e.1 h)
  where
    by_keys : (b c : Bool) (behind : List (ℕ × Running a)) → AllEven {a = a} t behind → AllEven {a = a} t (put_here k r x xs behind b c)
    by_keys true c behind later = (h, (e.0, e.1))
    by_keys false true behind later = (h, e.1)
    by_keys false false behind later = (e.0, later)

-- Ticks: each running node's clock shows the time.

-- whatever stands in these readings is u
abbrev pub AllShow : ℕ → List (ℕ × ℕ) → Type 0
AllShow u [] = Unit {0}
AllShow u (r ∷ rs) = (r.1 ≡ u) × AllShow u rs

-- each of these nodes has one of them
abbrev pub AllHave : {X : Type 0} → ℕ → List (ℕ × ℕ) → List (ℕ × X) → Type 0
AllHave u readings [] = Unit {0}
AllHave u readings (n ∷ ns) = (at n.0 readings ≡ Some u) × AllHave u readings ns

have_more : {X : Type 0} (u k : ℕ) (readings : List (ℕ × ℕ)) (ns : List (ℕ × X)) → AllHave u readings ns → AllHave u ((k, u) ∷ readings) ns
have_more u k readings [] h = tt
have_more u k readings (n ∷ ns) h = (by_key (k == n.0), have_more u k readings ns h.1)
  where
    by_key : (b : Bool) → (if b then Some u else at n.0 readings) ≡ Some u
    by_key true = refl
    by_key false = h.0

pub all_have : {X : Type 0} (u : ℕ) (ns : List (ℕ × X)) → AllHave u (map (λ n. (n.0, u)) ns) ns
all_have u [] = tt
all_have u (n ∷ ns) = (ap (λ (b : Bool). if b then Some u else at n.0 (map (λ m. (m.0, u)) ns)) (eq-eqb n.0 n.0 refl), have_more u n.0 (map (λ m. (m.0, u)) ns) ns (all_have u ns))

pub even_tick : {a : Upper} (t u : ℕ) (readings : List (ℕ × ℕ)) (rs : List (ℕ × Running a)) → t ≤ u → AllHave u readings rs → AllEven {a = a} t rs →
    AllEven {a = a} u (map (ticked {a = a} u readings) rs)
even_tick {a} t u readings [] h have e = tt
even_tick {a} t u readings (r ∷ rs) h have e =
    let shows_u : unwrap_or (at r.0 readings) r.1.reading ≡ u = ap (λ (o : Option ℕ). unwrap_or o r.1.reading) have.0 in
    (record { reading = shows_u; pairs = (sym shows_u, omega (arith, shows_u), even_later r.1.pairs t u e.0.pairs h) }, even_tick t u readings rs h have.1 e.1)

pub same_nodes : {X : Type 0} (u : ℕ) (ns : List (ℕ × X)) → are_of (map (λ n. (n.0, u)) ns) ns ≡ true
same_nodes {X} u [] = refl
same_nodes {X} u (n ∷ ns) = rw (eq-eqb n.0 n.0 refl) (same_nodes {X = X} u ns)

-- the readings are within the bound of every pair of each boot
pub fit_all : {a : Upper} (c : FabricConfig) (w : World a) (t u : ℕ) (readings : List (ℕ × ℕ)) → AllEven {a = a} t w.nodes → t ≤ u → AllShow u readings →
    readings_fit c w u readings ≡ true
fit_all {a} c w t u [] e h s = refl
fit_all {a} c w t u (r ∷ rs) e h s = rw (fits (at r.0 w.nodes) refl) (fit_all c w t u rs e h s.1)
  where
    fits : (o : Option (Running a)) → at r.0 w.nodes ≡ o → fits_pairs c u r.1 (at r.0 w.nodes) ≡ true
    fits None f = ap (fits_pairs {a = a} c u r.1) f
    fits (Some x) f = ap (fits_pairs {a = a} c u r.1) f ∙ ap (λ (v : ℕ). fits_pairs {a = a} c u v (Some x)) s.0
        ∙ even_fits c.bound x.pairs t u (even_at t r.0 w.nodes x e f).pairs h

pub all_show_u : {X : Type 0} (u : ℕ) (ns : List (ℕ × X)) → AllShow u (map (λ n. (n.0, u)) ns)
all_show_u u [] = tt
all_show_u u (n ∷ ns) = (refl, all_show_u u ns)
