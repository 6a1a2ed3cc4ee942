-- The running nodes of the code stand for those of the rules, place by place.
use Rattle.std.proofs.Common.{◌≡◌, ℕ, zero, suc, ◌<◌, Bool, true, false, cond, List, [], ◌∷◌, ◌++◌, Option, Some, None, refl, sym, ap, subst, ◌∙◌, arith, length, get_or, take, drop}
use Rattle.std.specs.Prelude.{◌==◌, nat_lt, map, slice_get, slice_set, insert, remove, option_map}
use Rattle.std.specs.List.{position, position_or_len}
use Rattle.std.proofs.lemmas.Bool.{eqb-true}
use Rattle.std.proofs.lemmas.Bool.Decides.{nat_tests}
use Rattle.std.proofs.lemmas.List.Quantifiers.{position-Some}
use Rattle.std.proofs.lemmas.List.Sums.{fails_before_first}
use Rattle.std.proofs.lemmas.Option.{slice_get-map, slice_get-get_or, slice_get_within, get_or_from_slice_get}
use Rattle.fabric_terms.specs.declared.config.FabricConfig.{FabricConfig}
use Rattle.ring_points.specs.declared.who.Who.{Who}
use Rattle.fabric_lemmas.specs.Maps.{at, rises}
use Rattle.unit_rules.specs.Fabric.{fabric}
use Rattle.world_rules.specs.Worlds.{World as RuledWorld, Running as RuledRunning}
use Rattle.ring_world.specs.Finds.{IsAt, IsPlaceOf}
use Rattle.ring_world.specs.Running.{RunsAs, AllRun}
use Rattle.ring_world.specs.Stands.{Stands}
use Rattle.ring_world.specs.declared.running.Running.{Running}
use Rattle.ring_world.specs.declared.world.World.{World}
use Rattle.ring_world.proofs.Maps.{is_at}

abbrev pub Ruled : Type 0
Ruled = ℕ × RuledRunning fabric

abbrev pub clock_of : Ruled → Who × ℕ
clock_of e = (e.1.node.ring.me, e.1.reading)

pub run-length : (c : FabricConfig) (t : ℕ) (rs : List Running) (es : List Ruled) → AllRun c t rs es → length rs ≡ length es
run-length c t [] [] h = refl
run-length c t [] (e ∷ es) h = absurd h
run-length c t (r ∷ rs) [] h = absurd h
run-length c t (r ∷ rs) (e ∷ es) h = ap suc (run-length c t rs es h.1)

-- the node of the code at the place of one of the rules
pub record RunsAt (c : FabricConfig) (t : ℕ) (rs : List Running) (i : ℕ) (e : Ruled) : Type 0 where
  pub node : Running
  pub here : slice_get rs i ≡ Some node
  pub runs : RunsAs c t node e

pub run_at : (c : FabricConfig) (t : ℕ) (rs : List Running) (es : List Ruled) (i : ℕ) (e : Ruled) → AllRun c t rs es → slice_get es i ≡ Some e → RunsAt c t rs i e
run_at c t [] [] i e h g = absurd (cc)
run_at c t [] (q ∷ es) i e h g = absurd h
run_at c t (r ∷ rs) [] i e h g = absurd h
run_at c t (r ∷ rs) (q ∷ es) zero e h g = record { node = r; here = refl; runs = let same : q ≡ e = cc in subst (λ (x : Ruled). RunsAs c t r x) same h.0 }
run_at c t (r ∷ rs) (q ∷ es) (suc i) e h g =
    let more = run_at c t rs es i e h.1 g in
    record { node = more.node; here = more.here; runs = more.runs }

pub run_set : (c : FabricConfig) (t : ℕ) (rs : List Running) (es : List Ruled) (i : ℕ) (r : Running) (e : Ruled) → AllRun c t rs es → RunsAs c t r e → AllRun c t (slice_set rs i r) (slice_set es i e)
run_set c t [] [] i r e h one = tt
run_set c t [] (q ∷ es) i r e h one = absurd h
run_set c t (p ∷ rs) [] i r e h one = absurd h
run_set c t (p ∷ rs) (q ∷ es) zero r e h one = (one, h.1)
run_set c t (p ∷ rs) (q ∷ es) (suc i) r e h one = (h.0, run_set c t rs es i r e h.1 one)

pub run_both : (c : FabricConfig) (t : ℕ) (rs qs : List Running) (es fs : List Ruled) → AllRun c t rs es → AllRun c t qs fs → AllRun c t (rs ++ qs) (es ++ fs)
run_both c t [] qs [] fs h k = k
run_both c t [] qs (e ∷ es) fs h k = absurd h
run_both c t (r ∷ rs) qs [] fs h k = absurd h
run_both c t (r ∷ rs) qs (e ∷ es) fs h k = (h.0, run_both c t rs qs es fs h.1 k)

pub run_take : (c : FabricConfig) (t i : ℕ) (rs : List Running) (es : List Ruled) → AllRun c t rs es → AllRun c t (take i rs) (take i es)
run_take c t zero rs es h = tt
run_take c t (suc i) [] [] h = tt
run_take c t (suc i) [] (e ∷ es) h = absurd h
run_take c t (suc i) (r ∷ rs) [] h = absurd h
run_take c t (suc i) (r ∷ rs) (e ∷ es) h = (h.0, run_take c t i rs es h.1)

pub run_drop : (c : FabricConfig) (t i : ℕ) (rs : List Running) (es : List Ruled) → AllRun c t rs es → AllRun c t (drop i rs) (drop i es)
run_drop c t zero rs es h = h
run_drop c t (suc i) [] [] h = tt
run_drop c t (suc i) [] (e ∷ es) h = absurd h
run_drop c t (suc i) (r ∷ rs) [] h = absurd h
run_drop c t (suc i) (r ∷ rs) (e ∷ es) h = run_drop c t i rs es h.1

pub run_insert : (c : FabricConfig) (t i : ℕ) (rs : List Running) (es : List Ruled) (r : Running) (e : Ruled) → AllRun c t rs es → RunsAs c t r e → AllRun c t (insert rs i r) (insert es i e)
run_insert c t i rs es r e h one = run_both c t (take i rs) (r ∷ drop i rs) (take i es) (e ∷ drop i es) (run_take c t i rs es h) (one, run_drop c t i rs es h)

pub run_remove : (c : FabricConfig) (t i : ℕ) (rs : List Running) (es : List Ruled) → AllRun c t rs es → AllRun c t (remove rs i) (remove es i)
run_remove c t i rs es h = run_both c t (take i rs) (drop (suc i) rs) (take i es) (drop (suc i) es) (run_take c t i rs es h) (run_drop c t (suc i) rs es h)

-- each node of the rules has its number in its name
abbrev pub AreNumbered : List Ruled → Type 0
AreNumbered es = (i : ℕ) (e : Ruled) → slice_get es i ≡ Some e → e.1.node.ring.me.actor ≡ e.0

pub run_numbered : (c : FabricConfig) (t : ℕ) (rs : List Running) (es : List Ruled) → AllRun c t rs es → AreNumbered es
run_numbered c t rs es h i e g = (run_at c t rs es i e h g).runs.number

-- none is at a number that none has
none_at : {X : Type 0} (k : ℕ) (es : List (ℕ × X)) → ((i : ℕ) (e : ℕ × X) → slice_get es i ≡ Some e → (e.0 == k) ≡ false) → at k es ≡ None
none_at k [] h = refl
none_at k (e ∷ es) h = rw (h 0 e refl) (none_at k es (λ i q g. h (suc i) q g))

abbrev is_of : ℕ → Who × ℕ → Bool
is_of k clock = clock.0.actor == k

some_if : (n m : ℕ) (b : Bool) → cond b (Some n) None ≡ Some m → n ≡ m
some_if n m true e = cc
some_if n m false e = absurd (cc)

none_if : (n : ℕ) (b : Bool) → cond b (Some n) None ≡ None → b ≡ false
none_if n true e = absurd (cc)
none_if n false e = refl

-- the first clock of a node is at its place
pub found : (k : ℕ) (es : List Ruled) (o : Option ℕ) → rises es ≡ true → AreNumbered es → o ≡ position (is_of k) (map clock_of es) → IsPlaceOf k es o
found k es None h named e =
    let p : Who × ℕ → Bool = is_of k in
    let far = none_if (position_or_len p (map clock_of es)) (nat_lt (position_or_len p (map clock_of es)) (length (map clock_of es))) (sym e) in
    none_at k es (λ i q g.
    let there : slice_get (map clock_of es) i ≡ Some (clock_of q) = slice_get-map clock_of es i ∙ ap (λ o. option_map clock_of o) g in
    let within = slice_get_within (map clock_of es) i (clock_of q) there in
    let lt : i < position_or_len p (map clock_of es) = grind (arith, nat_tests) in
    let fails = fails_before_first p (map clock_of es) i (clock_of q) lt in
    let is : get_or (map clock_of es) i (clock_of q) ≡ clock_of q = get_or_from_slice_get (map clock_of es) i (clock_of q) (clock_of q) there in
    let here : (q.1.node.ring.me.actor == k) ≡ false = ap p (sym is) ∙ fails in
    ap (λ n. n == k) (sym (named i q g)) ∙ here)
found k es (Some i) h named e = by_value (slice_get es i) refl
  where
    nobody : Who × ℕ
    nobody = (record { actor = 0; instance = 0 }, 0)

    at_clock : slice_get (map clock_of es) i ≡ Some (get_or (map clock_of es) i nobody)
    at_clock = slice_get-get_or (map clock_of es) i nobody (position-Some (is_of k) (map clock_of es) i nobody (sym e)).0

    by_value : (o : Option Ruled) → slice_get es i ≡ o → IsAt k i es
    by_value None g =
        let none : slice_get (map clock_of es) i ≡ None = slice_get-map clock_of es i ∙ ap (λ o. option_map clock_of o) g in
        absurd (cc (none, at_clock))
    by_value (Some q) g =
        let there : slice_get (map clock_of es) i ≡ Some (clock_of q) = slice_get-map clock_of es i ∙ ap (λ o. option_map clock_of o) g in
        let is : get_or (map clock_of es) i nobody ≡ clock_of q = get_or_from_slice_get (map clock_of es) i (clock_of q) nobody there in
        let passes : is_of k (get_or (map clock_of es) i nobody) ≡ true = (position-Some (is_of k) (map clock_of es) i nobody (sym e)).1 in
        let here : (q.1.node.ring.me.actor == k) ≡ true = ap (is_of k) (sym is) ∙ passes in
        let number : q.0 ≡ k = sym (named i q g) ∙ eqb-true q.1.node.ring.me.actor k here in
        let same : q ≡ (k, q.1) = ap (λ n. (n, q.1)) number in
        is_at es i k q.1 h (g ∙ ap (λ x. Some x) same)

pub place_found : (a : World) (w : RuledWorld fabric) (k : ℕ) (o : Option ℕ) → Stands a w → o ≡ position (is_of k) a.clocks.items → IsPlaceOf k w.nodes o
place_found a w k o s e =
    found k w.nodes o s.nodes.rise (run_numbered a.config a.time a.running.items w.nodes s.nodes.running) (e ∙ ap (position (is_of k)) s.nodes.clocks)
