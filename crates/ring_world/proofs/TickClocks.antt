-- Clocks that show their readings, one after the other.
use Rattle.std.proofs.Common.{◌≡◌, ℕ, zero, suc, ◌+◌, ◌≤◌, ◌<◌, true, List, [], ◌∷◌, Some, refl, sym, ap, subst, ◌∙◌, arith, length, get_or, add-one}
use Rattle.std.specs.Prelude.{◌==◌, ◌&&◌, nat_le, map, slice_get, slice_set, option_map, unwrap_or, Vec}
use Rattle.std.proofs.lemmas.Bool.{and_parts, eqb-true}
use Rattle.std.proofs.lemmas.Option.{slice_get-get_or, slice_get-map, slice_get_within}
use Rattle.std.specs.declared.alloc.Global.{Global}
use Rattle.drift_clock.specs.Extremes.{Extremes, Stands as DriftStands}
use Rattle.drift_clock.specs.Within.{Pair, FitsAll, fits_all}
use Rattle.drift_clock.specs.declared.bound.Bound.{Bound}
use Rattle.drift_clock.proofs.Decided.{fits_decided}
use Rattle.fabric_terms.specs.declared.config.FabricConfig.{FabricConfig}
use Rattle.ring_points.specs.declared.who.Who.{Who}
use Rattle.world_rules.specs.Events.{shows, ticked}
use Rattle.fabric_lemmas.specs.Maps.{at, rises_from}
use Rattle.unit_rules.specs.Fabric.{fabric}
use Rattle.world_rules.specs.Schedules.{are_of, fits_pairs, readings_fit}
use Rattle.world_rules.specs.Worlds.{World as RuledWorld}
use Rattle.world_rules.specs.EventLimits.{most_time}
use Rattle.ring_world.specs.Running.{AllRun, RunsAs}
use Rattle.ring_world.specs.Stands.{Stands}
use Rattle.ring_world.specs.Ticks.{Shows, after_tick}
use Rattle.ring_world.specs.declared.running.Running.{Running}
use Rattle.ring_world.specs.declared.world.World.{World}
use Rattle.ring_world.proofs.NodePlaces.{read_at}
use Rattle.ring_world.proofs.Edits.{map-set}
use Rattle.ring_world.proofs.Maps.{at_place}
use Rattle.ring_world.proofs.Nodes.{Ruled, RunsAt, clock_of, run_at, run_set}
use Rattle.ring_world.proofs.TickReadings.{IsOf, is_of, of-length}

-- the running nodes, of which the first so many show their readings
abbrev pub so_far : ℕ → List (ℕ × ℕ) → ℕ → List Ruled → List Ruled
so_far t rs zero es = es
so_far t rs (suc n) [] = []
so_far t rs (suc n) (e ∷ es) = ticked {a = fabric} t rs e ∷ so_far t rs n es

-- the code has as many clocks that show them
pub record ShowsSoFar (c : FabricConfig) (t : ℕ) (nodes : List Running) (clocks : List (Who × ℕ)) (rs : List (ℕ × ℕ)) (n : ℕ) (es : List Ruled) : Type 0 where
  pub running : AllRun c t nodes (so_far t rs n es)
  pub clocks_are : clocks ≡ map clock_of (so_far t rs n es)

so_far-length : (t : ℕ) (rs : List (ℕ × ℕ)) (n : ℕ) (es : List Ruled) → length (so_far t rs n es) ≡ length es
so_far-length t rs zero es = refl
so_far-length t rs (suc n) [] = refl
so_far-length t rs (suc n) (e ∷ es) = ap suc (so_far-length t rs n es)

-- the next one is as it was
so_far-next : (t : ℕ) (rs : List (ℕ × ℕ)) (n : ℕ) (es : List Ruled) → slice_get (so_far t rs n es) n ≡ slice_get es n
so_far-next t rs zero es = refl
so_far-next t rs (suc n) [] = refl
so_far-next t rs (suc n) (e ∷ es) = so_far-next t rs n es

so_far-more : (t : ℕ) (rs : List (ℕ × ℕ)) (n : ℕ) (es : List Ruled) (e : Ruled) → slice_get es n ≡ Some e → slice_set (so_far t rs n es) n (ticked {a = fabric} t rs e) ≡ so_far t rs (suc n) es
so_far-more t rs n [] e g = absurd (cc)
so_far-more t rs zero (q ∷ es) e g = let same : e ≡ q = cc in ap (λ (x : Ruled). ticked {a = fabric} t rs x ∷ es) same
so_far-more t rs (suc n) (q ∷ es) e g = ap (λ r. ticked {a = fabric} t rs q ∷ r) (so_far-more t rs n es e g)

so_far-all : (t : ℕ) (rs : List (ℕ × ℕ)) (n : ℕ) (es : List Ruled) → length es ≤ n → so_far t rs n es ≡ after_tick t rs es
so_far-all t rs zero [] h = refl
so_far-all t rs (suc n) [] h = refl
so_far-all t rs zero (e ∷ es) h = absurd (omega arith)
so_far-all t rs (suc n) (e ∷ es) h = ap (λ r. ticked {a = fabric} t rs e ∷ r) (so_far-all t rs n es (omega arith))

-- the readings rise as the nodes do
rise_as : (low : ℕ) (rs : List (ℕ × ℕ)) (es : List Ruled) → are_of rs es ≡ true → rises_from low es ≡ true → rises_from low rs ≡ true
rise_as low [] es of h = refl
rise_as low (r ∷ rs) [] of h = absurd (cc)
rise_as low (r ∷ rs) (e ∷ es) of h =
    let parts = and_parts (r.0 == e.0) (are_of rs es) of in
    let same : r.0 ≡ e.0 = eqb-true r.0 e.0 parts.0 in
    let rise = and_parts (nat_le low e.0) (rises_from (e.0 + 1) es) h in
    let rest = rise_as (e.0 + 1) rs es parts.1 rise.1 in
    ap (λ k. nat_le low k && rises_from (k + 1) rs) same ∙ (ap (λ b. b && rises_from (e.0 + 1) rs) rise.0 ∙ rest)

-- each reading fits where all do
fits_at : (c : FabricConfig) (w : RuledWorld fabric) (t : ℕ) (rs : List (ℕ × ℕ)) (i : ℕ) (d : ℕ × ℕ) → readings_fit c w t rs ≡ true → i < length rs
    → fits_pairs c t (get_or rs i d).1 (at (get_or rs i d).0 w.nodes) ≡ true
fits_at c w t [] i d h lt = absurd (omega arith)
fits_at c w t (r ∷ rs) zero d h lt = (and_parts (fits_pairs c t r.1 (at r.0 w.nodes)) (readings_fit c w t rs) h).0
fits_at c w t (r ∷ rs) (suc i) d h lt = fits_at c w t rs i d (and_parts (fits_pairs c t r.1 (at r.0 w.nodes)) (readings_fit c w t rs) h).1 (omega arith)

-- a node that stands at a time stands at a later one
run_later : (c : FabricConfig) (t u : ℕ) (rs : List Running) (es : List Ruled) → t ≤ u → AllRun c t rs es → AllRun c u rs es
run_later c t u [] [] le h = tt
run_later c t u [] (e ∷ es) le h = absurd h
run_later c t u (r ∷ rs) [] le h = absurd h
run_later c t u (r ∷ rs) (e ∷ es) le h = (
  record {
    number = h.0.number;
    in_range = h.0.in_range;
    node = h.0.node;
    goes_by = h.0.goes_by;
    drift = h.0.drift;
    bound = h.0.bound;
    latest = omega (arith, h.0.latest);
    reading = h.0.reading;
  },
  run_later c t u rs es le h.1,
)

pub none_shown : (a : World) (w : RuledWorld fabric) (t : ℕ) (rs : List (ℕ × ℕ)) → Stands a w → a.time ≤ t → ShowsSoFar a.config t a.running.items a.clocks.items rs 0 w.nodes
none_shown a w t rs s later = record { running = run_later a.config a.time t a.running.items w.nodes later s.nodes.running; clocks_are = s.nodes.clocks }

pub all_shown : (c : FabricConfig) (t : ℕ) (nodes : List Running) (clocks : List (Who × ℕ)) (rs : List (ℕ × ℕ)) (n : ℕ) (es : List Ruled) → are_of rs es ≡ true → length rs ≤ n
    → ShowsSoFar c t nodes clocks rs n es → Shows c t nodes clocks rs es
all_shown c t nodes clocks rs n es of le s =
    let size = of-length rs es of in
    let all = so_far-all t rs n es (omega arith) in
    record {
      running = subst (λ (xs : List Ruled). AllRun c t nodes xs) all s.running;
      clocks_are = s.clocks_are ∙ ap (λ (xs : List Ruled). map clock_of xs) all;
    }

-- nothing else changes
pub rest_stays : (a b : World) (nodes : Vec Running Global) (clocks : Vec (Who × ℕ) Global) → b ≡ record a { running = b.running; clocks = b.clocks }
    → record b { running = nodes; clocks = clocks } ≡ record a { running = nodes; clocks = clocks }
rest_stays a b nodes clocks e = ap (λ (x : World). record x { running = nodes; clocks = clocks }) e

-- one more clock shows its reading

module _ (a : World) (w : RuledWorld fabric) (t : ℕ) (nodes : List Running) (clocks : List (Who × ℕ)) (rs : List (ℕ × ℕ)) (i : ℕ) (d : ℕ × ℕ)
    (st : Stands a w) (of : are_of rs w.nodes ≡ true) (lt : i < length rs) (s : ShowsSoFar a.config t nodes clocks rs i w.nodes) where
  abbrev pub reading : ℕ
  reading = (get_or rs i d).1

  pub spot : IsOf w.nodes i (get_or rs i d)
  spot = is_of rs w.nodes i d of lt

  abbrev pub entry : Ruled
  entry = spot.entry

  there : slice_get (so_far t rs i w.nodes) i ≡ Some entry
  there = so_far-next t rs i w.nodes ∙ spot.here

  node : RunsAt a.config t nodes i entry
  node = run_at a.config t nodes (so_far t rs i w.nodes) i entry s.running there

  pub node_within : i < length nodes
  node_within = slice_get_within nodes i node.node node.here

  clock_there : slice_get clocks i ≡ Some (clock_of entry)
  clock_there =
      ap (λ ks. slice_get ks i) s.clocks_are
      ∙ (slice_get-map clock_of (so_far t rs i w.nodes) i ∙ ap (λ o. option_map clock_of o) there)

  pub clock_within : i < length clocks
  clock_within = slice_get_within clocks i (clock_of entry) clock_there

  -- the tick names this reading for the node
  named : at entry.0 rs ≡ Some reading
  named =
      let here : slice_get rs i ≡ Some (get_or rs i d) = slice_get-get_or rs i d lt in
      let same : get_or rs i d ≡ (entry.0, reading) = ap (λ k. (k, reading)) spot.number in
      at_place 0 rs i entry.0 reading (rise_as 0 rs w.nodes of st.nodes.rise) (here ∙ ap (λ x. Some x) same)

  abbrev shown : Ruled
  shown = (entry.0, shows {a = fabric} t reading entry.1)

  shown_is : shown ≡ ticked {a = fabric} t rs entry
  shown_is = sym (ap (λ o. (entry.0, shows {a = fabric} t (unwrap_or o entry.1.reading) entry.1)) named)

  more_are : slice_set (so_far t rs i w.nodes) i shown ≡ so_far t rs (i + 1) w.nodes
  more_are =
      ap (λ (e : Ruled). slice_set (so_far t rs i w.nodes) i e) shown_is
      ∙ (so_far-more t rs i w.nodes entry spot.here ∙ ap (λ n. so_far t rs n w.nodes) (sym (add-one i)))

  module _ (r : Running) (read : r ≡ get_or nodes i r) where
    pub runs : RunsAs a.config t r entry
    runs = subst (λ (q : Running). RunsAs a.config t q entry) (sym (read_at nodes i node.node r node.here read)) node.runs

    -- a reading that fits by the rules fits by the clock of the code
    pub clock_fits : readings_fit a.config w t rs ≡ true → FitsAll r.drift.bound entry.1.pairs (t, reading)
    clock_fits fit =
        let here : at (get_or rs i d).0 w.nodes ≡ Some entry.1 = ap (λ k. at k w.nodes) spot.number ∙ at_place 0 w.nodes i entry.0 entry.1 st.nodes.rise spot.here in
        let fits : fits_all a.config.bound entry.1.pairs (t, reading) ≡ true = sym (ap (λ o. fits_pairs a.config t reading o) here) ∙ fits_at a.config w t rs i d fit lt in
        subst (λ (b : Bound). FitsAll b entry.1.pairs (t, reading)) (sym runs.bound) ((fits_decided a.config.bound entry.1.pairs (t, reading)).0 fits)

    pub shows_more : (clock : Who × ℕ) (k : Extremes) → clock ≡ get_or clocks i clock → reading ≤ most_time → k.bound ≡ r.drift.bound → k.latest ≡ (t, reading) → DriftStands k ((t, reading) ∷ entry.1.pairs)
        → ShowsSoFar a.config t (slice_set nodes i (record r { drift = k })) (slice_set clocks i (clock.0, reading)) rs (i + 1) w.nodes
    shows_more clock k at_clock le bound latest stands =
        let time : k.latest.0 ≡ t = ap (λ (p : Pair). p.0) latest in
        let same : clock ≡ clock_of entry = read_at clocks i (clock_of entry) clock clock_there at_clock in
        let one : RunsAs a.config t (record r { drift = k }) shown = record {
          number = runs.number;
          in_range = runs.in_range;
          node = runs.node;
          goes_by = runs.goes_by;
          drift = stands;
          bound = bound ∙ runs.bound;
          latest = omega arith;
          reading = le;
        } in
        record {
          running = subst (λ (es : List Ruled). AllRun a.config t (slice_set nodes i (record r { drift = k })) es) more_are (run_set a.config t nodes (so_far t rs i w.nodes) i (record r { drift = k }) shown s.running one);
          clocks_are = ap (λ (q : Who × ℕ). slice_set clocks i (q.0, reading)) same
              ∙ (ap (λ (ks : List (Who × ℕ)). slice_set ks i (clock_of shown)) s.clocks_are
              ∙ (sym (map-set clock_of (so_far t rs i w.nodes) i shown) ∙ ap (λ (es : List Ruled). map clock_of es) more_are));
        }
