-- The clocks of a generated schedule show the true time, so none of them leaves its bound.
use Rattle.std.proofs.Common.{◌≡◌, ℕ, ◌+◌, ◌-◌, ◌*◌, ◌≤◌, Bool, true, false, cond, List, [], ◌∷◌, map, Option, Some, None, refl, ap, sym, subst, ◌∙◌, arith, nat_le}
use Rattle.std.specs.Prelude.{◌==◌, ◌&&◌, unwrap_or}
use Rattle.std.proofs.lemmas.Bool.{and_from, eq-eqb, eqb-true}
use Rattle.std.proofs.lemmas.Bool.Decides.{nat_tests}
use Rattle.drift_clock.specs.Within.{Pair, fits_all, is_within}
use Rattle.unit_rules.specs.Fabric.{fabric}
use Rattle.fabric_lemmas.proofs.Maps.{at-put, at-without}
use Rattle.fabric_lemmas.specs.Maps.{at, put, without}
use Rattle.fabric_terms.specs.declared.config.FabricConfig.{FabricConfig}
use Rattle.fabric_terms.specs.declared.event.Event.{Event}
use Rattle.fabric_terms.specs.declared.event.Event.TheVariants.{Tick}
use Rattle.frame_format.specs.Kinds.{is_frame}
use Rattle.unit_rules.specs.Ruled.{ruled}
use Rattle.run_facts.proofs.Happens.{by_cases}
use Rattle.world_rules.specs.Events.{shows, ticked, ticks as ticks_in, world_step}
use Rattle.world_rules.specs.Nodes.{NodeState, node_begun, node_step}
use Rattle.world_rules.specs.Schedules.{MayCome, are_of, fits_pairs, is_there, keeps_bound, readings_fit}
use Rattle.world_rules.specs.Uppers.{Did}
use Rattle.world_rules.specs.Worlds.{Running, World, kept_of}
use Rattle.schedule_generate.specs.Course.{running, shown_at, tick_of, tick_ticks}
use Rattle.schedule_generate.specs.Due.{AreTrue, ClocksAreTrue, ShowsTime}
use Rattle.schedule_generate.specs.Settings.{generated_config}

-- True readings keep the bound.

at_most : (x y : ℕ) → x ≤ y → nat_le x y ≡ true
at_most x y h = grind (arith, nat_tests)

four : (x y z v : Bool) → x ≡ true → y ≡ true → z ≡ true → v ≡ true → (x && y && z && v) ≡ true
four x y z v e f g h = rw (e, f, g, h) refl

true_within : (time reading now later : ℕ) → reading ≡ time → time ≤ now → now ≤ later → is_within (record { d = 10; grain = 1 }) (time, reading) (later, later) ≡ true
true_within time reading now later same early after =
    four (nat_le time later) (nat_le reading later) (nat_le (1000 * (later - reading)) ((1000 + 10) * (later - time) + 1000 * 1)) (nat_le ((1000 - 10) * (later - time)) (1000 * (later - reading) + 1000 * 1))
    (at_most time later (omega arith)) (at_most reading later (omega arith))
    (at_most (1000 * (later - reading)) ((1000 + 10) * (later - time) + 1000 * 1) (omega arith))
    (at_most ((1000 - 10) * (later - time)) (1000 * (later - reading) + 1000 * 1) (omega arith))

true_fits : (now later : ℕ) (ps : List Pair) → AreTrue now ps → now ≤ later → fits_all (record { d = 10; grain = 1 }) ps (later, later) ≡ true
true_fits now later [] h after = refl
true_fits now later (p ∷ ps) h after =
    and_from (is_within (record { d = 10; grain = 1 }) p (later, later)) (fits_all (record { d = 10; grain = 1 }) ps (later, later))
    (true_within p.0 p.1 now later h.0 h.1 after) (true_fits now later ps h.2 after)

true_later : (now later : ℕ) (ps : List Pair) → now ≤ later → AreTrue now ps → AreTrue later ps
true_later now later [] after h = tt
true_later now later (p ∷ ps) after h = let early : p.0 ≤ now = h.1 in (h.0, omega arith, true_later now later ps after h.2)

-- A tick that shows the true time may come.

are_shown : (later : ℕ) (es : List (ℕ × Running fabric)) → are_of (map (shown_at later) (map (λ e. e.0) es)) es ≡ true
are_shown later [] = refl
are_shown later (e ∷ es) = and_from (e.0 == e.0) (are_of (map (shown_at later) (map (λ e. e.0) es)) es) (eq-eqb e.0 e.0 refl) (are_shown later es)

readings_true : (n : ℕ) (w : World fabric) (later : ℕ) → ClocksAreTrue w → w.time ≤ later → (nodes : List ℕ) → readings_fit (generated_config n) w later (map (shown_at later) nodes) ≡ true
readings_true n w later all after [] = refl
readings_true n w later all after (k ∷ ks) =
    and_from (fits_pairs (generated_config n) later later (at k w.nodes)) (readings_fit (generated_config n) w later (map (shown_at later) ks)) (fit_at (at k w.nodes) refl) (readings_true n w later all after ks)
  where
    fit_at : (o : Option (Running fabric)) → at k w.nodes ≡ o → fits_pairs (generated_config n) later later o ≡ true
    fit_at None h = refl
    fit_at (Some s) h = true_fits w.time later s.pairs (all k s h) after

pub tick_due : (n : ℕ) (w : World fabric) → ClocksAreTrue w → MayCome is_frame (generated_config n) w (tick_of w)
unfolding is_there keeps_bound
tick_due n w all = record {
  there = are_shown (w.time + tick_ticks) w.nodes;
  bound = readings_true n w (w.time + tick_ticks) all (omega arith) (running w);
}

-- They stay true.

-- whoever stands in these has shown the true time by now
abbrev TrueIn : ℕ → List (ℕ × Running fabric) → Type 0
TrueIn now es = (node : ℕ) (s : Running fabric) → at node es ≡ Some s → AreTrue now s.pairs

put_true : (now k : ℕ) (x : Running fabric) (es : List (ℕ × Running fabric)) → AreTrue now x.pairs → TrueIn now es → TrueIn now (put k x es)
put_true now k x es here all q s h = by_key (k == q) (sym (at-put k x es q) ∙ h)
  where
    by_key : (b : Bool) → cond b (Some x) (at q es) ≡ Some s → AreTrue now s.pairs
    by_key true f = let same : x ≡ s = cc (f) in subst (λ (r : Running fabric). AreTrue now r.pairs) same here
    by_key false f = all q s f

without_true : (now k : ℕ) (es : List (ℕ × Running fabric)) → TrueIn now es → TrueIn now (without k es)
without_true now k es all q s h = by_key (k == q) (sym (at-without k es q) ∙ h)
  where
    by_key : (b : Bool) → cond b None (at q es) ≡ Some s → AreTrue now s.pairs
    by_key true f = absurd (cc (f))
    by_key false f = all q s f

at_shown : (later q : ℕ) (es : List (ℕ × Running fabric)) (s : Running fabric) → at q es ≡ Some s → at q (map (shown_at later) (map (λ e. e.0) es)) ≡ Some later
at_shown later q [] s h = absurd (cc (h))
at_shown later q (e ∷ es) s h = by_key (e.0 == q) h (at_shown later q es s)
  where
    by_key : (b : Bool) → cond b (Some e.1) (at q es) ≡ Some s → (at q es ≡ Some s → at q (map (shown_at later) (map (λ e. e.0) es)) ≡ Some later)
        → cond b (Some later) (at q (map (shown_at later) (map (λ e. e.0) es))) ≡ Some later
    by_key true f behind = refl
    by_key false f behind = behind f

-- who stood there before a tick
record Was (later q : ℕ) (rs : List (ℕ × ℕ)) (es : List (ℕ × Running fabric)) (s : Running fabric) : Type 0 where
  before : Running fabric
  here : at q es ≡ Some before
  now : shows {a = fabric} later (unwrap_or (at q rs) before.reading) before ≡ s

at_ticked : (later q : ℕ) (rs : List (ℕ × ℕ)) (es : List (ℕ × Running fabric)) (s : Running fabric) → at q (map (ticked {a = fabric} later rs) es) ≡ Some s → Was later q rs es s
at_ticked later q rs [] s h = absurd (cc (h))
at_ticked later q rs (e ∷ es) s h = by_key (e.0 == q) refl h (at_ticked later q rs es s)
  where
    by_key : (b : Bool) → (e.0 == q) ≡ b → cond b (Some (shows {a = fabric} later (unwrap_or (at e.0 rs) e.1.reading) e.1)) (at q (map (ticked {a = fabric} later rs) es)) ≡ Some s
        → (at q (map (ticked {a = fabric} later rs) es) ≡ Some s → Was later q rs es s) → Was later q rs (e ∷ es) s
    by_key true g f behind =
        let same : shows {a = fabric} later (unwrap_or (at e.0 rs) e.1.reading) e.1 ≡ s = cc (f) in
        record {
          before = e.1;
          here = ap (λ b. cond b (Some e.1) (at q es)) g;
          now = ap (λ (k : ℕ). shows {a = fabric} later (unwrap_or (at k rs) e.1.reading) e.1) (sym (eqb-true e.0 q g)) ∙ same;
        }
    by_key false g f behind =
        let was = behind f in record { before = was.before; here = ap (λ b. cond b (Some e.1) (at q es)) g ∙ was.here; now = was.now }

ticked_true : (now later : ℕ) (es : List (ℕ × Running fabric)) → now ≤ later → TrueIn now es → TrueIn later (map (ticked {a = fabric} later (map (shown_at later) (map (λ e. e.0) es))) es)
ticked_true now later es after all q s h =
    let rs = map (shown_at later) (map (λ e. e.0) es) in
    let was = at_ticked later q rs es s h in
    let reads : unwrap_or (at q rs) was.before.reading ≡ later = ap (λ (o : Option ℕ). unwrap_or o was.before.reading) (at_shown later q es was.before was.here) in
    subst (λ (r : Running fabric). AreTrue later r.pairs) was.now (reads, omega arith, true_later now later was.before.pairs after (all q was.before was.here))

-- nobody runs before the first event
pub first_true : (n : ℕ) → ClocksAreTrue (ruled (generated_config n) [])
first_true n q s h = absurd (cc (h))

-- what the event has clocks show is the true time
abbrev pub NamesTrue : World fabric → Event → Type 0
NamesTrue w (Tick advance readings) = readings ≡ map (shown_at (w.time + advance)) (running w)
NamesTrue w e = ShowsTime w.time e

pub true_on : (c : FabricConfig) (w : World fabric) (e : Event) → ClocksAreTrue w → NamesTrue w e → ClocksAreTrue (world_step fabric c w e).world
true_on c w e all names = by_cases fabric c w e (λ st. ClocksAreTrue st.world) (record {
  still = all;
  begins = λ node reading g.
      let d : Did (NodeState fabric) = node_begun fabric c node (kept_of w node) in
      let is : reading ≡ w.time = subst (λ (x : Event). NamesTrue w x) g names in
      put_true w.time node (record { node = d.state; reading = reading; pairs = (w.time, reading) ∷ [] }) w.nodes (is, omega arith, tt) all;
  stops = λ node s g. without_true w.time node w.nodes all;
  ticks = λ advance readings g.
      let is : readings ≡ map (shown_at (w.time + advance)) (running w) = subst (λ (x : Event). NamesTrue w x) g names in
      subst (λ (rs : List (ℕ × ℕ)). ClocksAreTrue (ticks_in fabric w (w.time + advance) rs).world) (sym is) (ticked_true w.time (w.time + advance) w.nodes (omega arith) all);
  acts = λ node i s g came.
      let d : Did (NodeState fabric) = node_step fabric c s.reading i s.node in
      put_true w.time node (record { node = d.state; reading = s.reading; pairs = s.pairs }) w.nodes (all node s g) all;
  table_begins = λ actor g. all;
  table_stops = λ arbiter s g. all;
  rules = λ arbiter f s g came to. all;
}) e refl
