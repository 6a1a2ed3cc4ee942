-- The clocks of a run are those of the running nodes, each under its number once.
use Rattle.std.proofs.Common.{◌≡◌, ℕ, ◌+◌, ◌≤◌, Bool, true, false, cond, List, [], ◌∷◌, Some, refl, sym, ap, ◌∙◌, subst, arith}
use Rattle.std.specs.Prelude.{◌==◌, map, nat_le}
use Rattle.std.specs.List.{find}
use Rattle.std.specs.Option.{option_map}
use Rattle.std.proofs.lemmas.Bool.{and_parts, and_from, eqb-true, eq-eqb, leb-true, eqb-false}
use Rattle.std.proofs.lemmas.Bool.Decides.{nat_tests}
use Rattle.fabric_terms.specs.declared.config.FabricConfig.{FabricConfig}
use Rattle.fabric_terms.specs.declared.event.Event.{Event}
use Rattle.fabric_terms.specs.Runs.{Clocks, clocks_of, reading_of}
use Rattle.ring_points.specs.declared.who.Who.{Who}
use Rattle.ring_points.specs.Whos.{same_who}
use Rattle.ring_points.proofs.Whos.{same_who-true, same_who-refl, same_who_from}
use Rattle.world_rules.specs.Events.{ticked}
use Rattle.fabric_lemmas.specs.Maps.{at, rises, rises_from}
use Rattle.world_rules.specs.Nodes.{NodeState, node_begun, node_step}
use Rattle.world_rules.specs.Runs.{History, world_after, run_of}
use Rattle.world_rules.specs.Uppers.{Upper, Did}
use Rattle.world_rules.specs.Worlds.{World, Running, clocks_in, kept_of}
use Rattle.fabric_lemmas.proofs.Maps.{rises-put, rises-without}
use Rattle.world_rules.specs.Above.{StaysAbove}
use Rattle.run_facts.specs.Held.{RunsAt}
use Rattle.run_facts.specs.Laws.{ClocksAreOfRunning}
use Rattle.run_facts.proofs.Orderly.{orderly}
use Rattle.run_facts.proofs.Happens.{Cases, by_cases}

ticked_rises : {a : Upper} (time : ℕ) (rs : List (ℕ × ℕ)) (low : ℕ) (es : List (ℕ × Running a)) → rises_from low es ≡ true →
    rises_from low (map (ticked {a = a} time rs) es) ≡ true
ticked_rises time rs low [] h = refl
ticked_rises {a = a} time rs low (e ∷ es) h =
    let parts = and_parts (nat_le low e.0) (rises_from (e.0 + 1) es) h in
    and_from (nat_le low e.0) (rises_from (e.0 + 1) (map (ticked {a = a} time rs) es)) parts.0 (ticked_rises {a = a} time rs (e.0 + 1) es parts.1)

module _ (a : Upper) (c : FabricConfig) where
  pub rising_cases : (w : World a) (e : Event) → rises w.nodes ≡ true → Cases a c w e (λ st. rises st.world.nodes ≡ true)
  rising_cases w e h = record {
    still = h;
    begins = λ node reading g.
        let d : Did (NodeState a) = node_begun a c node (kept_of w node) in
        rises-put node (record { node = d.state; reading = reading; pairs = (w.time, reading) ∷ [] }) w.nodes h;
    stops = λ node s g. rises-without node w.nodes h;
    ticks = λ advance readings g. ticked_rises {a = a} (w.time + advance) readings 0 w.nodes h;
    acts = λ node i s g came.
        let d : Did (NodeState a) = node_step a c s.reading i s.node in
        rises-put node (record { node = d.state; reading = s.reading; pairs = s.pairs }) w.nodes h;
    table_begins = λ actor g. h;
    table_stops = λ arbiter s g. h;
    rules = λ arbiter f s g came to. h;
  }

  pub rising : (h : History) → rises (world_after a c h).nodes ≡ true
  rising [] = refl
  rising (e ∷ h) = by_cases a c (world_after a c h) e.1 (λ st. rises st.world.nodes ≡ true) (rising_cases (world_after a c h) e.1 (rising h)) e.1 refl

-- an entry of a map that rises stands at its number

rises_above : {X : Type 0} (low : ℕ) (es : List (ℕ × X)) (q : ℕ) (s : X) → rises_from low es ≡ true → at q es ≡ Some s → low ≤ q
rises_above low [] q s h there = absurd (cc (there))
rises_above low (e ∷ es) q s h there =
    let parts = and_parts (nat_le low e.0) (rises_from (e.0 + 1) es) h in
    go (leb-true low e.0 parts.0) (e.0 == q) refl there (rises_above (e.0 + 1) es q s parts.1)
  where
    go : low ≤ e.0 → (b : Bool) → (e.0 == q) ≡ b → cond b (Some e.1) (at q es) ≡ Some s → (at q es ≡ Some s → e.0 + 1 ≤ q) → low ≤ q
    go le true g h again = let same = eqb-true e.0 q g in omega arith
    go le false g h again = let more = again h in omega arith

-- a running instance with a reading
pub record Reads {a : Upper} (nodes : List (ℕ × Running a)) (x : Who) (reading : ℕ) : Type 0 where
  pub number : ℕ
  pub state : Running a
  pub here : at number nodes ≡ Some state
  pub name : state.node.ring.me ≡ x
  pub reads : state.reading ≡ reading

-- the clocks of these nodes
abbrev clocks : {a : Upper} → List (ℕ × Running a) → Clocks
clocks es = map (λ n. (n.1.node.ring.me, n.1.reading)) es

pub reads_in : {a : Upper} (low : ℕ) (es : List (ℕ × Running a)) (x : Who) (reading : ℕ) → rises_from low es ≡ true →
    reading_of x (clocks {a = a} es) ≡ Some reading → Reads {a = a} es x reading
reads_in low [] x reading h r = absurd (cc (r))
reads_in {a = a} low (e ∷ es) x reading h r =
    let parts = and_parts (nat_le low e.0) (rises_from (e.0 + 1) es) h in
    go (same_who e.1.node.ring.me x) refl r (reads_in {a = a} (e.0 + 1) es x reading parts.1) parts.1
  where
    go : (b : Bool) → same_who e.1.node.ring.me x ≡ b →
        option_map (λ (clock : Who × ℕ). clock.1)
        (cond b (Some (e.1.node.ring.me, e.1.reading)) (find (λ (clock : Who × ℕ). same_who clock.0 x) (clocks {a = a} es))) ≡ Some reading →
        (reading_of x (clocks {a = a} es) ≡ Some reading → Reads {a = a} es x reading) → rises_from (e.0 + 1) es ≡ true →
        Reads {a = a} (e ∷ es) x reading
    go true g r again rest = record {
      number = e.0;
      state = e.1;
      here = ap (λ b. cond b (Some e.1) (at e.0 es)) (eq-eqb e.0 e.0 refl);
      name = same_who-true e.1.node.ring.me x g;
      reads = (let same : e.1.reading ≡ reading = cc (r) in same);
    }
    go false g r again rest =
        let found = again r in
        let above = rises_above (e.0 + 1) es found.number found.state rest found.here in
        let apart : (e.0 == found.number) ≡ false = grind (arith, nat_tests) in
        record {
          number = found.number;
          state = found.state;
          here = ap (λ b. cond b (Some e.1) (at found.number es)) apart ∙ found.here;
          name = found.name;
          reads = found.reads;
        }

-- the instance under each number is of that node
abbrev AreNamed : {a : Upper} → List (ℕ × Running a) → Type 0
AreNamed {a = a} es = (q : ℕ) (s : Running a) → at q es ≡ Some s → s.node.ring.me.actor ≡ q

-- a running instance is found by its name
found_in : {a : Upper} (low : ℕ) (es : List (ℕ × Running a)) (q : ℕ) (s : Running a) → rises_from low es ≡ true → AreNamed {a = a} es → at q es ≡ Some s →
    reading_of s.node.ring.me (clocks {a = a} es) ≡ Some s.reading
found_in low [] q s h named there = absurd (cc (there))
found_in {a = a} low (e ∷ es) q s h named there =
    let parts = and_parts (nat_le low e.0) (rises_from (e.0 + 1) es) h in
    go (e.0 == q) refl there (found_in {a = a} (e.0 + 1) es q s parts.1 (behind parts.1))
  where
    head : e.1.node.ring.me.actor ≡ e.0
    head = named e.0 e.1 (ap (λ b. cond b (Some e.1) (at e.0 es)) (eq-eqb e.0 e.0 refl))

    behind : rises_from (e.0 + 1) es ≡ true → AreNamed {a = a} es
    behind rest p r g =
        let above = rises_above (e.0 + 1) es p r rest g in
        let apart : (e.0 == p) ≡ false = grind (arith, nat_tests) in
        named p r (ap (λ b. cond b (Some e.1) (at p es)) apart ∙ g)

    go : (b : Bool) → (e.0 == q) ≡ b → cond b (Some e.1) (at q es) ≡ Some s →
        (at q es ≡ Some s → reading_of s.node.ring.me (clocks {a = a} es) ≡ Some s.reading) →
        reading_of s.node.ring.me (clocks {a = a} (e ∷ es)) ≡ Some s.reading
    go true k g again =
        let same : e.1 ≡ s = cc (g) in
        subst (λ (r : Running a). reading_of r.node.ring.me (clocks {a = a} (e ∷ es)) ≡ Some r.reading) same
        (ap
        (λ b.
        option_map (λ (clock : Who × ℕ). clock.1)
        (cond b (Some (e.1.node.ring.me, e.1.reading)) (find (λ (clock : Who × ℕ). same_who clock.0 e.1.node.ring.me) (clocks {a = a} es))))
        (same_who-refl e.1.node.ring.me))
    go false k g again =
        let actor : s.node.ring.me.actor ≡ q = named q s (ap (λ b. cond b (Some e.1) (at q es)) k ∙ g) in
        let apart : same_who e.1.node.ring.me s.node.ring.me ≡ false =
        same_who_from e.1.node.ring.me s.node.ring.me (λ same. eqb-false e.0 q k (sym head ∙ (ap (λ (z : Who). z.actor) same ∙ actor))) in
        ap
        (λ b.
        option_map (λ (clock : Who × ℕ). clock.1)
        (cond b (Some (e.1.node.ring.me, e.1.reading)) (find (λ (clock : Who × ℕ). same_who clock.0 s.node.ring.me) (clocks {a = a} es))))
        apart
        ∙ again g

pub clocks_are : (a : Upper) (c : FabricConfig) (h : History) → clocks_of (run_of a c h) ≡ clocks_in (world_after a c h)
clocks_are a c [] = refl
clocks_are a c (e ∷ h) = refl

-- an instance with a reading runs
pub reads : (a : Upper) (c : FabricConfig) (h : History) (x : Who) (reading : ℕ) → reading_of x (clocks_of (run_of a c h)) ≡ Some reading →
    Reads (world_after a c h).nodes x reading
reads a c h x reading r = reads_in {a = a} 0 (world_after a c h).nodes x reading (rising a c h) (sym (ap (reading_of x) (clocks_are a c h)) ∙ r)

pub clocks_are_of_running_lem : (a : Upper) → StaysAbove a → ClocksAreOfRunning a
clocks_are_of_running_lem a stays c h x reading = (there, back)
  where
    there : reading_of x (clocks_of (run_of a c h)) ≡ Some reading → RunsAt (world_after a c h) x reading
    there r = let k = reads a c h x reading r in record { node = k.number; state = k.state; here = k.here; name = k.name; reads = k.reads }

    back : RunsAt (world_after a c h) x reading → reading_of x (clocks_of (run_of a c h)) ≡ Some reading
    back k =
        let o = orderly a c stays h in
        let found : reading_of k.state.node.ring.me (clocks_in (world_after a c h)) ≡ Some k.state.reading =
        found_in {a = a} 0 (world_after a c h).nodes k.node k.state (rising a c h) (λ q s g. ap (λ (z : Who). z.actor) (o.name q s g)) k.here in
        ap (reading_of x) (clocks_are a c h)
        ∙ subst (λ (z : Who × ℕ). reading_of z.0 (clocks_in (world_after a c h)) ≡ Some z.1) (λ i. (k.name i, k.reads i)) found
