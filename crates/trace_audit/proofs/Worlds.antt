-- Who runs in a valid schedule, and what is seen of an event, has a line.
use Rattle.std.proofs.Common.{◌≡◌, ℕ, ◌+◌, ◌≤◌, Bool, true, false, cond, not, List, [], ◌∷◌, ◌++◌, length, Some, None, IsTrue, arith, refl, sym, ap, subst, ◌∙◌}
use Rattle.std.specs.Prelude.{◌==◌, All, nat_le, nat_lt}
use Rattle.std.proofs.lemmas.Bool.{and_parts, eqb-true, leb-false, leb-true, ltb-true}
use Rattle.std.proofs.lemmas.List.Elements.{All-filter, All-head, All-map, All-nil, All-tail, All-weaker}
use Rattle.unit_rules.specs.Fabric.{fabric, fabric_stays}
use Rattle.fabric_fit.proofs.Tables.{put_all}
use Rattle.fabric_lemmas.specs.Maps.{at}
use Rattle.fabric_terms.specs.declared.config.FabricConfig.{FabricConfig}
use Rattle.fabric_terms.specs.declared.event.Event.{Event}
use Rattle.fabric_terms.specs.declared.event.Event.TheVariants.{Start}
use Rattle.fabric_terms.specs.declared.record.Record.{Record}
use Rattle.fabric_terms.specs.Ranges.{Fits}
use Rattle.fabric_terms.specs.Sound.{IsSound}
use Rattle.ring_points.specs.declared.who.Who.{Who}
use Rattle.ring_points.specs.Whos.{arbiter_actor}
use Rattle.run_facts.proofs.ArbiterSteps.{arbiter_stepped}
use Rattle.run_facts.proofs.Happens.{Cases, by_cases}
use Rattle.run_facts.proofs.Kept.{boots_append, boots_still, kept_here, kept_there, no_boots}
use Rattle.run_facts.proofs.Steps.{begun_boots, begun_positive, node_acted-told, node_begun-told}
use Rattle.world_rules.specs.Arbiters.{ArbiterState, arbiter_begun, arbiter_step}
use Rattle.world_rules.specs.Events.{arbiter_number, ticked, world_step}
use Rattle.world_rules.specs.Nodes.{NodeState, boots_of, instance_begun, is_spent, node_begun, node_step}
use Rattle.world_rules.specs.Schedules.{MayCome, arbiter_runs, is_configured_arbiter, is_configured_node, may_start, node_runs}
use Rattle.world_rules.specs.Uppers.{Did}
use Rattle.world_rules.specs.Worlds.{Running, World, arbiter_who, kept_of, node_acted}
use Rattle.world_rules.proofs.Rows.{is_there-start}

-- what stands at a number
pub at_all : {X : Type 0} (P : ℕ × X → Type 0) (k : ℕ) (es : List (ℕ × X)) (x : X) → All P es → at k es ≡ Some x → P (k, x)
at_all P k [] x h e = absurd (cc (e))
at_all P k (f ∷ fs) x h e = by_test (f.0 == k) refl (at_all P k fs x (All-tail P f fs h)) e
  where
    by_test : (b : Bool) → (f.0 == k) ≡ b → (at k fs ≡ Some x → P (k, x)) → cond b (Some f.1) (at k fs) ≡ Some x → P (k, x)
    by_test true same rest g =
        let value : f.1 ≡ x = cc (g) in
        subst (λ y. P (k, y)) value (subst (λ n. P (n, f.1)) (eqb-true f.0 k same) (All-head P f fs h))
    by_test false other rest g = rest g

-- a running node is configured, and its instance is counted
pub record NodeSeen (c : FabricConfig) (e : ℕ × Running fabric) : Type 0 where
  pub listed : is_configured_node c e.0 ≡ true
  pub actor : e.1.node.ring.me.actor ≡ e.0
  pub from_one : 1 ≤ e.1.node.ring.me.instance
  pub counted : e.1.node.ring.me.instance ≤ 4294967295

abbrev pub ArbiterSeen : ℕ × ArbiterState fabric → Type 0
ArbiterSeen e = (1 ≤ e.0) × (e.0 ≤ 9)

pub record Seen (c : FabricConfig) (w : World fabric) : Type 0 where
  pub nodes : All (NodeSeen c) w.nodes
  pub arbiters : All ArbiterSeen w.arbiters
  pub boots : (q : ℕ) → boots_of (kept_of w q) ≤ 4294967295

pub none_seen : (c : FabricConfig) → Seen c (record { time = 0; nodes = []; arbiters = []; kept = []; frames = []; count = 0 })
none_seen c = record { nodes = All-nil (NodeSeen c); arbiters = All-nil ArbiterSeen; boots = λ q. omega arith }

-- numbers of starts do not pass the last
pub begun_counted : (records : List Record) → boots_of records ≤ 4294967295 → instance_begun records ≤ 4294967295
begun_counted records h = by_spent (is_spent records) refl
  where
    by_spent : (b : Bool) → is_spent records ≡ b → cond b (boots_of records) (boots_of records + 1) ≤ 4294967295
    by_spent true e = h
    by_spent false e = let less = leb-false 4294967295 (boots_of records) e in omega arith

module _ (is_frame : List ℕ → Bool) (c : FabricConfig) (sound : IsSound c) (w : World fabric) (h : Seen c w) (e : Event) (fits : Fits e)
    (may : MayCome is_frame c w e) where
  pub starts_configured : (node reading : ℕ) → e ≡ Start node (Some reading) → is_configured_node c node ≡ true
  starts_configured node reading g =
      let there : IsTrue (may_start c w node (Some reading)) =
      subst IsTrue (is_there-start is_frame c w node (Some reading)) (subst (λ d. MayCome is_frame c w d) g may).there in
      (and_parts (is_configured_node c node) (not (node_runs w node)) there).0

  pub starts_arbiter : (actor : ℕ) → e ≡ Start actor None → (1 ≤ arbiter_number actor) × (arbiter_number actor ≤ 9)
  starts_arbiter actor g =
      let there : IsTrue (may_start c w actor None) =
      subst IsTrue (is_there-start is_frame c w actor None) (subst (λ d. MayCome is_frame c w d) g may).there in
      let configured = (and_parts (is_configured_arbiter c actor) (not (arbiter_runs w actor)) there).0 in
      let parts = and_parts (nat_lt (arbiter_actor 0) actor) (nat_le actor (arbiter_actor (length c.arbiters))) configured in
      let above = ltb-true (arbiter_actor 0) actor parts.0 in
      let below = leb-true actor (arbiter_actor (length c.arbiters)) parts.1 in
      let few = sound.arbiters_count.to_high in
      (omega arith, omega arith)

  begun_boots_fit : (node reading : ℕ) (q : ℕ) →
      boots_of (kept_of (node_acted fabric w node reading ((w.time, reading) ∷ []) (node_begun fabric c node (kept_of w node))).world q) ≤ 4294967295
  begun_boots_fit node reading q = by_node (node == q) refl
    where
      name : (node_begun fabric c node (kept_of w node)).state.ring.me.actor ≡ node
      name = ap (λ (x : Who). x.actor) (node_begun-told fabric c node (kept_of w node)).name

      by_node : (b : Bool) → (node == q) ≡ b →
          boots_of (kept_of (node_acted fabric w node reading ((w.time, reading) ∷ []) (node_begun fabric c node (kept_of w node))).world q) ≤ 4294967295
      by_node true same =
          let here = kept_here w (node_begun fabric c node (kept_of w node)).state.ring.me (node_begun fabric c node (kept_of w node)).records (node_begun fabric c node (kept_of w node)).sent in
          let sum = boots_append (kept_of w node) (node_begun fabric c node (kept_of w node)).records in
          let count = begun_boots fabric c node (kept_of w node) in
          let few = begun_counted (kept_of w node) (h.boots node) in
          let all : boots_of (kept_of w node ++ (node_begun fabric c node (kept_of w node)).records) ≤ 4294967295 = omega arith in
          let at_me = subst (λ n. boots_of (kept_of w n ++ (node_begun fabric c node (kept_of w node)).records) ≤ 4294967295) (sym name) all in
          let at_name = subst (λ rs. boots_of rs ≤ 4294967295) (sym here) at_me in
          subst (λ n. boots_of (kept_of (node_acted fabric w node reading ((w.time, reading) ∷ []) (node_begun fabric c node (kept_of w node))).world n) ≤ 4294967295)
          (name ∙ eqb-true node q same) at_name
      by_node false other =
          let apart = kept_there w (node_begun fabric c node (kept_of w node)).state.ring.me (node_begun fabric c node (kept_of w node)).records
          (node_begun fabric c node (kept_of w node)).sent q (subst (λ n. (n == q) ≡ false) (sym name) other) in
          subst (λ rs. boots_of rs ≤ 4294967295) (sym apart) (h.boots q)

  seen_cases : Cases fabric c w e (λ st. Seen c st.world)
  seen_cases = record {
    still = h;
    begins = λ node reading g.
        let d : Did (NodeState fabric) = node_begun fabric c node (kept_of w node) in
        let told = node_begun-told fabric c node (kept_of w node) in
        record {
          nodes = put_all (NodeSeen c) node (record { node = d.state; reading = reading; pairs = (w.time, reading) ∷ [] }) w.nodes
              (record {
                listed = starts_configured node reading g;
                actor = ap (λ (x : Who). x.actor) told.name;
                from_one = subst (λ (x : Who). 1 ≤ x.instance) (sym told.name) (begun_positive (kept_of w node));
                counted = subst (λ (x : Who). x.instance ≤ 4294967295) (sym told.name) (begun_counted (kept_of w node) (h.boots node));
              }) h.nodes;
          arbiters = h.arbiters;
          boots = begun_boots_fit node reading;
        };
    stops = λ node s g. record { nodes = All-filter (λ n. not (n.0 == node)) (NodeSeen c) w.nodes h.nodes; arbiters = h.arbiters; boots = h.boots };
    ticks = λ advance readings g. record {
      nodes = All-map (NodeSeen c) (ticked {a = fabric} (w.time + advance) readings) w.nodes
          (All-weaker (NodeSeen c) (λ n. NodeSeen c (ticked {a = fabric} (w.time + advance) readings n)) (λ n k. record { listed = k.listed; actor = k.actor; from_one = k.from_one; counted = k.counted }) w.nodes h.nodes);
      arbiters = h.arbiters;
      boots = h.boots;
    };
    acts = λ node i s there came.
        let d : Did (NodeState fabric) = node_step fabric c s.reading i s.node in
        let told = node_acted-told fabric fabric_stays c s.reading i s.node in
        let old = at_all (NodeSeen c) node w.nodes s h.nodes there in
        record {
          nodes = put_all (NodeSeen c) node (record { node = d.state; reading = s.reading; pairs = s.pairs }) w.nodes
              (record {
                listed = old.listed;
                actor = subst (λ (x : Who). x.actor ≡ node) (sym told.name) old.actor;
                from_one = subst (λ (x : Who). 1 ≤ x.instance) (sym told.name) old.from_one;
                counted = subst (λ (x : Who). x.instance ≤ 4294967295) (sym told.name) old.counted;
              }) h.nodes;
          arbiters = h.arbiters;
          boots = λ q. let same = boots_still w d.state.ring.me d.records d.sent (no_boots d.records told.apart) q in let few = h.boots q in omega arith;
        };
    table_begins = λ actor g. record {
      nodes = h.nodes;
      arbiters = put_all ArbiterSeen (arbiter_number actor) (arbiter_begun fabric c (arbiter_number actor) (kept_of w actor)) w.arbiters (starts_arbiter actor g) h.arbiters;
      boots = h.boots;
    };
    table_stops = λ arbiter s g. record { nodes = h.nodes; arbiters = All-filter (λ n. not (n.0 == arbiter)) ArbiterSeen w.arbiters h.arbiters; boots = h.boots };
    rules = λ arbiter f s g m to.
        let d : Did (ArbiterState fabric) = arbiter_step fabric c arbiter f s in
        let told = arbiter_stepped fabric fabric_stays c arbiter f s in
        record {
          nodes = h.nodes;
          arbiters = put_all ArbiterSeen arbiter d.state w.arbiters (at_all ArbiterSeen arbiter w.arbiters s h.arbiters g) h.arbiters;
          boots = λ q. let same = boots_still w (arbiter_who arbiter) d.records d.sent told.boots q in let few = h.boots q in omega arith;
        };
  }

  pub seen_after : Seen c (world_step fabric c w e).world
  seen_after = by_cases fabric c w e (λ st. Seen c st.world) seen_cases e refl
