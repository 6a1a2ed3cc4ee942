-- What is seen of an event has lines.
use Rattle.std.proofs.Common.{◌≡◌, inl, inr, ℕ, ◌+◌, ◌≤◌, Bool, true, false, ◌||◌, List, [], ◌∷◌, length, Option, Some, None, arith, refl, sym, subst}
use Rattle.std.specs.Prelude.{◌==◌, All}
use Rattle.std.specs.List.{list_any}
use Rattle.std.proofs.lemmas.Bool.{eqb-true}
use Rattle.std.proofs.lemmas.List.Elements.{All-head, All-tail}
use Rattle.unit_rules.specs.Fabric.{fabric, fabric_stays}
use Rattle.fabric_lemmas.specs.Maps.{at}
use Rattle.fabric_terms.specs.declared.config.FabricConfig.{FabricConfig}
use Rattle.fabric_terms.specs.declared.event.Event.{Event}
use Rattle.fabric_terms.specs.declared.message.Body.{Body}
use Rattle.fabric_terms.specs.Ranges.{Fits, FitsReading, IsInstance, IsNode, IsNumber, IsWho}
use Rattle.fabric_terms.specs.Runs.{Entry}
use Rattle.fabric_terms.specs.Sound.{IsSound, IsSoundNode}
use Rattle.fabric_terms.specs.declared.config.NodeEntry.{NodeEntry}
use Rattle.ring_points.specs.declared.who.Who.{Who}
use Rattle.run_facts.proofs.Happens.{Cases, by_cases}
use Rattle.run_facts.proofs.Steps.{begun_positive, node_acted-told, node_begun-told}
use Rattle.world_rules.specs.Arbiters.{arbiter_step}
use Rattle.world_rules.specs.Events.{arbiter_number, world_step}
use Rattle.world_rules.specs.Nodes.{NodeState, node_begun, node_step}
use Rattle.world_rules.specs.Schedules.{MayCome, is_configured_node}
use Rattle.world_rules.specs.Uppers.{Did}
use Rattle.world_rules.specs.Worlds.{Running, World, arbiter_who, kept_of, numbers_of}
use Rattle.trace_audit.proofs.Worlds.{ArbiterSeen, NodeSeen, Seen, at_all, begun_counted, starts_arbiter, starts_configured}

-- who did something, its reading, and the numbers of its frames
pub record EntrySeen (count : ℕ) (e : Entry) : Type 0 where
  pub who : IsWho e.who
  pub reading : FitsReading e.who e.reading
  pub span : e.sent.0 ≤ e.sent.1
  pub last : e.sent.1 ≤ count

abbrev pub IsSeen : ℕ → Option Entry → Type 0
IsSeen count None = Unit {0}
IsSeen count (Some e) = EntrySeen count e

listed_node : (ns : List NodeEntry) (node : ℕ) → All IsSoundNode ns → list_any (λ n. n.node == node) ns ≡ true → IsNode node
listed_node [] node all h = absurd (cc (h))
listed_node (n ∷ ns) node all h = by_test (n.node == node) refl (listed_node ns node (All-tail IsSoundNode n ns all)) h
  where
    by_test : (b : Bool) → (n.node == node) ≡ b → (list_any (λ n. n.node == node) ns ≡ true → IsNode node) → (b || list_any (λ n. n.node == node) ns) ≡ true → IsNode node
    by_test true same rest g =
        let within = (All-head IsSoundNode n ns all).node in
        subst (λ k. IsNode k) (eqb-true n.node node same) (within.from_low, within.to_high)
    by_test false other rest g = rest g

-- a configured node has a number of a node
pub configured_node : (c : FabricConfig) → IsSound c → (node : ℕ) → is_configured_node c node ≡ true → IsNode node
configured_node c sound node h = listed_node c.nodes node sound.nodes h

numbered : (count : ℕ) (sent : List (Who × Body)) → ((numbers_of count sent).0 ≤ (numbers_of count sent).1) × ((numbers_of count sent).1 ≤ count + length sent)
numbered count [] = (omega arith, omega arith)
numbered count (m ∷ ms) = (omega arith, omega arith)

arbiter_named : (m : ℕ) → (1 ≤ m) × (m ≤ 9) → IsWho (arbiter_who m)
arbiter_named m h = let low = h.0 in let high = h.1 in inr ((omega arith, omega arith), refl)

module _ (is_frame : List ℕ → Bool) (c : FabricConfig) (sound : IsSound c) (w : World fabric) (h : Seen c w) (reads : All (λ n. IsNumber n.1.reading) w.nodes)
    (e : Event) (fits : Fits e) (may : MayCome is_frame c w e) where
  node_named : (x : Who) (node : ℕ) → is_configured_node c node ≡ true → x.actor ≡ node → 1 ≤ x.instance → x.instance ≤ 4294967295 → IsInstance x
  node_named x node listed same one few =
      let k = configured_node c sound node listed in
      let low = k.0 in let high = k.1 in
      ((omega arith, omega arith), one, omega arith)

  reading_fits : (x : Who) (reading : ℕ) → IsInstance x → IsNumber reading → FitsReading x (Some reading)
  reading_fits x reading k m = (k.0, omega arith)

  running : (node : ℕ) (s : Running fabric) → at node w.nodes ≡ Some s → IsInstance s.node.ring.me
  running node s there =
      let old = at_all (NodeSeen c) node w.nodes s h.nodes there in
      node_named s.node.ring.me node old.listed old.actor old.from_one old.counted

  seen_cases : Cases fabric c w e (λ st. IsSeen st.world.count st.entry)
  seen_cases = record {
    still = tt;
    begins = λ node reading g.
        let d : Did (NodeState fabric) = node_begun fabric c node (kept_of w node) in
        let name = (node_begun-told fabric c node (kept_of w node)).name in
        let me : IsInstance d.state.ring.me = subst (λ (x : Who). IsInstance x) (sym name)
        (node_named _ node (starts_configured is_frame c sound w h e fits may node reading g) refl (begun_positive (kept_of w node))
        (begun_counted (kept_of w node) (h.boots node))) in
        let number : IsNumber reading = (subst (λ (x : Event). Fits x) g fits).1 in
        let sent = numbered w.count d.sent in
        record { who = inl me; reading = reading_fits d.state.ring.me reading me number; span = sent.0; last = sent.1 };
    stops = λ node s there.
        let me = running node s there in
        record {
          who = inl me;
          reading = reading_fits s.node.ring.me s.reading me (at_all (λ n. IsNumber n.1.reading) node w.nodes s reads there);
          span = omega arith;
          last = omega arith;
        };
    ticks = λ advance readings g. tt;
    acts = λ node i s there came.
        let d : Did (NodeState fabric) = node_step fabric c s.reading i s.node in
        let name = (node_acted-told fabric fabric_stays c s.reading i s.node).name in
        let me : IsInstance d.state.ring.me = subst (λ (x : Who). IsInstance x) (sym name) (running node s there) in
        let sent = numbered w.count d.sent in
        record {
          who = inl me;
          reading = reading_fits d.state.ring.me s.reading me (at_all (λ n. IsNumber n.1.reading) node w.nodes s reads there);
          span = sent.0;
          last = sent.1;
        };
    table_begins = λ actor g.
        let few = starts_arbiter is_frame c sound w h e fits may actor g in
        let low = few.0 in let high = few.1 in
        record { who = arbiter_named (arbiter_number actor) few; reading = (omega arith, omega arith); span = omega arith; last = omega arith };
    table_stops = λ arbiter s there.
        let few = at_all ArbiterSeen arbiter w.arbiters s h.arbiters there in
        let low = few.0 in let high = few.1 in
        record { who = arbiter_named arbiter few; reading = (omega arith, omega arith); span = omega arith; last = omega arith };
    rules = λ arbiter f s there m to.
        let few = at_all ArbiterSeen arbiter w.arbiters s h.arbiters there in
        let low = few.0 in let high = few.1 in
        let sent = numbered w.count (arbiter_step fabric c arbiter f s).sent in
        record { who = arbiter_named arbiter few; reading = (omega arith, omega arith); span = sent.0; last = sent.1 };
  }

  pub entry_seen : IsSeen (world_step fabric c w e).world.count (world_step fabric c w e).entry
  entry_seen = by_cases fabric c w e (λ st. IsSeen st.world.count st.entry) seen_cases e refl

  -- frames stay
  count_cases : Cases fabric c w e (λ st. w.count ≤ st.world.count)
  count_cases = record {
    still = omega arith;
    begins = λ node reading g. omega arith;
    stops = λ node s g. omega arith;
    ticks = λ advance readings g. omega arith;
    acts = λ node i s there came. omega arith;
    table_begins = λ actor g. omega arith;
    table_stops = λ arbiter s g. omega arith;
    rules = λ arbiter f s g m to. omega arith;
  }

  pub count_grows : w.count ≤ (world_step fabric c w e).world.count
  count_grows = by_cases fabric c w e (λ st. w.count ≤ st.world.count) count_cases e refl
