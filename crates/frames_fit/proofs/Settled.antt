-- What a sound configuration says of its nodes, their points and their settings.
use Rattle.std.proofs.Common.{◌≡◌, ℕ, ◌^◌, ◌<◌, Bool, true, false, cond, ◌||◌, List, [], ◌∷◌, IsTrue, refl, subst, arith}
use Rattle.std.specs.Prelude.{◌==◌, All}
use Rattle.std.specs.List.{list_any}
use Rattle.std.proofs.lemmas.Bool.{eqb-true, lt-ltb}
use Rattle.std.proofs.lemmas.List.Elements.{All-head, All-tail}
use Rattle.fabric_terms.specs.declared.config.FabricConfig.{FabricConfig}
use Rattle.fabric_terms.specs.declared.config.NodeEntry.{NodeEntry}
use Rattle.fabric_terms.specs.Sound.{IsSound, IsSoundNode, Within}
use Rattle.ring_route.specs.Routes.{point_of}
use Rattle.ring_rules.specs.Rings.{longest_of, points_of, settings_of}
use Rattle.fabric_terms.specs.Fields.{is_lease, is_long, is_node, is_within}
use Rattle.world_rules.specs.Schedules.{is_configured_node}
use Rattle.frames_fit.proofs.Facts.{within_from}
use Rattle.frames_fit.proofs.Saying.{SettingsInRange}

within_of : (low high n : ℕ) → Within low high n → IsTrue (is_within low high n)
within_of low high n h = within_from low high n h.from_low h.to_high

-- a node that is listed

listed_in_range : (nodes : List NodeEntry) (actor : ℕ) → All IsSoundNode nodes → list_any (λ p. p.0 == actor) (points_of nodes) ≡ true → IsTrue (is_node actor)
listed_in_range [] actor h e = absurd (cc (e))
listed_in_range (n ∷ ns) actor h e = by_test (n.node == actor) refl (λ g. listed_in_range ns actor (All-tail IsSoundNode n ns h) g) e
  where
    by_test : (b : Bool) → (n.node == actor) ≡ b → (list_any (λ p. p.0 == actor) (points_of ns) ≡ true → IsTrue (is_node actor)) →
        (b || list_any (λ p. p.0 == actor) (points_of ns)) ≡ true → IsTrue (is_node actor)
    by_test true f rest g =
        subst (λ (a : ℕ). IsTrue (is_node a)) (eqb-true n.node actor f) (within_of 1 999 n.node (All-head IsSoundNode n ns h).node)
    by_test false f rest g = rest g

longest_in_range : (nodes : List NodeEntry) (node : ℕ) → All IsSoundNode nodes → list_any (λ e. e.node == node) nodes ≡ true →
    IsTrue (is_lease (longest_of node nodes))
longest_in_range [] node h e = absurd (cc (e))
longest_in_range (n ∷ ns) node h e = by_test (n.node == node) refl (λ g. longest_in_range ns node (All-tail IsSoundNode n ns h) g) e
  where
    by_test : (b : Bool) → (n.node == node) ≡ b → (list_any (λ e. e.node == node) ns ≡ true → IsTrue (is_lease (longest_of node ns))) →
        (b || list_any (λ e. e.node == node) ns) ≡ true → IsTrue (is_lease (longest_of node (n ∷ ns)))
    by_test true f rest g = rw f (within_of 10 1000000000 n.longest (All-head IsSoundNode n ns h).longest)
    by_test false f rest g = rw f (rest g)

point_in_range : (nodes : List NodeEntry) (node : ℕ) → All IsSoundNode nodes → point_of node (points_of nodes) < 2 ^ 64
point_in_range [] node h = omega arith
point_in_range (n ∷ ns) node h = by_test (n.node == node) (point_in_range ns node (All-tail IsSoundNode n ns h))
  where
    by_test : (b : Bool) → point_of node (points_of ns) < 2 ^ 64 → cond b n.point.0 (point_of node (points_of ns)) < 2 ^ 64
    by_test true rest = (All-head IsSoundNode n ns h).point
    by_test false rest = rest

module _ (c : FabricConfig) (sound : IsSound c) where
  pub settings_in_range : (node : ℕ) → is_configured_node c node ≡ true → SettingsInRange (settings_of c node)
  settings_in_range node h = record {
    lease = within_of 10 1000000000 c.lease sound.lease;
    longest = longest_in_range c.nodes node sound.nodes h;
    answer = sound.answer.to_high;
    drift = sound.drift.to_high;
    grain = sound.grain.to_high;
    arbitrators = sound.arbiters_count.to_high;
    rounds = within_of 1 8 c.rounds sound.rounds;
  }

  pub node_in_range : (actor : ℕ) → list_any (λ p. p.0 == actor) (points_of c.nodes) ≡ true → IsTrue (is_node actor)
  node_in_range actor h = listed_in_range c.nodes actor sound.nodes h

  pub point_long : (node : ℕ) → IsTrue (is_long (point_of node (points_of c.nodes)))
  point_long node = lt-ltb (point_of node (points_of c.nodes)) 18446744073709551616 (point_in_range c.nodes node sound.nodes)
