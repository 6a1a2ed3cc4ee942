-- What is placed among the configured nodes are members of a configuration, the first of them too.
use Rattle.std.proofs.Common.{◌≡◌, ◌≢◌, ℕ, ◌≤◌, false, cond, List, [], ◌∷◌, length, map, IsTrue, refl, sym, ap, ◌∙◌, arith}
use Rattle.std.specs.Prelude.{◌==◌, All, AllPairs, Contains, Err, Ok, Result, nat_le, nat_lt}
use Rattle.std.proofs.lemmas.Bool.{and_from, cond_both, cond-false, cond-true, eq-eqb, eqb-true, false_from_ne_true, le-leb, ltb-false, ltb-true}
use Rattle.std.proofs.lemmas.List.{length-map}
use Rattle.std.proofs.lemmas.List.Elements.{All-cons, All-contains, All-map, All-nil, All-weaker}
use Rattle.std.proofs.lemmas.List.Kept.{AllPairs-cons}
use Rattle.fabric_lemmas.proofs.SortedLists.{AllPairs-head, AllPairs-tail}
use Rattle.fabric_terms.specs.declared.config.FabricConfig.{FabricConfig}
use Rattle.fabric_terms.specs.declared.config.NodeEntry.{NodeEntry}
use Rattle.fabric_terms.specs.Fields.{is_node, is_within, rises_above}
use Rattle.fabric_terms.specs.Ranges.{IsByte}
use Rattle.fabric_terms.specs.Sound.{AreApart, IsSound, IsSoundNode}
use Rattle.failover_units.specs.Units.{Table}
use Rattle.frames_fit.proofs.Facts.{within_from, within_parts}
use Rattle.replica_place.specs.declared.load.NodeLoad.{NodeLoad}
use Rattle.replica_place.specs.declared.placement.TooFewDomains.{TooFewDomains}
use Rattle.replica_place.specs.Choices.{IsChoice}
use Rattle.replica_place.specs.Placement.{chosen, domains_up, placement, too_few}
use Rattle.replica_place.proofs.CheapestChoice.{is_choice}
use Rattle.ring_rules.specs.Rings.{Ring}
use Rattle.ring_rules.specs.Rising.{rising}
use Rattle.ring_rules.specs.Up.{long_ago}
use Rattle.unit_rules.specs.Choices.{is_among}
use Rattle.unit_rules.specs.Loads.{load_at, loads, site_of}
use Rattle.unit_rules.specs.Transitions.{first_of}
use Rattle.fabric_fit.specs.Managers.{are_members}
use Rattle.fabric_fit.proofs.Rising.{first_among, length-rising, rising_rises}

-- The nodes as placement sees them: each has one domain.

pub record NodesInRange (nodes : List NodeLoad) : Type 0 where
  pub node : All (λ n. IsTrue (is_node n.node)) nodes
  pub domain_of : ℕ → ℕ
  pub domain : All (λ n. n.domain ≡ domain_of n.node) nodes

-- the domain of a configured node
abbrev domain_in : List NodeEntry → ℕ → ℕ
domain_in [] node = 0
domain_in (e ∷ es) node = cond (e.node == node) e.domain (domain_in es node)

domains_are : (es : List NodeEntry) → AllPairs AreApart es → All (λ e. e.domain ≡ domain_in es e.node) es
domains_are [] apart = All-nil (λ e. e.domain ≡ domain_in [] e.node)
domains_are (e ∷ es) apart =
    All-cons (λ f. f.domain ≡ domain_in (e ∷ es) f.node) e es (sym (cond-true (e.node == e.node) e.domain (domain_in es e.node) (eq-eqb e.node e.node refl)))
    (λ k d h. behind (AllPairs-head AreApart e es apart k d h) (domains_are es (AllPairs-tail AreApart e es apart) k d h))
  where
    behind : {f : NodeEntry} → AreApart e f → f.domain ≡ domain_in es f.node → f.domain ≡ domain_in (e ∷ es) f.node
    behind {f = f} other is =
        let ne : (e.node == f.node) ≡ false = false_from_ne_true (e.node == f.node) (λ same. other.numbers (eqb-true e.node f.node same)) in
        is ∙ sym (cond-false (e.node == f.node) e.domain (domain_in es f.node) ne)

pub loads_in_range : (c : FabricConfig) → IsSound c → (now : ℕ) (r : Ring) (units : Table) → NodesInRange (loads (site_of c r.me.actor) now r units)
loads_in_range c sound now r units = record {
  node =
      All-map (λ n. IsTrue (is_node n.node)) see pairs
      (All-map (λ n. IsTrue (is_node n.0)) (λ n. (n.node, n.domain)) c.nodes
      (All-weaker IsSoundNode (λ n. IsTrue (is_node n.node)) (λ n h. within_from 1 999 n.node h.node.from_low h.node.to_high) c.nodes sound.nodes));
  domain_of = domain_in c.nodes;
  domain =
      All-map (λ n. n.domain ≡ domain_in c.nodes n.node) see pairs
      (All-map (λ n. n.1 ≡ domain_in c.nodes n.0) (λ n. (n.node, n.domain)) c.nodes (domains_are c.nodes sound.nodes_apart));
}
  where
    pairs : List (ℕ × ℕ)
    pairs = map (λ n. (n.node, n.domain)) c.nodes

    see : ℕ × ℕ → NodeLoad
    see = load_at (long_ago now c.lease) r units

-- What is placed.

pub record PlacedInRange (placed : List ℕ) : Type 0 where
  pub members : IsTrue (are_members (rising placed))
  pub first : IsTrue (is_among (first_of placed) (rising placed))

abbrev pub PlacementInRange : Result (List ℕ) TooFewDomains → Type 0
PlacementInRange (Err few) = IsByte few.0
PlacementInRange (Ok placed) = PlacedInRange placed

apart-map : (ns : List NodeLoad) → AllPairs (λ a b. a.node ≢ b.node) ns → AllPairs (λ a b. a ≢ b) (map (λ n. n.node) ns)
apart-map [] apart = λ i j d h k. absurd (omega arith)
apart-map (n ∷ ns) apart =
    AllPairs-cons (λ a b. a ≢ b) n.node (map (λ n. n.node) ns)
    (All-map (λ m. n.node ≢ m) (λ n. n.node) ns (AllPairs-head (λ a b. a.node ≢ b.node) n ns apart))
    (apart-map ns (AllPairs-tail (λ a b. a.node ≢ b.node) n ns apart))

module _ (nodes : List NodeLoad) (fine : NodesInRange nodes) (count : ℕ) (many : IsTrue (is_within 1 7 count)) where
  abbrev numbers : List ℕ
  numbers = map (λ n. n.node) (chosen nodes count)

  module _ (is : IsChoice nodes count (chosen nodes count)) where
    -- what holds of all nodes holds of the chosen
    of_chosen : (P : NodeLoad → Type 0) → All P nodes → All P (chosen nodes count)
    of_chosen P h = All-weaker (Contains nodes) P (λ n k. All-contains P nodes n h k) (chosen nodes count) is.given

    once : AllPairs (λ a b. a.node ≢ b.node) (chosen nodes count)
    once i j d h k same =
        let domains = of_chosen (λ n. n.domain ≡ fine.domain_of n.node) fine.domain in
        is.apart i j d h k (domains i d (omega arith) ∙ ap fine.domain_of same ∙ sym (domains j d k))

    as_many : length numbers ≡ count
    as_many = length-map (chosen nodes count) (λ n. n.node) ∙ is.many

    chosen_in_range : PlacedInRange numbers
    chosen_in_range =
        let bounds = within_parts 1 7 count many in
        let low : 1 ≤ count = bounds.0 in
        let high : count ≤ 7 = bounds.1 in
        let long = length-rising numbers in
        record {
          members =
              and_from (nat_le (length (rising numbers)) 7) (rises_above 0 (rising numbers))
              (le-leb (length (rising numbers)) 7 (omega (arith, as_many)))
              (rising_rises numbers
              (All-map (λ n. IsTrue (is_node n)) (λ n. n.node) (chosen nodes count) (of_chosen (λ n. IsTrue (is_node n.node)) fine.node))
              (apart-map (chosen nodes count) once));
          first = first_among numbers (omega (arith, as_many));
        }

  pub placement_in_range : PlacementInRange (placement nodes count)
  placement_in_range =
      cond_both (nat_lt (domains_up nodes) count) (Err (too_few (domains_up nodes))) (Ok numbers) PlacementInRange
      (λ f. let less = ltb-true (domains_up nodes) count f in let most = (within_parts 1 7 count many).1 in omega arith)
      (λ f. chosen_in_range (is_choice nodes count (ltb-false (domains_up nodes) count f)))
