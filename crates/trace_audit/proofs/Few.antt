-- A node of a configuration runs once at most, so few run.
use Rattle.std.proofs.Common.{◌≡◌, ℕ, suc, ◌+◌, ◌≤◌, ◌<◌, Bool, true, false, cond, ◌||◌, List, [], ◌∷◌, length, arith, refl}
use Rattle.std.specs.Prelude.{◌==◌, All, nat_le}
use Rattle.std.specs.List.{list_any}
use Rattle.std.proofs.lemmas.Bool.{and_parts, eqb-true, leb-true}
use Rattle.std.proofs.lemmas.List.Elements.{All-cons, All-head, All-tail}
use Rattle.fabric_lemmas.specs.Maps.{rises_from}
use Rattle.fabric_terms.specs.declared.config.NodeEntry.{NodeEntry}

lists : List NodeEntry → ℕ → Bool
lists nodes k = list_any (λ n. n.node == k) nodes

-- without those of this number
others : ℕ → List NodeEntry → List NodeEntry
others k [] = []
others k (n ∷ ns) = cond (n.node == k) (others k ns) (n ∷ others k ns)

others_fit : (k : ℕ) (ns : List NodeEntry) → length (others k ns) ≤ length ns
unfolding others
others_fit k [] = omega arith
others_fit k (n ∷ ns) = by_test (n.node == k) (others_fit k ns)
  where
    by_test : (b : Bool) → length (others k ns) ≤ length ns → length (cond b (others k ns) (n ∷ others k ns)) ≤ suc (length ns)
    by_test true h = omega arith
    by_test false h = omega arith

others_fewer : (k : ℕ) (ns : List NodeEntry) → lists ns k ≡ true → length (others k ns) + 1 ≤ length ns
unfolding others lists
others_fewer k [] h = absurd (cc (h))
others_fewer k (n ∷ ns) h = by_test (n.node == k) (others_fit k ns) (others_fewer k ns) h
  where
    by_test : (b : Bool) → length (others k ns) ≤ length ns → (lists ns k ≡ true → length (others k ns) + 1 ≤ length ns) →
        (b || list_any (λ n. n.node == k) ns) ≡ true → length (cond b (others k ns) (n ∷ others k ns)) + 1 ≤ suc (length ns)
    by_test true fit more g = omega arith
    by_test false fit more g = let rest = more g in omega arith

others_list : (k j : ℕ) (ns : List NodeEntry) → k < j → lists ns j ≡ true → lists (others k ns) j ≡ true
unfolding others lists
others_list k j [] less h = absurd (cc (h))
others_list k j (n ∷ ns) less h = by_test (n.node == k) refl (others_list k j ns less)
  where
    by_other : (b : Bool) → (b || list_any (λ n. n.node == j) ns) ≡ true → (list_any (λ n. n.node == j) ns ≡ true → lists (others k ns) j ≡ true) →
        (b || list_any (λ n. n.node == j) (others k ns)) ≡ true
    by_other true g more = refl
    by_other false g more = more g

    skipped : n.node ≡ k → list_any (λ n. n.node == j) ns ≡ true
    skipped same = by_here (n.node == j) refl h
      where
        by_here : (b : Bool) → (n.node == j) ≡ b → (b || list_any (λ n. n.node == j) ns) ≡ true → list_any (λ n. n.node == j) ns ≡ true
        by_here true e g = let here = eqb-true n.node j e in absurd (omega arith)
        by_here false e g = g

    by_test : (b : Bool) → (n.node == k) ≡ b → (list_any (λ n. n.node == j) ns ≡ true → list_any (λ n. n.node == j) (others k ns) ≡ true) →
        list_any (λ n. n.node == j) (cond b (others k ns) (n ∷ others k ns)) ≡ true
    by_test true e more = more (skipped (eqb-true n.node k e))
    by_test false e more = by_other (n.node == j) h more

module _ {X : Type 0} where
  behind_others : (k low : ℕ) (es : List (ℕ × X)) (ns : List NodeEntry) → k < low → rises_from low es ≡ true → All (λ e. lists ns e.0 ≡ true) es →
      All (λ e. lists (others k ns) e.0 ≡ true) es
  behind_others k low [] ns less h all = λ i d lt. absurd (omega arith)
  behind_others k low (e ∷ es) ns less h all =
      let parts = and_parts (nat_le low e.0) (rises_from (e.0 + 1) es) h in
      let near = leb-true low e.0 parts.0 in
      All-cons (λ e. lists (others k ns) e.0 ≡ true) e es (others_list k e.0 ns (omega arith) (All-head (λ e. lists ns e.0 ≡ true) e es all))
      (behind_others k (e.0 + 1) es ns (omega arith) parts.1 (All-tail (λ e. lists ns e.0 ≡ true) e es all))

  pub few_listed : (low : ℕ) (es : List (ℕ × X)) (ns : List NodeEntry) → rises_from low es ≡ true → All (λ e. list_any (λ n. n.node == e.0) ns ≡ true) es →
      length es ≤ length ns
  unfolding lists
  few_listed low [] ns h all = omega arith
  few_listed low (e ∷ es) ns h all =
      let parts = and_parts (nat_le low e.0) (rises_from (e.0 + 1) es) h in
      let rest = few_listed (e.0 + 1) es (others e.0 ns) parts.1
      (behind_others e.0 (e.0 + 1) es ns (omega arith) parts.1 (All-tail (λ e. lists ns e.0 ≡ true) e es all)) in
      let fewer = others_fewer e.0 ns (All-head (λ e. lists ns e.0 ≡ true) e es all) in
      omega arith
