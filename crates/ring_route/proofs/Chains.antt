-- A chain of points, each nearer to the key than the one before, repeats none.
use Rattle.std.proofs.Common.{◌≡◌, ℕ, ◌==◌, Bool, true, false, ◌&&◌, List, [], ◌∷◌, refl, arith, IsTrue, map, ap, sym, ◌∙◌, ◌||◌, nat_lt, subst, eqb-true}
use Rattle.std.specs.List.{list_any}
use Rattle.std.proofs.lemmas.Bool.Decides.{nat_tests}
use Rattle.ring_points.specs.Distances.{distance_of, is_nearer}
use Rattle.ring_route.specs.Laws.{goes_on_nearer, is_chain, meets_none_twice}

nearer_by-transitive : (d e f a b c : ℕ) → IsTrue (nat_lt d e || (d == e && nat_lt a b)) → IsTrue (nat_lt e f || (e == f && nat_lt b c)) → IsTrue (nat_lt d f || (d == f && nat_lt a c))
nearer_by-transitive d e f a b c h k = grind (arith, nat_tests)

nearer-transitive : (key a b c : ℕ) → IsTrue (is_nearer key a b) → IsTrue (is_nearer key b c) → IsTrue (is_nearer key a c)
nearer-transitive key a b c h k = nearer_by-transitive (distance_of key a) (distance_of key b) (distance_of key c) a b c h k

nearer-irreflexive : (d a : ℕ) → (nat_lt d d || (d == d && nat_lt a a)) ≡ false
nearer-irreflexive d a = grind (arith, nat_tests)

nearer-other : (key p : ℕ) (point : ℕ → ℕ) (m n : ℕ) → point n ≡ p → IsTrue (is_nearer key (point m) p) → m == n ≡ false
nearer-other key p point m n e h = by (m == n) refl where
  by : (b : Bool) → m == n ≡ b → b ≡ false
  by true is =
      let same : point m ≡ p = ap point (eqb-true m n is) ∙ e in
      let P : ℕ → Type 0 = λ x. IsTrue (is_nearer key x p) in
      let own : IsTrue (is_nearer key p p) = subst P same h in
      sym own ∙ nearer-irreflexive (distance_of key p) p
  by false is = refl

goes_on-past : (key p q : ℕ) (qs : List ℕ) → IsTrue (is_nearer key q p) → IsTrue (goes_on_nearer key q qs) → IsTrue (goes_on_nearer key p qs)
goes_on-past key p q [] h k = refl
goes_on-past key p q (r ∷ rs) h k = nearer-transitive key r q p k h

-- every later node is another one
later_other : (key p : ℕ) (point : ℕ → ℕ) (n : ℕ) (ns : List ℕ) → point n ≡ p → IsTrue (goes_on_nearer key p (map point ns)) → IsTrue (is_chain key (map point ns)) → list_any (λ m. m == n) ns ≡ false
later_other key p point n [] e h k = refl
later_other key p point n (m ∷ ns) e h k =
    let other = nearer-other key p point m n e h in
    let on : IsTrue (goes_on_nearer key (point m) (map point ns)) = grind arith in
    let chain : IsTrue (is_chain key (map point ns)) = grind arith in
    rw other (later_other key p point n ns e (goes_on-past key p (point m) (map point ns) h on) chain)

pub chain_meets_none_twice : (key : ℕ) (point : ℕ → ℕ) (nodes : List ℕ) → IsTrue (is_chain key (map point nodes)) → IsTrue (meets_none_twice nodes)
chain_meets_none_twice key point [] h = refl
chain_meets_none_twice key point (n ∷ ns) h =
    let on : IsTrue (goes_on_nearer key (point n) (map point ns)) = grind arith in
    let chain : IsTrue (is_chain key (map point ns)) = grind arith in
    rw (later_other key (point n) point n ns refl on chain) (chain_meets_none_twice key point ns chain)
