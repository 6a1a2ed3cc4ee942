-- Entries are no more than the configured nodes, and hearing a node keeps them.
use Rattle.std.proofs.Common.{◌≡◌, ℕ, ◌+◌, ◌<◌, ◌≤◌, ◌==◌, ◌||◌, Bool, true, false, cond, List, [], ◌∷◌, length, refl, ap, ◌∙◌, arith, IsTrue, eqb-true, nat_le}
use Rattle.std.specs.Prelude.{count_by}
use Rattle.std.proofs.lemmas.List.Sums.{sum_by-cons, count_by-le-length}
use Rattle.std.proofs.lemmas.Bool.Decides.{nat_tests}
use Rattle.ring_points.specs.declared.who.Who.{Who}
use Rattle.ring_route.specs.declared.known.Known.{Known}
use Rattle.ring_route.specs.Entries.{is_node, is_known, are_entries}
use Rattle.ring_route.specs.Routes.{point_of, heard_in, heard_again}

abbrev count : (ℕ → Bool) → List (ℕ × ℕ) → ℕ
count q points = count_by (λ p. q p.0) points

count-cons : (q : ℕ → Bool) (p : ℕ × ℕ) (ps : List (ℕ × ℕ)) → count q (p ∷ ps) ≡ cond (q p.0) 1 0 + count q ps
count-cons q p ps = sum_by-cons (λ x. cond (q x.0) 1 0) p ps

count-or : (q : ℕ → Bool) (a : ℕ) (ps : List (ℕ × ℕ)) → count q ps ≤ count (λ n. a == n || q n) ps
count-or q a [] = omega arith
count-or q a (p ∷ ps) =
    let later = count-or q a ps in let one = count-cons q p ps in let other = count-cons (λ n. a == n || q n) p ps in
    grind (arith, nat_tests, later, one, other)

count-more-by : (q : ℕ → Bool) (a : ℕ) (p : ℕ × ℕ) (ps : List (ℕ × ℕ)) → q a ≡ false → (is_node a ps ≡ true → count q ps + 1 ≤ count (λ n. a == n || q n) ps) → (b : Bool) → p.0 == a ≡ b → is_node a (p ∷ ps) ≡ true → count q (p ∷ ps) + 1 ≤ count (λ n. a == n || q n) (p ∷ ps)
count-more-by q a p ps off-a later true is h =
    let off : q p.0 ≡ false = ap q (eqb-true p.0 a is) ∙ off-a in
    let rest = count-or q a ps in let one = count-cons q p ps in let other = count-cons (λ n. a == n || q n) p ps in
    let on : a == p.0 ≡ true = grind (arith, nat_tests) in
    grind (arith, nat_tests, rest, one, other, off, on)
count-more-by q a p ps off-a later false is h =
    let there : is_node a ps ≡ true = rw is at h in
    let rest = later there in let one = count-cons q p ps in let other = count-cons (λ n. a == n || q n) p ps in
    grind (arith, nat_tests, rest, one, other)

count-more : (q : ℕ → Bool) (a : ℕ) (ps : List (ℕ × ℕ)) → q a ≡ false → is_node a ps ≡ true → count q ps + 1 ≤ count (λ n. a == n || q n) ps
count-more q a [] off-a h = absurd (cc)
count-more q a (p ∷ ps) off-a h = count-more-by q a p ps off-a (count-more q a ps off-a) (p.0 == a) refl h

few : (points : List (ℕ × ℕ)) (known : List Known) → IsTrue (are_entries points known) → length known ≤ count (λ n. is_known n known) points
few points [] h = omega arith
few points (k ∷ ks) h =
    let there : is_node k.who.actor points ≡ true = grind arith in
    let new : is_known k.who.actor ks ≡ false = grind arith in
    let rest = few points ks (grind arith) in
    let more = count-more (λ n. is_known n ks) k.who.actor points new there in
    omega arith

-- where a configured node is not known, there is room for it
pub room_for_node : (points : List (ℕ × ℕ)) (known : List Known) (node : ℕ) → IsTrue (are_entries points known) → is_node node points ≡ true → is_known node known ≡ false → length known < length points
room_for_node points known node h there new =
    let rest = few points known h in
    let more = count-more (λ n. is_known n known) node points new there in
    omega (arith, count_by-le-length (λ (p : ℕ × ℕ). node == p.0 || is_known p.0 known) points)

known_again : (who : Who) (now a : ℕ) (k : Known) (ks : List Known) → k.who.actor == who.actor ≡ true → (b : Bool) → nat_le k.who.instance who.instance ≡ b → is_known a (heard_again who now k ∷ ks) ≡ is_known a (k ∷ ks)
known_again who now a k ks same true le = rw (le, eqb-true k.who.actor who.actor same) refl
known_again who now a k ks same false le = rw le refl

-- the nodes that are known afterwards
known_heard-by : (who : Who) (point now a : ℕ) (k : Known) (ks : List Known) → is_known a (heard_in who point now ks) ≡ (is_known a ks || who.actor == a) → (b : Bool) → k.who.actor == who.actor ≡ b → is_known a (heard_in who point now (k ∷ ks)) ≡ (is_known a (k ∷ ks) || who.actor == a)
known_heard-by who point now a k ks later true is =
    let again = known_again who now a k ks is (nat_le k.who.instance who.instance) refl in
    let same : k.who.actor ≡ who.actor = eqb-true k.who.actor who.actor is in
    let one : k.who.actor == a ≡ who.actor == a = ap (λ (n : ℕ). n == a) same in
    rw is (again ∙ either (k.who.actor == a) (who.actor == a) (is_known a ks) one)
  where
    either : (x y z : Bool) → x ≡ y → (x || z) ≡ (x || z || y)
    either true y z e = refl
    either false y z e = rw (← e) (grind arith)
known_heard-by who point now a k ks later false is = rw (is, later) (grind arith)

known_heard : (who : Who) (point now a : ℕ) (ks : List Known) → is_known a (heard_in who point now ks) ≡ (is_known a ks || who.actor == a)
known_heard who point now a [] = grind arith
known_heard who point now a (k ∷ ks) = known_heard-by who point now a k ks (known_heard who point now a ks) (k.who.actor == who.actor) refl

entry_again : (points : List (ℕ × ℕ)) (who : Who) (now : ℕ) (k : Known) (ks : List Known) → k.who.actor == who.actor ≡ true → (b : Bool) → nat_le k.who.instance who.instance ≡ b → are_entries points (heard_again who now k ∷ ks) ≡ are_entries points (k ∷ ks)
entry_again points who now k ks same true le = rw (le, eqb-true k.who.actor who.actor same) refl
entry_again points who now k ks same false le = rw le refl

entries_heard-by : (points : List (ℕ × ℕ)) (who : Who) (now : ℕ) (k : Known) (ks : List Known) → (IsTrue (are_entries points ks) → IsTrue (are_entries points (heard_in who (point_of who.actor points) now ks))) → (b : Bool) → k.who.actor == who.actor ≡ b → IsTrue (are_entries points (k ∷ ks)) → IsTrue (are_entries points (heard_in who (point_of who.actor points) now (k ∷ ks)))
entries_heard-by points who now k ks later true is h = rw is (entry_again points who now k ks is (nat_le k.who.instance who.instance) refl ∙ h)
entries_heard-by points who now k ks later false is h =
    let kept : IsTrue (are_entries points ks) = grind arith in
    let rest = later kept in
    let nodes = known_heard who (point_of who.actor points) now k.who.actor ks in
    let other : who.actor == k.who.actor ≡ false = grind (arith, nat_tests) in
    rw is (grind (arith, rest, nodes, other))

pub entries_heard : (points : List (ℕ × ℕ)) (who : Who) (now : ℕ) (ks : List Known) → is_node who.actor points ≡ true → IsTrue (are_entries points ks) → IsTrue (are_entries points (heard_in who (point_of who.actor points) now ks))
entries_heard points who now [] there h = rw there (grind (arith, nat_tests))
entries_heard points who now (k ∷ ks) there h = entries_heard-by points who now k ks (entries_heard points who now ks there) (k.who.actor == who.actor) refl h
