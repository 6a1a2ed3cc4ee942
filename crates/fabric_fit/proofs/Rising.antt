-- Nodes in rising order: as many, the same ones, and each once.
use Rattle.std.proofs.Common.{◌≡◌, ◌≢◌, ℕ, ◌+◌, ◌<◌, ◌≤◌, true, false, ◌&&◌, List, [], ◌∷◌, length, IsTrue, refl, arith}
use Rattle.std.specs.Prelude.{◌==◌, All, AllPairs, nat_le, nat_lt}
use Rattle.std.proofs.lemmas.Bool.{and_from, and_parts, cond_both, eq-eqb, le-leb, lt-ltb, ltb-false, or_left, or_right}
use Rattle.std.proofs.lemmas.List.Elements.{All-cons, All-head, All-tail}
use Rattle.fabric_lemmas.proofs.SortedLists.{AllPairs-head, AllPairs-tail}
use Rattle.fabric_terms.specs.Fields.{is_node, rises_above}
use Rattle.frames_fit.proofs.Facts.{within_parts}
use Rattle.ring_rules.specs.Rising.{put, rising}
use Rattle.unit_rules.specs.Choices.{is_among}
use Rattle.unit_rules.specs.Transitions.{first_of}

-- One more number.

length-put : (n : ℕ) (ms : List ℕ) → length (put n ms) ≡ length ms + 1
length-put n [] = refl
length-put n (m ∷ ms) =
    cond_both (nat_lt n m) (n ∷ m ∷ ms) (m ∷ put n ms) (λ ns. length ns ≡ length (m ∷ ms) + 1) (λ f. omega arith)
    (λ f. omega (arith, length-put n ms))

put_all : (P : ℕ → Type 0) (n : ℕ) (ms : List ℕ) → P n → All P ms → All P (put n ms)
put_all P n [] h k = All-cons P n [] h k
put_all P n (m ∷ ms) h k =
    cond_both (nat_lt n m) (n ∷ m ∷ ms) (m ∷ put n ms) (All P) (λ f. All-cons P n (m ∷ ms) h k)
    (λ f. All-cons P m (put n ms) (All-head P m ms k) (put_all P n ms h (All-tail P m ms k)))

put_among : (n : ℕ) (ms : List ℕ) → is_among n (put n ms) ≡ true
put_among n [] = or_left (n == n) false (eq-eqb n n refl)
put_among n (m ∷ ms) =
    cond_both (nat_lt n m) (n ∷ m ∷ ms) (m ∷ put n ms) (λ ns. is_among n ns ≡ true) (λ f. or_left (n == n) (is_among n (m ∷ ms)) (eq-eqb n n refl))
    (λ f. or_right (m == n) (is_among n (put n ms)) (put_among n ms))

put_rises : (below n : ℕ) (ms : List ℕ) → below < n → n ≤ 999 → All (λ m. n ≢ m) ms → rises_above below ms ≡ true → rises_above below (put n ms) ≡ true
put_rises below n [] h k other rises = and_from (nat_lt below n && nat_le n 999) true (and_from (nat_lt below n) (nat_le n 999) (lt-ltb below n h) (le-leb n 999 k)) refl
put_rises below n (m ∷ ms) h k other rises =
    let parts = and_parts (nat_lt below m && nat_le m 999) (rises_above m ms) rises in
    let ends = and_parts (nat_lt below m) (nat_le m 999) parts.0 in
    let apart = All-head (λ m. n ≢ m) m ms other in
    cond_both (nat_lt n m) (n ∷ m ∷ ms) (m ∷ put n ms) (λ ns. rises_above below ns ≡ true)
    (λ f. and_from (nat_lt below n && nat_le n 999) ((nat_lt n m && nat_le m 999) && rises_above m ms)
    (and_from (nat_lt below n) (nat_le n 999) (lt-ltb below n h) (le-leb n 999 k))
    (and_from (nat_lt n m && nat_le m 999) (rises_above m ms) (and_from (nat_lt n m) (nat_le m 999) f ends.1) parts.1))
    (λ f. let not_below = ltb-false n m f in
    and_from (nat_lt below m && nat_le m 999) (rises_above m (put n ms)) parts.0
    (put_rises m n ms (omega arith) k (All-tail (λ m. n ≢ m) m ms other) parts.1))

-- All numbers of a list.

pub length-rising : (ns : List ℕ) → length (rising ns) ≡ length ns
length-rising [] = refl
length-rising (n ∷ ns) = omega (arith, length-put n (rising ns), length-rising ns)

rising_all : (P : ℕ → Type 0) (ns : List ℕ) → All P ns → All P (rising ns)
rising_all P [] h = h
rising_all P (n ∷ ns) h = put_all P n (rising ns) (All-head P n ns h) (rising_all P ns (All-tail P n ns h))

pub rising_rises : (ns : List ℕ) → All (λ n. IsTrue (is_node n)) ns → AllPairs (λ a b. a ≢ b) ns → rises_above 0 (rising ns) ≡ true
rising_rises [] h apart = refl
rising_rises (n ∷ ns) h apart =
    let within = within_parts 1 999 n (All-head (λ n. IsTrue (is_node n)) n ns h) in
    let low : 1 ≤ n = within.0 in
    put_rises 0 n (rising ns) (omega arith) within.1 (rising_all (λ m. n ≢ m) ns (AllPairs-head (λ a b. a ≢ b) n ns apart))
    (rising_rises ns (All-tail (λ n. IsTrue (is_node n)) n ns h) (AllPairs-tail (λ a b. a ≢ b) n ns apart))

pub first_among : (ns : List ℕ) → 1 ≤ length ns → is_among (first_of ns) (rising ns) ≡ true
first_among [] h = absurd (omega arith)
first_among (n ∷ ns) h = put_among n (rising ns)
