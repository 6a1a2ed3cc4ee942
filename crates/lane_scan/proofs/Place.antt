-- The place of the nearest point is what the definition by recursion finds.
use Rattle.std.proofs.Common.{◌≡◌, ℕ, zero, suc, ◌<◌, Bool, true, false, List, [], ◌∷◌, length, Option, Some, None, MatchOption, refl, sym, subst, arith, get_or, if◌then◌else◌}
use Rattle.ring_points.specs.Distances.{distance_of, is_nearer}
use Rattle.lane_scan.specs.Nearest.{nearest_place, nearer_place, IsNearest, IsNearestPoint, IsFirst, FirstPlace, FindsTheNearest}
use Rattle.lane_scan.proofs.Distance.{before_total, before_none_itself, before_one_way, before_no_further}

inside_if : (b : Bool) (j i n : ℕ) → j < n → (if b then Some (suc j) else Some 0) ≡ Some i → i < suc n
inside_if true j i n h e = let same : suc j ≡ i = cc in omega arith
inside_if false j i n h e = let same : 0 ≡ i = cc in omega arith

inside_by : (key p : ℕ) (ps : List ℕ) (i : ℕ) (place : Option ℕ) → nearest_place key ps ≡ place → ((j : ℕ) → nearest_place key ps ≡ Some j → j < length ps) → nearer_place key p ps place ≡ Some i → i < length (p ∷ ps)
inside_by key p ps i None is later e = let same : 0 ≡ i = cc in omega arith
inside_by key p ps i (Some j) is later e = inside_if (is_nearer key (get_or ps j 0) p) j i (length ps) (later j is) e

-- the place found is one of the list
place_inside : (key : ℕ) (points : List ℕ) (i : ℕ) → nearest_place key points ≡ Some i → i < length points
place_inside key [] i e = absurd (cc)
place_inside key (p ∷ ps) i e = inside_by key p ps i (nearest_place key ps) refl (place_inside key ps) e

head_stays : (key p : ℕ) (ps : List ℕ) (place : Option ℕ) → nearest_place key ps ≡ place → ((k : ℕ) → k < length ps → is_nearer key (get_or ps k 0) p ≡ false) → nearer_place key p ps place ≡ Some 0
head_stays key p ps None is none = refl
head_stays key p ps (Some j) is none = rw (none j (place_inside key ps j is)) refl

pub place_is : (key : ℕ) (points : List ℕ) (i : ℕ) → IsNearest key points i → nearest_place key points ≡ Some i
place_is key [] i n = absurd (omega (arith, n.inside))
place_is key (p ∷ ps) zero n =
    head_stays key p ps (nearest_place key ps) refl (λ k inside. n.none (suc k) (omega arith))
place_is key (p ∷ ps) (suc i) n =
    let later : IsNearest key ps i = record { inside = omega (arith, n.inside); none = λ k inside. n.none (suc k) (omega arith); first = λ k before. n.first (suc k) (omega arith) } in
    let nearer : is_nearer key (get_or ps i 0) p ≡ true = n.first 0 (omega arith) in
    rw (place_is key ps i later, nearer) refl

pub nearest_at : (key : ℕ) (points : List ℕ) (point i : ℕ) → IsNearestPoint key points point → IsFirst point points i → IsNearest key points i
nearest_at key points point i n f = record {
  inside = f.inside;
  none = λ k inside. rw f.here (n.none k inside);
  first = λ k before. rw f.here (before_total (distance_of key point) point (distance_of key (get_or points k 0)) (get_or points k 0) (f.before k before) (n.none k (omega (arith, f.inside))));
}

pub nearest_found : (key : ℕ) (points : List ℕ) (point : ℕ) (place : Option ℕ) → IsNearestPoint key points point → FirstPlace point points place → place ≡ nearest_place key points
nearest_found key points point None n f = absurd (f n.place n.inside n.here)
nearest_found key points point (Some i) n f = sym (place_is key points i (nearest_at key points point i n f))

-- ---- the other way round: the recursion finds the nearest

none_itself : (key p : ℕ) → is_nearer key p p ≡ false
none_itself key p = before_none_itself (distance_of key p) p

one_only : (key p k : ℕ) → k < 1 → is_nearer key (get_or (p ∷ []) k 0) p ≡ false
one_only key p zero h = none_itself key p
one_only key p (suc k) h = absurd (omega arith)

-- the tail's nearest is nearer than the head
tail_first : (key p : ℕ) (ps : List ℕ) (i : ℕ) → IsNearest key ps i → is_nearer key (get_or ps i 0) p ≡ true → IsNearest key (p ∷ ps) (suc i)
tail_first key p ps i n test = record { inside = omega (arith, n.inside); none = none; first = first }
  where
    none : (k : ℕ) → k < suc (length ps) → is_nearer key (get_or (p ∷ ps) k 0) (get_or ps i 0) ≡ false
    none zero h = before_one_way (distance_of key (get_or ps i 0)) (get_or ps i 0) (distance_of key p) p test
    none (suc k) h = n.none k (omega arith)

    first : (k : ℕ) → k < suc i → is_nearer key (get_or ps i 0) (get_or (p ∷ ps) k 0) ≡ true
    first zero h = test
    first (suc k) h = n.first k (omega arith)

head_first : (key p : ℕ) (ps : List ℕ) (i : ℕ) → IsNearest key ps i → is_nearer key (get_or ps i 0) p ≡ false → IsNearest key (p ∷ ps) 0
head_first key p ps i n test = record { inside = omega arith; none = none; first = λ k h. absurd (omega arith) }
  where
    none : (k : ℕ) → k < suc (length ps) → is_nearer key (get_or (p ∷ ps) k 0) p ≡ false
    none zero h = none_itself key p
    none (suc k) h = before_no_further (distance_of key (get_or ps k 0)) (get_or ps k 0) (distance_of key (get_or ps i 0)) (get_or ps i 0) (distance_of key p) p (n.none k (omega arith)) test

chosen : (key p : ℕ) (ps : List ℕ) (i : ℕ) → IsNearest key ps i → (b : Bool) → is_nearer key (get_or ps i 0) p ≡ b → MatchOption (if b then Some (suc i) else Some 0) (p ∷ ps ≡ []) (IsNearest key (p ∷ ps))
chosen key p ps i n true test = tail_first key p ps i n test
chosen key p ps i n false test = head_first key p ps i n test

found_by : (key p : ℕ) (ps : List ℕ) (place : Option ℕ) → MatchOption place (ps ≡ []) (IsNearest key ps) → MatchOption (nearer_place key p ps place) (p ∷ ps ≡ []) (IsNearest key (p ∷ ps))
found_by key p ps None empty =
    let P : List ℕ → Type 0 = λ qs. IsNearest key (p ∷ qs) 0 in
    subst P (sym empty) (record { inside = omega arith; none = one_only key p; first = λ k h. absurd (omega arith) })
found_by key p ps (Some i) n = chosen key p ps i n (is_nearer key (get_or ps i 0) p) refl

pub finds_the_nearest : FindsTheNearest
finds_the_nearest key [] = refl
finds_the_nearest key (p ∷ ps) = found_by key p ps (nearest_place key ps) (finds_the_nearest key ps)
