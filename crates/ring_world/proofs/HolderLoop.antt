-- A loop over the clocks and their nodes gathers those that hold a point.
use Rattle.std.proofs.Common.{◌≡◌, ℕ, ◌+◌, ◌≤◌, ◌<◌, Bool, true, false, cond, List, [], ◌∷◌, ◌++◌, Bor, refl, sym, ap, ◌∙◌, arith, length, take, get_or, min}
use Rattle.std.specs.Prelude.{filter, map}
use Rattle.std.specs.List.{zip}
use Rattle.std.proofs.lemmas.List.{length-append, length-map, length-take, map-append, take_all, take_more}
use Rattle.std.proofs.lemmas.List.Elements.{filter-append}
use Rattle.std.proofs.lemmas.List.Sums.{count_by-le-length, length-filter}
use Rattle.std.proofs.lemmas.Slice.Zip.{get_or-zip, length-zip}
use Rattle.point_places.specs.declared.unheld.Holder.{Holder}
use Rattle.node_core.specs.Nodes.{Core}
use Rattle.ring_points.specs.declared.who.Who.{Who}
use Rattle.ring_world.specs.Holders.{held_now}
use Rattle.point_places.specs.Holders.{is_some_range}
use Rattle.ring_world.specs.declared.running.Running.{Running}
use Rattle.ring_world.proofs.Holders.{Clocked, holder_here, holders_here, holds_some}

-- the pair at a place of two lists
pub record IsNext {A B : Type 0} (ks : List A) (vs : List B) (n : ℕ) (k : A × B) : Type 0 where
  pub within : n < length (zip ks vs)
  pub item : get_or (zip ks vs) n k ≡ k

-- what a turn of the loop has, and what its end has seen
module _ {A B : Type 0} (ks : List A) (vs : List B) (xs : List (Bor A × Bor B)) where
  pub is_next : (p : Bor A × Bor B) → (length xs < length ks) × (length xs < length vs) × ((d : A) → p.0.now ≡ get_or ks (length xs) d) × ((d : B) → p.1.now ≡ get_or vs (length xs) d) → IsNext ks vs (length xs) (p.0.now, p.1.now)
  is_next p h =
      let long = length-zip ks vs in
      record {
        within = omega arith;
        item = get_or-zip ks vs (length xs) (p.0.now, p.1.now) h.0 h.1 ∙ (λ i. (sym (h.2 p.0.now) i, sym (h.3 p.1.now) i));
      }

  pub all_seen : length xs ≡ min (length ks) (length vs) → take (length xs) (zip ks vs) ≡ zip ks vs
  all_seen e = let long = length-zip ks vs in take_all (length xs) (zip ks vs) (omega arith)

module _ (ks : List (Who × ℕ)) (vs : List Running) (n m : ℕ) (k : Clocked) (one : m ≡ n + 1) (next : IsNext ks vs n k) where
  abbrev so_far : List Holder
  so_far = holders_here (take n (zip ks vs))

  -- one more pair: it is a holder if it holds something
  more : holders_here (take m (zip ks vs)) ≡ so_far ++ filter holds_some (holder_here k ∷ [])
  more =
      ap (λ j. holders_here (take j (zip ks vs))) one
      ∙ (ap holders_here (take_more (zip ks vs) n k next.within ∙ ap (λ x. take n (zip ks vs) ++ x ∷ []) next.item)
      ∙ (ap (filter holds_some) (map-append holder_here (take n (zip ks vs)) (k ∷ []))
      ∙ filter-append holds_some (map holder_here (take n (zip ks vs))) (holder_here k ∷ [])))

  module _ (node : Core) (same : node ≡ k.1.node.value) where
    -- a list that has the holders so far, and then this one
    pub gathered : (items new : List Holder) → items ≡ so_far → new ≡ items ++ filter holds_some (record { who = k.0.0; ranges = held_now k.0.1 node } ∷ [])
        → new ≡ holders_here (take m (zip ks vs))
    gathered items new before added =
        added
        ∙ (ap (λ x. x ++ filter holds_some (record { who = k.0.0; ranges = held_now k.0.1 node } ∷ [])) before
        ∙ (ap (λ x. so_far ++ filter holds_some (record { who = k.0.0; ranges = held_now k.0.1 x } ∷ [])) same ∙ sym more))

    -- how many they are then
    pub counted : (b : Bool) → b ≡ is_some_range (held_now k.0.1 node) → length (holders_here (take m (zip ks vs))) ≡ length so_far + cond b 1 0
    counted b e =
        ap length more
        ∙ (length-append so_far (filter holds_some (holder_here k ∷ []))
        ∙ ap (λ j. length so_far + j) (by_test (holds_some (holder_here k)) ∙ ap (λ t. cond t 1 0) (sym (e ∙ ap (λ x. is_some_range (held_now k.0.1 x)) same))))
      where
        by_test : (t : Bool) → length (cond t (holder_here k ∷ []) []) ≡ cond t 1 0
        by_test true = refl
        by_test false = refl

-- they are no more than the clocks
pub no_more : (ks : List (Who × ℕ)) (vs : List Running) (n : ℕ) → length (holders_here (take n (zip ks vs))) ≤ length ks
no_more ks vs n =
    let kept = length-filter holds_some (map holder_here (take n (zip ks vs))) in
    let few = count_by-le-length holds_some (map holder_here (take n (zip ks vs))) in
    let mapped = length-map (take n (zip ks vs)) holder_here in
    let taken = length-take n (zip ks vs) in
    let long = length-zip ks vs in
    omega arith
