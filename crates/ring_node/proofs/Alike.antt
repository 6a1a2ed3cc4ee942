-- Ranges and fences that are told as the same are the same.
use Rattle.std.proofs.Common.{◌≡◌, ℕ, ◌==◌, ◌&&◌, ◌||◌, not, List, [], ◌∷◌, Option, Some, None, true, refl}
use Rattle.std.proofs.lemmas.Bool.{and_parts, eqb-true}
use Rattle.ring_points.specs.declared.interval.Interval.{Interval}
use Rattle.join_phases.specs.Phases.{is_left}
use Rattle.ring_rules.specs.Owns.{same_fence, same_ranges}
use Rattle.ring_rules.specs.Slots.{fence_of}
use Rattle.ring_node.specs.declared.ownership.Owned.{Owned}
use Rattle.ring_node.specs.Nodes.{Node}
use Rattle.ring_node.specs.Owned.{owned_of, owns_same}

pub ranges_alike : (is js : List Interval) → same_ranges is js ≡ true → is ≡ js
ranges_alike [] [] h = refl
ranges_alike [] (j ∷ js) h = absurd (cc (h))
ranges_alike (i ∷ is) [] h = absurd (cc (h))
ranges_alike (i ∷ is) (j ∷ js) h =
    let both : ((i.lo == j.lo && i.hi == j.hi) ≡ true) × (same_ranges is js ≡ true) = and_parts (i.lo == j.lo && i.hi == j.hi) (same_ranges is js) h in
    let ends : (i.lo == j.lo ≡ true) × (i.hi == j.hi ≡ true) = and_parts (i.lo == j.lo) (i.hi == j.hi) both.0 in
    let rest : is ≡ js = ranges_alike is js both.1 in
    λ k. record { lo = eqb-true i.lo j.lo ends.0 k; hi = eqb-true i.hi j.hi ends.1 k } ∷ rest k

fences_alike : (a b : Option ℕ) → same_fence a b ≡ true → a ≡ b
fences_alike None None h = refl
fences_alike None (Some n) h = absurd (cc (h))
fences_alike (Some m) None h = absurd (cc (h))
fences_alike (Some m) (Some n) h = let e : m ≡ n = eqb-true m n h in λ k. Some (e k)

-- what is owned as before is what was owned, but for whether the node has left
pub owned_alike : (o : Owned) (n : Node) → owns_same o n ≡ true → record o { left = is_left n.ring.phase } ≡ owned_of n
owned_alike o n h =
    let fence = fence_of n.settings.answer n.ring.slots in
    let all : ((same_ranges o.ranges n.ring.token.ranges && same_fence o.fence fence) ≡ true) × ((o.left || not (is_left n.ring.phase)) ≡ true) = and_parts (same_ranges o.ranges n.ring.token.ranges && same_fence o.fence fence) (o.left || not (is_left n.ring.phase)) h in
    let both : (same_ranges o.ranges n.ring.token.ranges ≡ true) × (same_fence o.fence fence ≡ true) = and_parts (same_ranges o.ranges n.ring.token.ranges) (same_fence o.fence fence) all.0 in
    let ranges : o.ranges ≡ n.ring.token.ranges = ranges_alike o.ranges n.ring.token.ranges both.0 in
    let fences : o.fence ≡ fence = fences_alike o.fence fence both.1 in
    λ k. record { ranges = ranges k; fence = fences k; left = is_left n.ring.phase }
