-- What holds of chains of hops.
use Rattle.std.specs.Prelude.{ℕ, Bool, true, not, ◌&&◌, List, [], ◌∷◌, ◌==◌, map, IsTrue}
use Rattle.std.specs.List.{list_any}
use Rattle.ring_points.specs.Distances.{is_nearer}

abbrev pub goes_on_nearer : ℕ → ℕ → List ℕ → Bool
goes_on_nearer key p [] = true
goes_on_nearer key p (q ∷ qs) = is_nearer key q p

-- each point is strictly nearer to the key than the one before
abbrev pub is_chain : ℕ → List ℕ → Bool
is_chain key [] = true
is_chain key (p ∷ ps) = goes_on_nearer key p ps && is_chain key ps

abbrev pub meets_none_twice : List ℕ → Bool
meets_none_twice [] = true
meets_none_twice (n ∷ ns) = not (list_any (λ m. m == n) ns) && meets_none_twice ns

-- a chain of hops, each to a node whose point is strictly nearer, meets no node twice
abbrev pub ChainsEnd : Type 0
ChainsEnd = (key : ℕ) (point : ℕ → ℕ) (nodes : List ℕ) → IsTrue (is_chain key (map point nodes)) → IsTrue (meets_none_twice nodes)
