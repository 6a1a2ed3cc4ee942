-- The nodes with their loads, in two steps or in one.
use Rattle.std.proofs.Common.{◌≡◌, ℕ, zero, suc, ◌+◌, ◌<◌, ◌≤◌, List, [], ◌∷◌, length, set, get_or, add-one, refl, ap, map, arith}
use Rattle.failover_units.specs.Units.{Table, load_of}
use Rattle.replica_place.specs.declared.load.NodeLoad.{NodeLoad}
use Rattle.ring_rules.specs.Rings.{Ring}
use Rattle.ring_rules.specs.Up.{long_ago}
use Rattle.unit_rules.specs.Loads.{Site, load_at, loads}
use Rattle.unit_manager.specs.Laws.{unloaded, unloaded_at}
use Rattle.unit_manager.specs.Managers.{load_node, loaded}

in_one : (since : ℕ) (r : Ring) (units : Table) (ns : List (ℕ × ℕ)) → loaded units (map (unloaded_at since r) ns) ≡ map (load_at since r units) ns
in_one since r units [] = refl
in_one since r units (n ∷ ns) = ap (λ (ls : List NodeLoad). load_at since r units n ∷ ls) (in_one since r units ns)

pub loads_are : (c : Site) (now : ℕ) (r : Ring) (units : Table) → loaded units (unloaded c now r) ≡ loads c now r units
loads_are c now r units = in_one (long_ago now c.ring.lease) r units c.domains

-- A load is by the node alone, so loading again changes nothing.
pub loaded_again : (units : Table) (ns : List NodeLoad) → loaded units (loaded units ns) ≡ loaded units ns
loaded_again units [] = refl
loaded_again units (n ∷ ns) = ap (λ (ls : List NodeLoad). load_node units n ∷ ls) (loaded_again units ns)

-- The first so many are loaded already.

pub loaded_to : Table → ℕ → List NodeLoad → List NodeLoad
loaded_to units i [] = []
loaded_to units zero (n ∷ ns) = n ∷ ns
loaded_to units (suc i) (n ∷ ns) = load_node units n ∷ loaded_to units i ns

loaded_next : (units : Table) (xs : List NodeLoad) (i : ℕ) (d : NodeLoad) → i < length xs
    → set (loaded_to units i xs) i (load_node units (get_or (loaded_to units i xs) i d)) ≡ loaded_to units (suc i) xs
unfolding loaded_to
loaded_next units [] i d inside = absurd (omega arith)
loaded_next units (x ∷ []) zero d inside = refl
loaded_next units (x ∷ y ∷ xs) zero d inside = refl
loaded_next units (x ∷ xs) (suc i) d inside = ap (λ (ls : List NodeLoad). load_node units x ∷ ls) (loaded_next units xs i d (omega (arith, inside)))

pub loaded_more : (units : Table) (xs now : List NodeLoad) (i : ℕ) (d : NodeLoad) (r : ℕ) → i < length xs → now ≡ loaded_to units i xs
    → r ≡ load_of (get_or now i d).node units → set now i (record (get_or now i d) { load = r }) ≡ loaded_to units (i + 1) xs
loaded_more units xs now i d r inside is load = rw (load, is, add-one) (loaded_next units xs i d inside)

pub loaded_all : (units : Table) (xs : List NodeLoad) (i : ℕ) → length xs ≤ i → loaded_to units i xs ≡ loaded units xs
unfolding loaded_to
loaded_all units [] i end = refl
loaded_all units (x ∷ xs) zero end = absurd (omega (arith, end))
loaded_all units (x ∷ xs) (suc i) end = ap (λ (ls : List NodeLoad). load_node units x ∷ ls) (loaded_all units xs i (omega (arith, end)))

pub loaded_none : (units : Table) (xs : List NodeLoad) → xs ≡ loaded_to units 0 xs
unfolding loaded_to
loaded_none units [] = refl
loaded_none units (x ∷ xs) = refl
