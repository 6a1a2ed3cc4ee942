-- The names that a log leaves, and where they are on the ring.
use Rattle.std.specs.Prelude.{ℕ, ◌*◌, ◌%◌, ◌^◌, bit_xor, Bool, List, [], ◌∷◌, filter, take, Option, Some, None}
use Rattle.std.specs.Cmp.Lexicographic.{slice_cmp}
use Rattle.std.specs.FinMap.{FinMap, empty, insert, remove, keys}
use Rattle.std.specs.Ordering.{nat_cmp, ordering_then}
use Rattle.std.specs.declared.cmp.Ordering.{Ordering}
use Rattle.ring_points.specs.Limits.{most_listed_names}
use Rattle.lane_scan.specs.Masks.{is_between}
use Rattle.replica_core.specs.declared.entry.Entry.{Entry}
use Rattle.ring_points.specs.declared.interval.Interval.{Interval}
use Rattle.name_rules.specs.Grammar.{Change, Sets, Deletes, change_of}

-- the point of a name: each byte in turn is mixed into it, by xor and a product modulo 2^64
abbrev pub mixed : ℕ → ℕ → ℕ
mixed h b = (bit_xor h b * 1099511628211) % (2 ^ 64)

abbrev pub mixed_with : ℕ → List ℕ → ℕ
mixed_with h [] = h
mixed_with h (b ∷ bs) = mixed_with (mixed h b) bs

unfoldable pub point_of : List ℕ → ℕ
point_of name = mixed_with 14695981039346656037 name

-- the order of names: by their points, then by their bytes
abbrev pub name_cmp : List ℕ → List ℕ → Ordering
name_cmp a b = ordering_then (nat_cmp (point_of a) (point_of b)) (slice_cmp nat_cmp a b)

-- names with their values, in that order
abbrev pub NameMap : Type 0
NameMap = FinMap name_cmp (List ℕ)

abbrev pub changed : Option Change → NameMap → NameMap
changed None names = names
changed (Some (Sets name value)) names = insert names name value
changed (Some (Deletes name)) names = remove names name

-- the names after one more entry
abbrev pub applied : Entry → NameMap → NameMap
applied entry names = changed (change_of entry.bytes) names

-- the names that entries leave, one after another
abbrev pub names_from : NameMap → List Entry → NameMap
names_from names [] = names
names_from names (e ∷ es) = names_from (applied e names) es

abbrev pub names_of : List Entry → NameMap
names_of entries = names_from empty entries

abbrev pub is_within : Interval → List ℕ → Bool
is_within range name = is_between range.lo range.hi (point_of name)

-- the first names with points in the range, as many as an answer lists
abbrev pub name_list : NameMap → Interval → List (List ℕ)
name_list names range = take most_listed_names (filter (is_within range) (keys names))
