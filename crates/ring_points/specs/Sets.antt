-- The list of a set that is made from others. Each of these computes; the laws say which points are in it.
use Rattle.std.specs.Prelude.{ℕ, ◌+◌, ◌-◌, ◌/◌, ◌%◌, ◌^◌, Bool, true, false, ◌&&◌, List, [], ◌∷◌, ◌++◌, nat_lt, nat_le, max, min, if◌then◌else◌}
use Rattle.ring_points.specs.declared.interval.Interval.{Interval}
use Rattle.ring_points.specs.Distances.{ahead_of}

-- the points from lo to hi, if there are any
abbrev pub span : ℕ → ℕ → List Interval
span lo hi = if nat_le lo hi then record { lo = lo; hi = hi } ∷ [] else []

abbrev pub meet_with : Interval → List Interval → List Interval
meet_with i [] = []
meet_with i (j ∷ js) = span (max i.lo j.lo) (min i.hi j.hi) ++ meet_with i js

-- the points that are in both
abbrev pub meet_of : List Interval → List Interval → List Interval
meet_of [] js = []
meet_of (i ∷ is) js = meet_with i js ++ meet_of is js

-- i without j, where they overlap or not
abbrev pub cut_at : Interval → Interval → Bool → List Interval
cut_at i j true = (if nat_lt i.lo j.lo then span i.lo (j.lo - 1) else []) ++ span (j.hi + 1) i.hi
cut_at i j false = i ∷ []

abbrev pub cut_all : List Interval → Interval → List Interval
cut_all [] j = []
cut_all (i ∷ is) j = cut_at i j (nat_le i.lo j.hi && nat_le j.lo i.hi) ++ cut_all is j

-- the points of the first that are not in the second
abbrev pub minus_of : List Interval → List Interval → List Interval
minus_of is [] = is
minus_of is (j ∷ js) = minus_of (cut_all is j) js

-- the points from lo to hi among these, joined with what they touch
abbrev pub join : ℕ → ℕ → List Interval → List Interval
join lo hi [] = record { lo = lo; hi = hi } ∷ []
join lo hi (x ∷ xs) =
    elim (nat_lt (hi + 1) x.lo) [
      | true ↦ record { lo = lo; hi = hi } ∷ x ∷ xs
      | false ↦ elim (nat_lt (x.hi + 1) lo) [ true ↦ x ∷ join lo hi xs | false ↦ join (min lo x.lo) (max hi x.hi) xs ]
    ]

-- the points that are in one of the two
abbrev pub union_of : List Interval → List Interval → List Interval
union_of is [] = is
union_of is (j ∷ js) = union_of (join j.lo j.hi is) js

-- from the point lo upwards to the point hi, maybe across 0
abbrev pub arc : ℕ → ℕ → List Interval
arc lo hi = if nat_le lo hi then span lo hi else span 0 hi ++ span lo (2 ^ 64 - 1)

-- the points that are nearer to a point d ahead of mine; where the distances are equal, the lower point has them
abbrev pub nearer_from : ℕ → ℕ → Bool → List Interval
nearer_from mine d true = arc ((mine + (d + 1) / 2) % 2 ^ 64) ((mine + (2 ^ 64 + d) / 2) % 2 ^ 64)
nearer_from mine d false = arc ((mine + (d / 2 + 1)) % 2 ^ 64) ((mine + (2 ^ 64 + d - 1) / 2) % 2 ^ 64)

abbrev pub nearer_arc : ℕ → ℕ → List Interval
nearer_arc mine other = nearer_from mine (ahead_of other mine) (nat_lt other mine)

-- the points that are nearer to other than to mine
abbrev pub nearer_part_of : List Interval → ℕ → ℕ → List Interval
nearer_part_of is mine other = meet_of is (nearer_arc mine other)
