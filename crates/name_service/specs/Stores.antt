-- How the names are stored: by their places, in the order of these.
use Rattle.std.specs.Prelude.{◌≡◌, ℕ, ◌+◌, ◌*◌, ◌==◌, ◌<◌, ◌≤◌, ◌↔◌, IsTrue, Bool, true, false, List, [], ◌∷◌, ◌++◌, length, map, slice_index, Vec}
use Rattle.std.specs.List.{AllByRecursion}
use Rattle.std.specs.FinMap.{is_sorted}
use Rattle.std.specs.declared.alloc.Global.{Global}
use Rattle.lane_scan.specs.Masks.{bit_of, is_between}
use Rattle.ring_points.specs.declared.interval.Interval.{Interval}
use Rattle.name_rules.specs.Grammar.{is_name}
use Rattle.name_rules.specs.Names.{name_cmp, point_of}
use Rattle.name_rules.specs.Rows.{Rows}
use Rattle.name_service.specs.declared.name_key.NameKey.{NameKey}

-- the names of rows
abbrev pub names_in : Rows → List (List ℕ)
names_in rows = map (λ r. r.0) rows

-- the place of these bytes
pub record IsPlaceOf (name : List ℕ) (place : NameKey) : Type 0 where
  pub point : place.point ≡ point_of name
  pub bytes : place.name.items ≡ name

-- the place of a name
pub record IsPlaced (place : NameKey) : Type 0 where
  pub point : place.point ≡ point_of place.name.items
  pub name : is_name place.name.items ≡ true

-- values by places, as they are stored
abbrev pub Stored : Type 0
Stored = List (NameKey × Vec ℕ Global)

abbrev pub rows_of : Stored → Rows
rows_of stored = map (λ e. (e.0.name.items, e.1.items)) stored

abbrev pub points_in : Stored → List ℕ
points_in stored = map (λ e. e.0.point) stored

abbrev pub AllPlaced : Stored → Type 0
AllPlaced stored = AllByRecursion (λ e. IsPlaced e.0) stored

-- the rows rise, and stand at the places of their names
pub record IsStore (stored : Stored) : Type 0 where
  pub rises : is_sorted name_cmp (rows_of stored) ≡ true
  pub placed : AllPlaced stored

-- bits of a word
abbrev pub word_bits : ℕ
word_bits = 64

-- the mask has a bit for each point, and it is 1 for those in the range
pub record Marks (range : Interval) (points mask : List ℕ) : Type 0 where
  pub room : length points ≤ word_bits * length mask
  pub each : (i : ℕ) → i < length points → (bit_of mask i ≡ 1) ↔ IsTrue (is_between range.lo range.hi (slice_index points i))

-- the name, where the test says so
abbrev pub name_if : Bool → List ℕ → List (List ℕ)
name_if true name = name ∷ []
name_if false name = []

-- the names that the mask marks, of names that begin at its bit number i
abbrev pub marked : List ℕ → ℕ → List (List ℕ) → List (List ℕ)
marked mask i [] = []
marked mask i (n ∷ ns) = name_if (bit_of mask i == 1) n ++ marked mask (i + 1) ns
