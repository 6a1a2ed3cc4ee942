-- The first names of a range, among rows that rise: they stand in a window of as many rows as an answer has names.
use Rattle.std.proofs.Common.{◌≡◌, ◌⊎◌, inl, inr, ℕ, zero, suc, ◌<◌, ◌≤◌, ◌&&◌, Bool, true, false, cond, List, [], ◌∷◌, filter, length, map, take, nat_le, arith, refl, ap, sym, subst, ◌∙◌}
use Rattle.std.specs.BTreeMap.Range.{entries_between}
use Rattle.std.specs.declared.ops.Bound.TheVariants.{Included, Unbounded}
use Rattle.std.proofs.lemmas.Bool.Decides.{nat_tests}
use Rattle.std.proofs.lemmas.Bool.{cases_lt, leb-true}
use Rattle.std.proofs.lemmas.List.{take-map, take_all}
use Rattle.std.specs.Cmp.Lexicographic.{slice_cmp}
use Rattle.std.specs.Prelude.{Vec}
use Rattle.std.specs.FinMap.{is_sorted}
use Rattle.std.specs.declared.alloc.Global.{Global}
use Rattle.std.specs.FinMap.Entries.{below_all, where_key}
use Rattle.std.specs.Ordering.{is_le, is_lt, nat_cmp, ordering_then}
use Rattle.std.specs.declared.cmp.Ordering.{Ordering}
use Rattle.ring_points.specs.Limits.{most_listed_names}
use Rattle.ring_points.specs.declared.interval.Interval.{Interval}
use Rattle.name_rules.specs.Names.{is_within, name_cmp, name_list, point_of}
use Rattle.name_rules.specs.Rows.{Rows, map_of}
use Rattle.name_service.specs.Stores.{AllPlaced, IsPlaced, IsStore, Marks, Stored, marked, names_in, points_in, rows_of}
use Rattle.name_service.specs.declared.name_key.NameKey.{NameKey}
use Rattle.name_service.proofs.Keys.{place_cmp}
use Rattle.name_service.proofs.Listed.{marked_in, take-none}
use Rattle.name_rules.proofs.Places.{first, second}
use Rattle.name_rules.proofs.Ordered.{entries_are, rises-kept}

-- what the tests of points say

above : (a b : ℕ) (o : Ordering) → is_lt (ordering_then (nat_cmp a b) o) ≡ true → a ≤ b
above a b o h = grind (arith, nat_tests)

at_or_above : (a b : ℕ) (o : Ordering) → is_le o ≡ true → (is_le (ordering_then (nat_cmp a b) o) && true) ≡ nat_le a b
at_or_above a b o h = grind (arith, nat_tests)

nothing_first : (bytes : List ℕ) → is_le (slice_cmp nat_cmp [] bytes) ≡ true
nothing_first [] = refl
nothing_first (b ∷ bs) = refl

-- the points of names in their order rise
no_lower : (a b : List ℕ) → is_lt (name_cmp a b) ≡ true → point_of a ≤ point_of b
no_lower a b less = above (point_of a) (point_of b) (slice_cmp nat_cmp a b) less

-- whether the point of a name is at or behind the first one
abbrev from : ℕ → List ℕ → Bool
from lo name = nat_le lo (point_of name)

-- the rows from the first place of a point on

tested : (first : NameKey) (place : NameKey) → first.name.items ≡ [] → IsPlaced place → (is_le (place_cmp first place) && true) ≡ from first.point place.name.items
tested first place none is =
    ap (λ (bytes : List ℕ). is_le (ordering_then (nat_cmp first.point place.point) (slice_cmp nat_cmp bytes place.name.items)) && true) none
    ∙ at_or_above first.point place.point _ (nothing_first place.name.items)
    ∙ ap (nat_le first.point) is.point

kept : (b : Bool) (e : NameKey × Vec ℕ Global) (es : Stored) → rows_of (cond b (e ∷ es) es) ≡ cond b ((e.0.name.items, e.1.items) ∷ rows_of es) (rows_of es)
kept true e es = refl
kept false e es = refl

abbrev between : NameKey → Stored → Stored
between first stored = entries_between place_cmp (Included first) Unbounded stored

rows_from : (first : NameKey) (stored : Stored) → first.name.items ≡ [] → AllPlaced stored → rows_of (between first stored) ≡ where_key name_cmp (from first.point) (rows_of stored)
rows_from first [] none all = refl
rows_from first (e ∷ es) none all =
    let row : List ℕ × List ℕ = (e.0.name.items, e.1.items) in
    ap (λ b. rows_of (cond b (e ∷ between first es) (between first es))) (tested first e.0 none all.0)
    ∙ kept (from first.point row.0) e (between first es)
    ∙ ap (λ rows. cond (from first.point row.0) (row ∷ rows) rows) (rows_from first es none all.1)

pub placed_from : (first : NameKey) (stored : Stored) → AllPlaced stored → AllPlaced (between first stored)
placed_from first [] all = tt
placed_from first (e ∷ es) all =
    elim (is_le (place_cmp first e.0) && true) as (λ b. AllPlaced (cond b (e ∷ between first es) (between first es))) [ true ↦ (all.0, placed_from first es all.1) | false ↦ placed_from first es all.1 ]

points_placed : (stored : Stored) → AllPlaced stored → points_in stored ≡ map point_of (names_in (rows_of stored))
points_placed [] all = refl
points_placed (e ∷ es) all = ap (λ p. p ∷ points_in es) all.0.point ∙ ap (λ ps. point_of e.0.name.items ∷ ps) (points_placed es all.1)

-- which names are in the range

below_range : (range : Interval) (name : List ℕ) → from range.lo name ≡ false → is_within range name ≡ false
below_range range name l = grind (arith, nat_tests)

above_range : (range : Interval) (name : List ℕ) → range.hi < point_of name → is_within range name ≡ false
above_range range name l = grind (arith, nat_tests)

in_range : (range : Interval) (name : List ℕ) → range.lo ≤ point_of name → point_of name ≤ range.hi → is_within range name ≡ true
in_range range name l h = grind (arith, nat_tests)

length-names_in : (rows : Rows) → length (names_in rows) ≡ length rows
length-names_in [] = refl
length-names_in (r ∷ rs) = ap suc (length-names_in rs)

-- behind a name above the range none is in it
none_behind : (range : Interval) (name : List ℕ) (rows : Rows) (n : ℕ) → below_all name_cmp name rows ≡ true → range.hi < point_of name → filter (is_within range) (take n (names_in rows)) ≡ []
none_behind range name [] zero h l = refl
none_behind range name [] (suc n) h l = refl
none_behind range name (r ∷ rs) zero h l = refl
none_behind range name (r ∷ rs) (suc n) h l =
    ap (λ b. cond b (r.0 ∷ filter (is_within range) (take n (names_in rs))) (filter (is_within range) (take n (names_in rs)))) (above_range range r.0 (omega (arith, no_lower name r.0 (first _ _ h), l)))
    ∙ none_behind range name rs n (second _ _ h) l

all_above : (range : Interval) (name : List ℕ) (rows : Rows) → below_all name_cmp name rows ≡ true → range.hi < point_of name → filter (is_within range) (names_in rows) ≡ []
all_above range name rows h l =
    ap (filter (is_within range)) (sym (take_all (length rows) (names_in rows) (omega (arith, length-names_in rows)))) ∙ none_behind range name rows (length rows) h l

abbrev StartsAt : ℕ → Rows → Type 0
StartsAt lo [] = Unit {0}
StartsAt lo (r ∷ rs) = lo ≤ point_of r.0

starts_behind : (lo : ℕ) (name : List ℕ) (rows : Rows) → below_all name_cmp name rows ≡ true → lo ≤ point_of name → StartsAt lo rows
starts_behind lo name [] h l = tt
starts_behind lo name (r ∷ rs) h l = omega (arith, no_lower name r.0 (first _ _ h), l)

head_first : (range : Interval) (r : List ℕ × List ℕ) (rs : Rows) (n : ℕ) → below_all name_cmp r.0 rs ≡ true → range.lo ≤ point_of r.0
    → take n (filter (is_within range) (names_in rs)) ≡ filter (is_within range) (take n (names_in rs)) → (range.hi < point_of r.0) ⊎ (point_of r.0 ≤ range.hi)
    → take (suc n) (filter (is_within range) (names_in (r ∷ rs))) ≡ filter (is_within range) (take (suc n) (names_in (r ∷ rs)))
head_first range r rs n h l rest (inl over) =
    let all = filter (is_within range) (names_in rs) in
    let taken = filter (is_within range) (take n (names_in rs)) in
    ap (λ b. take (suc n) (cond b (r.0 ∷ all) all)) (above_range range r.0 over)
    ∙ ap (take (suc n)) (all_above range r.0 rs h over)
    ∙ sym (ap (λ b. cond b (r.0 ∷ taken) taken) (above_range range r.0 over) ∙ none_behind range r.0 rs n h over)
head_first range r rs n h l rest (inr under) =
    let all = filter (is_within range) (names_in rs) in
    let taken = filter (is_within range) (take n (names_in rs)) in
    ap (λ b. take (suc n) (cond b (r.0 ∷ all) all)) (in_range range r.0 l under)
    ∙ ap (λ names. r.0 ∷ names) rest
    ∙ sym (ap (λ b. cond b (r.0 ∷ taken) taken) (in_range range r.0 l under))

-- of rows that begin in or above the range, the first names of the range are those of the first rows
take-within : (range : Interval) (rows : Rows) (n : ℕ) → is_sorted name_cmp rows ≡ true → StartsAt range.lo rows → take n (filter (is_within range) (names_in rows)) ≡ filter (is_within range) (take n (names_in rows))
take-within range [] zero s l = refl
take-within range [] (suc n) s l = refl
take-within range (r ∷ rs) zero s l = take-none (filter (is_within range) (names_in (r ∷ rs)))
take-within range (r ∷ rs) (suc n) s l = head_first range r rs n (first _ _ s) l (take-within range rs n (second _ _ s) (starts_behind range.lo r.0 rs (first _ _ s) l)) (cases_lt range.hi (point_of r.0))

starts_from : (lo : ℕ) (rows : Rows) → StartsAt lo (where_key name_cmp (from lo) rows)
starts_from lo [] = tt
starts_from lo (r ∷ rs) =
    elim (from lo r.0) as (λ b. from lo r.0 ≡ b → StartsAt lo (cond b (r ∷ where_key name_cmp (from lo) rs) (where_key name_cmp (from lo) rs))) [
      | true ↦ λ e. leb-true lo (point_of r.0) e
      | false ↦ λ e. starts_from lo rs
    ] refl

-- the rows before it have no names of the range
none_before : (range : Interval) (rows : Rows) → filter (is_within range) (names_in (where_key name_cmp (from range.lo) rows)) ≡ filter (is_within range) (names_in rows)
none_before range [] = refl
none_before range (r ∷ rs) =
    let behind = where_key name_cmp (from range.lo) rs in
    let rest = none_before range rs in
    elim (from range.lo r.0) as (λ b. from range.lo r.0 ≡ b → filter (is_within range) (names_in (cond b (r ∷ behind) behind)) ≡ filter (is_within range) (names_in (r ∷ rs))) [
      | true ↦ λ e. ap (λ ns. cond (is_within range r.0) (r.0 ∷ ns) ns) rest
      | false ↦ λ e. rest ∙ sym (ap (λ b. cond b (r.0 ∷ filter (is_within range) (names_in rs)) (filter (is_within range) (names_in rs))) (below_range range r.0 e))
    ] refl

-- the first names of the range are those of that many rows from there on
in_window : (range : Interval) (rows : Rows) → is_sorted name_cmp rows ≡ true
    → filter (is_within range) (take most_listed_names (names_in (where_key name_cmp (from range.lo) rows))) ≡ take most_listed_names (filter (is_within range) (names_in rows))
in_window range rows s =
    sym (take-within range (where_key name_cmp (from range.lo) rows) most_listed_names (rises-kept (from range.lo) rows s) (starts_from range.lo rows)) ∙ ap (take most_listed_names) (none_before range rows)

pub listed : (range : Interval) (first : NameKey) (stored window : Stored) (points mask : List ℕ) → IsStore stored → first.point ≡ range.lo → first.name.items ≡ []
    → window ≡ between first stored → points ≡ take most_listed_names (points_in window) → Marks range points mask → marked mask 0 (take most_listed_names (names_in (rows_of window))) ≡ name_list (map_of (rows_of stored)) range
listed range first stored window points mask s at none is asked m =
    let placed = subst AllPlaced (sym is) (placed_from first stored s.placed) in
    let rows : rows_of window ≡ where_key name_cmp (from range.lo) (rows_of stored) = ap rows_of is ∙ rows_from first stored none s.placed ∙ ap (λ lo. where_key name_cmp (from lo) (rows_of stored)) at in
    marked_in range points mask (take most_listed_names (names_in (rows_of window))) m (asked ∙ ap (take most_listed_names) (points_placed window placed) ∙ take-map point_of most_listed_names (names_in (rows_of window)))
    ∙ ap (λ rs. filter (is_within range) (take most_listed_names (names_in rs))) rows
    ∙ in_window range (rows_of stored) s.rises
    ∙ sym (ap (λ es. take most_listed_names (filter (is_within range) (names_in es))) (entries_are (rows_of stored) s.rises))
