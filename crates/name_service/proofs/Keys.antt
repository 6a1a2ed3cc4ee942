-- What the stored map finds, puts in and takes out by places, it does so by names.
use Rattle.std.proofs.Common.{◌≡◌, ℕ, Bool, true, false, cond, not, List, [], ◌∷◌, Option, Some, None, option_map, refl, ap, sym, subst, ◌∙◌}
use Rattle.std.specs.Prelude.{Vec}
use Rattle.std.specs.BTreeMap.{insert_entry, is_at}
use Rattle.std.specs.Cmp.Lexicographic.{slice_cmp}
use Rattle.std.specs.FinMap.{find, is_sorted, put}
use Rattle.std.specs.FinMap.Entries.{below_all, by_order, where_key}
use Rattle.std.specs.Map.{lookup, remove_entry}
use Rattle.std.specs.Ordering.{is_eq, match_ordering, nat_cmp, ordering_then}
use Rattle.std.specs.declared.alloc.Global.{Global}
use Rattle.std.specs.declared.cmp.Ordering.{Ordering}
use Rattle.std.specs.declared.cmp.Ordering.TheVariants.{Less, Equal, Greater}
use Rattle.name_rules.specs.Grammar.{is_name}
use Rattle.name_rules.specs.Names.{name_cmp, point_of}
use Rattle.name_service.specs.Stores.{AllPlaced, IsPlaceOf, IsPlaced, Stored, rows_of}
use Rattle.name_service.specs.declared.name_key.NameKey.{NameKey}
use Rattle.name_rules.proofs.Order.{apart, one_name}
use Rattle.name_rules.proofs.Places.{all_others, first, others, second}

-- the order of places, as it is derived
abbrev pub place_cmp : NameKey → NameKey → Ordering
place_cmp a b = ordering_then (nat_cmp a.point b.point) (slice_cmp nat_cmp a.name.items b.name.items)

-- it is that of names
as_names : (k : List ℕ) (place other : NameKey) → IsPlaceOf k place → IsPlaced other → place_cmp place other ≡ name_cmp k other.name.items
as_names k place other of is =
    ap (λ p. ordering_then (nat_cmp p other.point) (slice_cmp nat_cmp place.name.items other.name.items)) of.point
    ∙ ap (λ p. ordering_then (nat_cmp (point_of k) p) (slice_cmp nat_cmp place.name.items other.name.items)) is.point
    ∙ ap (λ n. ordering_then (nat_cmp (point_of k) (point_of other.name.items)) (slice_cmp nat_cmp n other.name.items)) of.bytes

-- look-ups

choose : (b : Bool) (v : Vec ℕ Global) (rest : Option (Vec ℕ Global)) → option_map (λ x. x.items) (cond b (Some v) rest) ≡ cond b (Some v.items) (option_map (λ x. x.items) rest)
choose true v rest = refl
choose false v rest = refl

pub found : (k : List ℕ) (place : NameKey) (stored : Stored) → IsPlaceOf k place → AllPlaced stored → option_map (λ x. x.items) (lookup (is_at (place_cmp place)) stored) ≡ find name_cmp k (rows_of stored)
found k place [] of all = refl
found k place (e ∷ es) of all =
    choose (is_eq (place_cmp place e.0)) e.1 (lookup (is_at (place_cmp place)) es)
    ∙ ap (λ o. cond (is_eq o) (Some e.1.items) (option_map (λ x. x.items) (lookup (is_at (place_cmp place)) es))) (as_names k place e.0 of all.0)
    ∙ ap (cond (is_eq (name_cmp k e.0.name.items)) (Some e.1.items)) (found k place es of all.1)

pub not_found : (k : List ℕ) (stored : Stored) → is_name k ≡ false → AllPlaced stored → find name_cmp k (rows_of stored) ≡ None
not_found k [] none all = refl
not_found k (e ∷ es) none all = ap (λ b. cond b (Some e.1.items) (find name_cmp k (rows_of es))) (apart k e.0.name.items none all.0.name) ∙ not_found k es none all.1

-- a value that is put in

pub put_in : (k : List ℕ) (place : NameKey) (value : Vec ℕ Global) (stored : Stored) → IsPlaceOf k place → AllPlaced stored → rows_of (insert_entry place_cmp stored place value) ≡ put name_cmp k value.items (rows_of stored)
put_in k place value [] of all = ap (λ (n : List ℕ). (n, value.items) ∷ []) of.bytes
put_in k place value (e ∷ es) of all =
    elim (place_cmp place e.0) as (λ o. rows_of (match_ordering o ((place, value) ∷ e ∷ es) ((e.0, value) ∷ es) (e ∷ insert_entry place_cmp es place value))
    ≡ by_order o ((k, value.items) ∷ rows_of (e ∷ es)) ((e.0.name.items, value.items) ∷ rows_of es) ((e.0.name.items, e.1.items) ∷ put name_cmp k value.items (rows_of es))) [
      | Less ↦ ap (λ (n : List ℕ). (n, value.items) ∷ rows_of (e ∷ es)) of.bytes
      | Equal ↦ refl
      | Greater ↦ ap (λ rest. (e.0.name.items, e.1.items) ∷ rest) (put_in k place value es of all.1)
    ]
    ∙ ap (λ o. by_order o ((k, value.items) ∷ rows_of (e ∷ es)) ((e.0.name.items, value.items) ∷ rows_of es) ((e.0.name.items, e.1.items) ∷ put name_cmp k value.items (rows_of es))) (as_names k place e.0 of all.0)

pub placed_with : (place : NameKey) (value : Vec ℕ Global) (stored : Stored) → IsPlaced place → AllPlaced stored → AllPlaced (insert_entry place_cmp stored place value)
placed_with place value [] is all = (is, tt)
placed_with place value (e ∷ es) is all =
    elim (place_cmp place e.0) as (λ o. AllPlaced (match_ordering o ((place, value) ∷ e ∷ es) ((e.0, value) ∷ es) (e ∷ insert_entry place_cmp es place value))) [
      | Less ↦ (is, all)
      | Equal ↦ all
      | Greater ↦ (all.0, placed_with place value es is all.1)
    ]

-- a row that is taken out

behind_it : (k n : List ℕ) (es : Stored) → name_cmp k n ≡ Equal → below_all name_cmp n (rows_of es) ≡ true → where_key name_cmp (others k) (rows_of es) ≡ rows_of es
behind_it k n es tied below = all_others k (rows_of es) (subst (λ x. below_all name_cmp x (rows_of es) ≡ true) (sym (one_name k n tied)) below)

pub taken_out : (k : List ℕ) (place : NameKey) (stored : Stored) → IsPlaceOf k place → AllPlaced stored → is_sorted name_cmp (rows_of stored) ≡ true
    → rows_of (remove_entry (is_at (place_cmp place)) stored) ≡ where_key name_cmp (others k) (rows_of stored)
taken_out k place [] of all s = refl
taken_out k place (e ∷ es) of all s =
    let row : List ℕ × List ℕ = (e.0.name.items, e.1.items) in
    let rest = taken_out k place es of all.1 (second _ _ s) in
    ap (λ o. rows_of (cond (is_eq o) es (e ∷ remove_entry (is_at (place_cmp place)) es))) (as_names k place e.0 of all.0)
    ∙ elim (name_cmp k row.0) as (λ o. name_cmp k row.0 ≡ o → rows_of (cond (is_eq o) es (e ∷ remove_entry (is_at (place_cmp place)) es))
    ≡ cond (not (is_eq o)) (row ∷ where_key name_cmp (others k) (rows_of es)) (where_key name_cmp (others k) (rows_of es))) [
      | Less ↦ λ o. ap (λ rows. row ∷ rows) rest
      | Equal ↦ λ o. sym (behind_it k row.0 es o (first _ _ s))
      | Greater ↦ λ o. ap (λ rows. row ∷ rows) rest
    ] refl

pub placed_without : (place : NameKey) (stored : Stored) → AllPlaced stored → AllPlaced (remove_entry (is_at (place_cmp place)) stored)
placed_without place [] all = tt
placed_without place (e ∷ es) all =
    elim (is_eq (place_cmp place e.0)) as (λ b. AllPlaced (cond b es (e ∷ remove_entry (is_at (place_cmp place)) es))) [ true ↦ all.1 | false ↦ (all.0, placed_without place es all.1) ]

pub left_in : (k : List ℕ) (stored : Stored) → is_name k ≡ false → AllPlaced stored → where_key name_cmp (others k) (rows_of stored) ≡ rows_of stored
left_in k [] none all = refl
left_in k (e ∷ es) none all =
    let row : List ℕ × List ℕ = (e.0.name.items, e.1.items) in
    ap (λ b. cond (not b) (row ∷ where_key name_cmp (others k) (rows_of es)) (where_key name_cmp (others k) (rows_of es))) (apart k row.0 none all.0.name)
    ∙ ap (λ rows. row ∷ rows) (left_in k es none all.1)
