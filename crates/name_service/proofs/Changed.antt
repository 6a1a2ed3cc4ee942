-- What a call makes of a store.
use Rattle.std.proofs.Common.{◌≡◌, ℕ, true, false, List, ap, sym, subst, ◌∙◌}
use Rattle.std.specs.Prelude.{Vec}
use Rattle.std.specs.BTreeMap.{insert_entry, is_at}
use Rattle.std.specs.FinMap as finite
use Rattle.std.specs.FinMap.{is_sorted}
use Rattle.std.specs.Map.{remove_entry}
use Rattle.std.specs.declared.alloc.Global.{Global}
use Rattle.name_rules.specs.Grammar.{is_name}
use Rattle.name_rules.specs.Names.{NameMap, name_cmp, point_of}
use Rattle.name_rules.specs.Rows.{map_of}
use Rattle.name_service.specs.Stores.{AllPlaced, IsPlaceOf, IsPlaced, IsStore, Stored, rows_of}
use Rattle.name_service.specs.declared.name_key.NameKey.{NameKey}
use Rattle.name_service.proofs.Keys.{left_in, place_cmp, placed_with, placed_without, put_in, taken_out}
use Rattle.name_rules.proofs.Ordered.{entries-put, rises, rises-without, same_map, without_is}

-- it is still a store, and it is of this map
pub record Becomes (stored : Stored) (m : NameMap) : Type 0 where
  pub store : IsStore stored
  pub map : map_of (rows_of stored) ≡ m

placed : (k : List ℕ) (place : NameKey) → IsPlaceOf k place → is_name k ≡ true → IsPlaced place
placed k place of is = record { point = of.point ∙ ap point_of (sym of.bytes); name = ap is_name of.bytes ∙ is }

pub is_set : (k : List ℕ) (place : NameKey) (value : Vec ℕ Global) (old new : Stored) → IsStore old → IsPlaceOf k place → is_name k ≡ true
    → new ≡ insert_entry place_cmp old place value → Becomes new (finite.insert (map_of (rows_of old)) k value.items)
is_set k place value old new s of is e =
    let same = ap rows_of e ∙ put_in k place value old of s.placed ∙ entries-put k value.items (rows_of old) s.rises in
    record {
      store = record { rises = rises (rows_of new) _ same; placed = subst AllPlaced (sym e) (placed_with place value old (placed k place of is) s.placed) };
      map = same_map (rows_of new) _ same;
    }

pub is_deleted : (k : List ℕ) (place : NameKey) (old new : Stored) → IsStore old → IsPlaceOf k place
    → new ≡ remove_entry (is_at (place_cmp place)) old → Becomes new (finite.remove (map_of (rows_of old)) k)
is_deleted k place old new s of e =
    let same = ap rows_of e ∙ taken_out k place old of s.placed s.rises in
    record {
      store = record {
        rises = ap (is_sorted name_cmp) same ∙ rises-without k (rows_of old) s.rises;
        placed = subst AllPlaced (sym e) (placed_without place old s.placed);
      };
      map = ap map_of same ∙ without_is k (rows_of old) s.rises;
    }

-- what is no name was not there
pub is_left : (k : List ℕ) (stored : Stored) → IsStore stored → is_name k ≡ false → map_of (rows_of stored) ≡ finite.remove (map_of (rows_of stored)) k
is_left k stored s none = ap map_of (sym (left_in k stored none s.placed)) ∙ without_is k (rows_of stored) s.rises
