-- Rows in their order are a map, and what a change makes of it.
use Rattle.std.proofs.Common.{◌≡◌, ℕ, Bool, not, true, false, cond, List, [], Option, None, T, refl, ap, sym, subst, ◌∙◌}
use Rattle.std.specs.FinMap.{entries, entries_sorted, entries-from_sorted, entries-insert, find, get-from_sorted, get-remove, is_sorted, put, same_entries_map}
use Rattle.std.specs.FinMap as finite
use Rattle.std.specs.FinMap.Entries.{where_key, find-where_key, is_sorted-where_key}
use Rattle.std.specs.Ordering.{eq_by_cmp, is_eq, ordering_reverse}
use Rattle.std.specs.declared.cmp.Ordering.{Ordering}
use Rattle.std.specs.declared.cmp.Ordering.TheVariants.{Less, Equal, Greater}
use Rattle.name_rules.specs.Names.{NameMap, name_cmp}
use Rattle.name_rules.specs.Rows.{Rows, map_of}
use Rattle.name_rules.proofs.Order.{name_total, one_name}
use Rattle.name_rules.proofs.Places.{others}

is_true : (b : Bool) → T b → b ≡ true
is_true true t = refl
is_true false t = absurd t

pub entries_are : (rows : Rows) → is_sorted name_cmp rows ≡ true → entries (map_of rows) ≡ rows
entries_are rows s = entries-from_sorted name_cmp rows (subst T (sym s) tt)

pub rises : (rows : Rows) (m : NameMap) → rows ≡ entries m → is_sorted name_cmp rows ≡ true
rises rows m e = ap (is_sorted name_cmp) e ∙ is_true _ (entries_sorted m)

pub same_map : (rows : Rows) (m : NameMap) → rows ≡ entries m → map_of rows ≡ m
same_map rows m e = same_entries_map (map_of rows) m (entries_are rows (rises rows m e) ∙ e)

-- the entries after a change

pub entries-put : (k v : List ℕ) (rows : Rows) → is_sorted name_cmp rows ≡ true → put name_cmp k v rows ≡ entries (finite.insert (map_of rows) k v)
entries-put k v rows s = sym (entries-insert name_total (map_of rows) k v ∙ ap (put name_cmp k v) (entries_are rows s))

ties_both_ways : (a b : List ℕ) → eq_by_cmp name_cmp a b ≡ eq_by_cmp name_cmp b a
ties_both_ways a b = ap is_eq (name_total.antisymm a b) ∙ reversed (name_cmp b a)
  where
    reversed : (o : Ordering) → is_eq (ordering_reverse o) ≡ is_eq o
    reversed Less = refl
    reversed Equal = refl
    reversed Greater = refl

turned : (b : Bool) (x : Option (List ℕ)) → cond (not b) x None ≡ cond b None x
turned true x = refl
turned false x = refl

pub rises-kept : (test : List ℕ → Bool) (rows : Rows) → is_sorted name_cmp rows ≡ true → is_sorted name_cmp (where_key name_cmp test rows) ≡ true
rises-kept test rows s = is_true _ (is_sorted-where_key name_cmp test rows (subst T (sym s) tt))

pub rises-without : (k : List ℕ) (rows : Rows) → is_sorted name_cmp rows ≡ true → is_sorted name_cmp (where_key name_cmp (others k) rows) ≡ true
rises-without k rows s = rises-kept (others k) rows s

pub without_is : (k : List ℕ) (rows : Rows) → is_sorted name_cmp rows ≡ true → map_of (where_key name_cmp (others k) rows) ≡ finite.remove (map_of rows) k
without_is k rows s = finite.same_map name_total one_name _ _ (λ q.
    get-from_sorted name_cmp (where_key name_cmp (others k) rows) q (subst T (sym (rises-without k rows s)) tt)
    ∙ (find-where_key name_cmp (others k) q (λ x e. ap (others k) (sym (one_name q x e))) rows
    ∙ (turned (eq_by_cmp name_cmp k q) (find name_cmp q rows)
    ∙ (ap (λ b. cond b None (find name_cmp q rows)) (ties_both_ways k q)
    ∙ sym (get-remove name_total (map_of rows) k q ∙ ap (λ x. cond (eq_by_cmp name_cmp q k) None x) (get-from_sorted name_cmp rows q (subst T (sym s) tt)))))))

pub nothing_stored : map_of [] ≡ finite.empty
nothing_stored = finite.same_map name_total one_name _ _ (λ q. get-from_sorted name_cmp [] q tt ∙ sym (finite.get-empty name_cmp q))

pub get_is : (k : List ℕ) (rows : Rows) → is_sorted name_cmp rows ≡ true → finite.get (map_of rows) k ≡ find name_cmp k rows
get_is k rows s = get-from_sorted name_cmp rows k (subst T (sym s) tt)
