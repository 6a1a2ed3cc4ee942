-- A partition's replica in the map: where it stands, and where it is made.
use Rattle.std.proofs.Common.{◌≡◌, ℕ, Bool, true, false, cond, List, [], ◌∷◌, Option, Some, None, Result, Ok, Err, refl, sym, subst, ap, ◌∙◌, arith}
use Rattle.std.proofs.lemmas.Bool.Decides.{nat_tests}
use Rattle.std.proofs.lemmas.List.{append-nil}
use Rattle.std.proofs.lemmas.Map.Steps.{set_value_same}
use Rattle.std.specs.Prelude.{◌==◌, IfOk, OnErr, is_some, nat_lt, unwrap_or}
use Rattle.std.specs.BTreeMap.{is_at}
use Rattle.std.specs.Map.{lookup, remove_entry, set_value}
use Rattle.std.specs.Ordering.{nat_cmp}
use Rattle.fabric_lemmas.specs.Maps.{at, put, put_here, rises}
use Rattle.keep_log.proofs.MapEntries.{at-put_here, lookup-is, put-put, set-is}
use Rattle.unit_rules.specs.Deeds.{Deed, Acted, acted}
use Rattle.unit_rules.specs.ReplicaStates.{ReplicaState, first_state}
use Rattle.unit_desk.specs.declared.unit_effects.UnitEffects.{UnitEffects}
use Rattle.unit_desk.specs.UnitEffects.{Does, Left}
use Rattle.unit_desk.proofs.Puts.{free_behind}
use Rattle.unit_replica.specs.Tables.{IsTable, ReplicaStates, at_found, at_state, at_standing, by_state}
use Rattle.unit_replica.proofs.Counts.{set_fits}

same_test : (a b : Bool) → ◌≡◌ {A = Option ℕ} (cond a (Some 0) None) (cond b (Some 0) None) → a ≡ b
same_test true true e = refl
same_test true false e = absurd (cc)
same_test false true e = absurd (cc)
same_test false false e = refl

key_is : (k n : ℕ) → is_at (nat_cmp k) n ≡ (n == k)
key_is k n = same_test (is_at (nat_cmp k) n) (n == k) (lookup-is k ((n, 0) ∷ []))

own_key : (k : ℕ) → is_at (nat_cmp k) k ≡ true
own_key k = key_is k k ∙ (let same : (k == k) ≡ true = grind (arith, nat_tests) in same)

module _ {X : Type 0} where
  -- what was put at a free number is taken out again
  pub remove-put : (k : ℕ) (x : X) (es : List (ℕ × X)) → at k es ≡ None → remove_entry (is_at (nat_cmp k)) (put k x es) ≡ es
  remove-put k x [] free = rw (own_key k) refl
  remove-put k x (e ∷ es) free =
      let behind : ((e.0 == k) ≡ false) × (at k es ≡ None) = free_behind k e es free in
      by (nat_lt k e.0) (k == e.0) refl behind.0 (remove-put k x es behind.1)
    where
      by : (lt same : Bool) → (k == e.0) ≡ same → (e.0 == k) ≡ false → remove_entry (is_at (nat_cmp k)) (put k x es) ≡ es
          → remove_entry (is_at (nat_cmp k)) (put_here k x e es (put k x es) lt same) ≡ e ∷ es
      by true same is other rest = rw (own_key k) refl
      by false true is other rest = absurd (grind (arith, nat_tests, is, other))
      by false false is other rest = rw (key_is k e.0, other) (ap (λ (l : List (ℕ × X)). e ∷ l) rest)

-- what a look-up in the entries of a map says of the map
looked_up : (k : ℕ) (es old : ReplicaStates) (o : Option ReplicaState) → es ≡ old → lookup (is_at (nat_cmp k)) es ≡ o → at k old ≡ o
looked_up k es old o view found = ap (λ (m : ReplicaStates). at k m) (sym view) ∙ (sym (lookup-is k es) ∙ found)

pub stands_if : (k : ℕ) (es old : ReplicaStates) (b : Bool) → es ≡ old → is_some (lookup (is_at (nat_cmp k)) es) ≡ b → is_some (at k old) ≡ b
stands_if k es old b view found = ap is_some (looked_up k es old (lookup (is_at (nat_cmp k)) es) view refl) ∙ found

-- the partition's replica was looked up in the entries of a map, and was written back there as it is then
pub record Written (k : ℕ) (es old new : ReplicaStates) (x w : ReplicaState) : Type 0 where
  pub view : es ≡ old
  pub table : IsTable es
  pub found : lookup (is_at (nat_cmp k)) es ≡ Some x
  pub set : new ≡ set_value (is_at (nat_cmp k)) es w

module _ {k : ℕ} {es old new : ReplicaStates} {x w : ReplicaState} (it : Written k es old new x w) where
  pub stands : at k old ≡ Some x
  stands = looked_up k es old (Some x) it.view it.found

  pub fits : IsTable new
  fits = set_fits k w es new it.set it.table

  -- a row at the replica that stands there
  pub does_there : (row : ReplicaState → Acted ReplicaState) (none : Acted ReplicaStates) (before after : UnitEffects) → Does (row x) w before after
      → Does (at_standing k row none old) new before after
  does_there row none before after d =
      let written : new ≡ put k w old =
      it.set ∙ (set-is k w es x it.table.rise (sym (lookup-is k es) ∙ it.found) ∙ ap (λ (m : ReplicaStates). put k w m) it.view) in
      subst (λ (o : Option ReplicaState). Does (at_found k row none old o) new before after) (sym stands)
      (record { state = written ∙ ap (λ (s : ReplicaState). put k s old) d.state; left = d.left })

  -- a replica that is left as it was leaves the map so
  pub stays_there : w ≡ x → new ≡ old
  stays_there same =
      it.set ∙ (ap (λ (s : ReplicaState). set_value (is_at (nat_cmp k)) es s) same
      ∙ (set_value_same (is_at (nat_cmp k)) es x it.found ∙ it.view))

-- where no replica stands, these deeds are done, and the map stays
pub does_nowhere : (k : ℕ) (row : ReplicaState → Acted ReplicaState) (deeds : List Deed) (es old new : ReplicaStates) (before after : UnitEffects)
    → es ≡ old → lookup (is_at (nat_cmp k)) es ≡ None → new ≡ es → Left deeds before after
    → Does (at_standing k row (acted old deeds) old) new before after
does_nowhere k row deeds es old new before after view nothing same left =
    subst (λ (o : Option ReplicaState). Does (at_found k row (acted old deeds) old o) new before after) (sym (looked_up k es old None view nothing))
    (record { state = same ∙ view; left = left })

pub left_nothing : (d : UnitEffects) → Left [] d d
left_nothing d = record { records = sym (append-nil d.records); sent = sym (append-nil d.out); told = sym (append-nil d.told) }

-- a replica that stands need not be made
pub does_standing : (k : ℕ) (row : ReplicaState → Acted ReplicaState) (none : Acted ReplicaStates) (old new : ReplicaStates) (before after : UnitEffects)
    → is_some (at k old) ≡ true → Does (at_standing k row none old) new before after → Does (at_state k row old) new before after
does_standing k row none old new before after some d = by (at k old) some d
  where
    by : (o : Option ReplicaState) → is_some o ≡ true → Does (at_found k row none old o) new before after
        → Does (by_state k old (row (unwrap_or o (first_state k)))) new before after
    by (Some x) some d = d
    by None some d = absurd (cc)

-- a replica that is made takes the row as the first one
pub does_made : (k : ℕ) (row : ReplicaState → Acted ReplicaState) (none : Acted ReplicaStates) (old mid new : ReplicaStates) (before after : UnitEffects)
    → rises old ≡ true → at k old ≡ None → mid ≡ put k (first_state k) old → Does (at_standing k row none mid) new before after
    → Does (at_state k row old) new before after
does_made k row none old mid new before after up nothing is d =
    let first : ReplicaState = first_state k in
    let found : at k mid ≡ Some first = ap (λ (s : ReplicaStates). at k s) is ∙ at-put_here k first old in
    let inner : Does (by_state k mid (row first)) new before after = subst (λ (o : Option ReplicaState). Does (at_found k row none mid o) new before after) found d in
    let state : new ≡ put k (row first).state old =
    inner.state ∙ (ap (λ (s : ReplicaStates). put k (row first).state s) is ∙ put-put k first (row first).state old up) in
    subst (λ (o : Option ReplicaState). Does (by_state k old (row (unwrap_or o first))) new before after) (sym nothing)
    (record { state = state; left = inner.left })

-- what follows from a clause for each end

pub if_ok : {A E P Q : Type 0} (r : Result A E) → (P → Q) → IfOk r (λ (a : A). P) → IfOk r (λ (a : A). Q)
if_ok (Ok a) f p = f p
if_ok (Err e) f p = p

pub on_err : {A E P Q : Type 0} (r : Result A E) → (P → Q) → OnErr r P → OnErr r Q
on_err (Ok a) f p = p
on_err (Err e) f p = f p

pub none_of : {X : Type 0} (o : Option X) → is_some o ≡ false → o ≡ None
none_of (Some x) h = absurd (cc)
none_of None h = refl
