-- What a primary answers about names has a line: each name and each value that entries leave is in its range.
use Rattle.std.proofs.Common.{◌≡◌, ◌≢◌, ◌==◌, ◌&&◌, ◌≤◌, ℕ, Bool, true, false, not, cond, List, [], ◌∷◌, filter, length, take, Option, Some, None, Ok, Err, nat_le, if◌then◌else◌, arith, refl, ap, sym, subst, ◌∙◌}
use Rattle.std.specs.List.{All}
use Rattle.std.specs.FinMap.{empty, entries, entries-insert, find, get, get-entries, keys, len-empty, len-entries, put}
use Rattle.std.specs.FinMap as finite
use Rattle.std.specs.FinMap.Entries.{by_order, where_key}
use Rattle.std.specs.Ordering.{eq_by_cmp}
use Rattle.std.specs.declared.cmp.Ordering.TheVariants.{Less, Equal, Greater}
use Rattle.std.proofs.lemmas.Bool.{and_parts, both_ways, leb-true}
use Rattle.std.proofs.lemmas.List.{length-take}
use Rattle.std.proofs.lemmas.List.Elements.{All-cons, All-filter, All-head, All-map, All-nil, All-tail, All-take}
use Rattle.ring_points.specs.declared.interval.Interval.{Interval}
use Rattle.fabric_terms.specs.Ranges.{IsName, IsNameByte, IsNameValue, IsPartition}
use Rattle.fabric_terms.specs.declared.report.Report.{Report}
use Rattle.fabric_terms.specs.declared.report.Report.TheVariants as report
use Rattle.fabric_terms.specs.declared.report.Reason.TheVariants as reason
use Rattle.fabric_terms.specs.declared.report.Verb.{Verb}
use Rattle.fabric_terms.specs.declared.report.Verb.TheVariants as verb
use Rattle.name_rules.specs.Grammar.{Change, Deletes, Sets, change_of, every, is_name, is_name_byte, is_value, is_value_byte}
use Rattle.name_rules.specs.Names.{NameMap, applied, changed, is_within, name_cmp, names_from, names_of}
use Rattle.name_rules.proofs.Order.{name_total}
use Rattle.name_rules.proofs.Places.{others}
use Rattle.name_rules.proofs.Spelling.{found}
use Rattle.name_rules.proofs.Ordered.{entries_are, rises, rises-without, same_map, without_is}
use Rattle.replica_core.specs.declared.entry.Entry.{Entry}
use Rattle.frames_fit.specs.Formats.{ReportInRange}
use Rattle.unit_rules.specs.Answers.{answered, listing, names_commanded, ready, resolution, resolve_commanded, resolved}
use Rattle.unit_rules.specs.Deeds.{Tell}
use Rattle.unit_rules.specs.Progress.{progress_of, reported_of}
use Rattle.unit_rules.specs.ReplicaStates.{ReplicationProgress, ReplicaState}
use Rattle.fabric_fit.specs.Deeds.{ActedInRange}
use Rattle.fabric_fit.specs.ReplicaStates.{ReplicaStateInRange}
use Rattle.fabric_fit.proofs.Deeds.{does_one}
use Rattle.fabric_fit.proofs.Telling.{partition_told}

-- Texts that a change names.

every_in : (test : ℕ → Bool) (P : ℕ → Type 0) → ((b : ℕ) → test b ≡ true → P b) → (bs : List ℕ) → every test bs ≡ true → All P bs
every_in test P each [] h = All-nil P
every_in test P each (b ∷ bs) h =
    let parts = and_parts (test b) (every test bs) h in All-cons P b bs (each b parts.0) (every_in test P each bs parts.1)

no_comma : (b : ℕ) → not (b == 44) ≡ true → b ≢ 44
no_comma b h e = subst (λ (n : ℕ). not (n == 44) ≡ true → ⊥) (sym e) (λ i. both_ways false refl i) h

name_byte : (b : ℕ) → is_name_byte b ≡ true → IsNameByte b
name_byte b h =
    let parts = and_parts (nat_le 33 b && nat_le b 126) (not (b == 44)) h in
    let bounds = and_parts (nat_le 33 b) (nat_le b 126) parts.0 in
    (leb-true 33 b bounds.0, leb-true b 126 bounds.1, no_comma b parts.1)

value_byte : (b : ℕ) → is_value_byte b ≡ true → (32 ≤ b) × (b ≤ 126)
value_byte b h = let parts = and_parts (nat_le 32 b) (nat_le b 126) h in (leb-true 32 b parts.0, leb-true b 126 parts.1)

name_told : (name : List ℕ) → is_name name ≡ true → IsName name
name_told name h =
    let parts = and_parts (nat_le 1 (length name) && nat_le (length name) 64) (every is_name_byte name) h in
    let bounds = and_parts (nat_le 1 (length name)) (nat_le (length name) 64) parts.0 in
    (leb-true 1 (length name) bounds.0, leb-true (length name) 64 bounds.1, every_in is_name_byte IsNameByte name_byte name parts.1)

value_told : (value : List ℕ) → is_value value ≡ true → IsNameValue value
value_told value h =
    let parts = and_parts (nat_le 1 (length value) && nat_le (length value) 400) (every is_value_byte value) h in
    let bounds = and_parts (nat_le 1 (length value)) (nat_le (length value) 400) parts.0 in
    (leb-true 1 (length value) bounds.0, leb-true (length value) 400 bounds.1, every_in is_value_byte (λ b. (32 ≤ b) × (b ≤ 126)) value_byte value parts.1)

-- The names that entries leave.

record Named (e : List ℕ × List ℕ) : Type 0 where
  name : IsName e.0
  value : IsNameValue e.1

abbrev AllNamed : NameMap → Type 0
AllNamed m = All Named (entries m)

put_named : (k v : List ℕ) (es : List (List ℕ × List ℕ)) → Named (k, v) → All Named es → All Named (put name_cmp k v es)
put_named k v [] h hs = All-cons Named (k, v) [] h (All-nil Named)
put_named k v (e ∷ es) h hs =
    let first = All-head Named e es hs in
    let rest = All-tail Named e es hs in
    elim (name_cmp k e.0) as (λ o. All Named (by_order o ((k, v) ∷ e ∷ es) ((e.0, v) ∷ es) (e ∷ put name_cmp k v es))) [
      | Less ↦ All-cons Named (k, v) (e ∷ es) h hs
      | Equal ↦ All-cons Named (e.0, v) es (record { name = first.name; value = h.value }) rest
      | Greater ↦ All-cons Named e (put name_cmp k v es) first (put_named k v es h rest)
    ]

inserted_named : (k v : List ℕ) (m : NameMap) → Named (k, v) → AllNamed m → AllNamed (finite.insert m k v)
inserted_named k v m h hs = subst (All Named) (sym (entries-insert name_total m k v)) (put_named k v (entries m) h hs)

entries-remove : (k : List ℕ) (m : NameMap) → entries (finite.remove m k) ≡ where_key name_cmp (others k) (entries m)
entries-remove k m =
    let rising = rises (entries m) m refl in
    ap entries (ap (λ n. finite.remove n k) (sym (same_map (entries m) m refl)) ∙ sym (without_is k (entries m) rising))
    ∙ entries_are (where_key name_cmp (others k) (entries m)) (rises-without k (entries m) rising)

removed_named : (k : List ℕ) (m : NameMap) → AllNamed m → AllNamed (finite.remove m k)
removed_named k m hs = subst (All Named) (sym (entries-remove k m)) (All-filter (λ e. others k e.0) Named (entries m) hs)

changed_named : (bytes : List ℕ) (o : Option Change) (m : NameMap) → change_of bytes ≡ o → AllNamed m → AllNamed (changed o m)
changed_named bytes None m is hs = hs
changed_named bytes (Some (Sets name value)) m is hs =
    let fine = (found bytes (Sets name value) is).0 in
    inserted_named name value m (record { name = name_told name fine.0; value = value_told value fine.1 }) hs
changed_named bytes (Some (Deletes name)) m is hs = removed_named name m hs

from_named : (m : NameMap) (es : List Entry) → AllNamed m → AllNamed (names_from m es)
from_named m [] hs = hs
from_named m (e ∷ es) hs = from_named (applied e m) es (changed_named e.bytes (change_of e.bytes) m refl hs)

none_named : (rows : List (List ℕ × List ℕ)) → length rows ≡ 0 → All Named rows
none_named [] h = All-nil Named
none_named (e ∷ rows) h = absurd (omega (arith, h))

names_named : (es : List Entry) → AllNamed (names_of es)
names_named es = from_named empty es (none_named (entries nothing) (sym (len-entries nothing) ∙ len-empty name_cmp (List ℕ)))
  where
    nothing : NameMap
    nothing = empty

-- Answers about them.

same_some : (x y : List ℕ) → Some x ≡ Some y → x ≡ y
same_some x y e = cc

found_value : (name value : List ℕ) (es : List (List ℕ × List ℕ)) → All Named es → find name_cmp name es ≡ Some value → IsNameValue value
found_value name value [] hs is = cc
found_value name value (e ∷ es) hs is = by_test (found_value name value es (All-tail Named e es hs)) (eq_by_cmp name_cmp name e.0) is
  where
    by_test : (find name_cmp name es ≡ Some value → IsNameValue value) → (b : Bool) → cond b (Some e.1) (find name_cmp name es) ≡ Some value → IsNameValue value
    by_test later true h = subst IsNameValue (same_some e.1 value h) (All-head Named e es hs).value
    by_test later false h = later h

resolved_in_range : (partition : ℕ) (name : List ℕ) (es : List Entry) → IsPartition partition → IsName name → ReportInRange (resolution partition name (names_of es))
resolved_in_range partition name es p h = by_found (get (names_of es) name) refl
  where
    by_found : (o : Option (List ℕ)) → get (names_of es) name ≡ o → ReportInRange (resolved partition name o)
    by_found None is = (p, h)
    by_found (Some value) is = (p, h, found_value name value (entries (names_of es)) (names_named es) (sym (get-entries (names_of es) name) ∙ is))

few_names : (names : List (List ℕ)) → length (take 64 names) ≤ 64
few_names names = let few = length-take 64 names in omega (arith, few)

listed_names_in_range : (partition : ℕ) (range : Interval) (es : List Entry) → IsPartition partition → ReportInRange (listing partition range (names_of es))
listed_names_in_range partition range es p =
    let names = keys (names_of es) in
    let here = filter (is_within range) names in
    let all = All-map IsName (λ (e : List ℕ × List ℕ). e.0) (entries (names_of es)) (all_names (entries (names_of es)) (names_named es)) in
    (p, few_names here, All-take IsName 64 here (All-filter (is_within range) IsName names all))
  where
    all_names : (rows : List (List ℕ × List ℕ)) → All Named rows → All (λ e. IsName e.0) rows
    all_names [] hs = All-nil (λ (e : List ℕ × List ℕ). IsName e.0)
    all_names (e ∷ rows) hs =
        All-cons (λ (e : List ℕ × List ℕ). IsName e.0) e rows (All-head Named e rows hs).name (all_names rows (All-tail Named e rows hs))

-- The rows.

module _ (question : Verb) (answer : NameMap → Report) (s : ReplicaState) (fine : ReplicaStateInRange s) (told : (es : List Entry) → ReportInRange (answer (names_of es))) where
  abbrev Asked : Option ReplicationProgress → Type 0
  Asked o = ActedInRange ReplicaStateInRange (answered question answer s (ready o))

  pub asked_in_range : (o : Option ReplicationProgress) → Asked o
  asked_in_range None = does_one ReplicaStateInRange s (Tell (report.Refused question reason.NotPrimary)) fine tt
  asked_in_range (Some l) = by_test (reported_of l == 0)
    where
      by_test : (b : Bool) → ActedInRange ReplicaStateInRange (answered question answer s (if b then Err reason.NotReady else Ok (reported_of l)))
      by_test true = does_one ReplicaStateInRange s (Tell (report.Refused question reason.NotReady)) fine tt
      by_test false = does_one ReplicaStateInRange s (Tell (answer (names_of (take (reported_of l) s.replica.log)))) fine (told (take (reported_of l) s.replica.log))

pub resolve_commanded_in_range : (name : List ℕ) → IsName name → (s : ReplicaState) → ReplicaStateInRange s → ActedInRange ReplicaStateInRange (resolve_commanded name s)
unfolding resolve_commanded
resolve_commanded_in_range name h s fine =
    let p = partition_told s.replica.partition fine.replica.partition in
    asked_in_range verb.Resolve (resolution s.replica.partition name) s fine (λ es. resolved_in_range s.replica.partition name es p h) (progress_of s)

pub names_commanded_in_range : (range : Interval) (s : ReplicaState) → ReplicaStateInRange s → ActedInRange ReplicaStateInRange (names_commanded range s)
unfolding names_commanded
names_commanded_in_range range s fine =
    let p = partition_told s.replica.partition fine.replica.partition in
    asked_in_range verb.Names (listing s.replica.partition range) s fine (λ es. listed_names_in_range s.replica.partition range es p) (progress_of s)
