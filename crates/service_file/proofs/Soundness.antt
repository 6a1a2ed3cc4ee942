-- The settings that were read are sound: a law of the definitions alone.
use Rattle.std.proofs.Common.{◌≡◌, ◌≢◌, ℕ, suc, ◌≤◌, ◌==◌, nat_le, Bool, true, false, List, [], ◌∷◌, length, map, Option, Some, None, is_some, option_and_then, Result, Ok, Err, IfOk, IfSome, refl, ap, subst, arith}
use Rattle.std.specs.Prelude.{All, Any, option_map}
use Rattle.std.specs.List.{AllPairs, filter_map, list_all}
use Rattle.std.proofs.lemmas.Bool.Decides.{nat_tests}
use Rattle.std.proofs.lemmas.Result.{IfOk-at_ok}
use Rattle.serde_json.specs.Data.{Data}
use Rattle.serde_json.specs.Find.{as_array, as_number, as_u64}
use Rattle.fabric_terms.specs.Sound.{Within, IsSound}
use Rattle.fabric_terms.specs.declared.config.FabricConfig.{FabricConfig}
use Rattle.fabric_terms.specs.declared.config.NodeEntry.{NodeEntry}
use Rattle.fabric_config.specs.Entries.{elements}
use Rattle.fabric_config.specs.Nodes.{listed}
use Rattle.service_file.specs.declared.error.ServiceError.{ServiceError}
use Rattle.service_file.specs.declared.field.ServiceField.{ServiceField}
use Rattle.service_file.specs.declared.settings.Declared.{Declared}
use Rattle.service_file.specs.declared.settings.ServiceSettings.{ServiceSettings}
use Rattle.service_file.specs.Checks.{◌>>=◌, or_bad, checked, Reads}
use Rattle.service_file.specs.Fields.{given}
use Rattle.service_file.specs.Entries.{number_in, in_range, configured_in, are_apart, list_or_none, list_of, join_of, is_object, partition_in, replicas_in, declared, declared_in, partitions_of, again_or_none, again_of}
use Rattle.service_file.specs.Settings.{document_of, ticks_or_lease, choice_or_some, settings_of, service_of, defaults}
use Rattle.service_file.specs.Keys.{has_known_keys}
use Rattle.service_file.specs.Sound.{IsConfigured, IsSoundDeclared, IsSoundAgain, IsSoundService}
use Rattle.service_file.proofs.Given.{no_more_given, all_given, numbers_apart}

-- what the first check gives holds for the second
over : {A B : Type 0} (r : Result A ServiceError) (f : A → Result B ServiceError) (P : A → Type 0) (Q : B → Type 0)
    → IfOk r P → ((x : A) → P x → IfOk (f x) Q) → IfOk (r >>= f) Q
over (Ok x) f P Q first then = then x first
over (Err e) f P Q first then = tt

-- a check of which nothing is told, and then the rest
after : {A B : Type 0} (r : Result A ServiceError) (f : A → Result B ServiceError) (Q : B → Type 0)
    → ((x : A) → IfOk (f x) Q) → IfOk (r >>= f) Q
after (Ok x) f Q then = then x
after (Err e) f Q then = tt

-- a value that passed is the one that was checked
passes : {A B : Type 0} (field : ServiceField) (test : Bool) (x : A) (f : A → Result B ServiceError) (Q : B → Type 0)
    → (test ≡ true → IfOk (f x) Q) → IfOk (checked field test x >>= f) Q
passes field true x f Q then = then refl
passes field false x f Q then = tt

needs : {A B : Type 0} (field : ServiceField) (o : Option A) (f : A → Result B ServiceError) (Q : B → Type 0)
    → ((x : A) → o ≡ Some x → IfOk (f x) Q) → IfOk (or_bad field o >>= f) Q
needs field (Some x) f Q then = then x refl
needs field None f Q then = tt

ranged : (low high n m : ℕ) → in_range low high n ≡ Some m → Within low high m
ranged low high n m e = by (nat_le low n) refl (nat_le n high) refl e
  where
    by : (a : Bool) → nat_le low n ≡ a → (b : Bool) → nat_le n high ≡ b → in_range low high n ≡ Some m → Within low high m
    by true p true q h =
        let same : Some n ≡ Some m = rw (p, q) at h in
        let here : n ≡ m = cc in
        subst (Within low high) here (record { from_low = grind (arith, nat_tests, p); to_high = grind (arith, nat_tests, q) })
    by true p false q h = let never : None ≡ Some m = rw (p, q) at h in absurd (cc)
    by false p b q h = let never : None ≡ Some m = rw p at h in absurd (cc)

bound : {A B : Type 0} (o : Option A) (f : A → Option B) (y : B) → option_and_then f o ≡ Some y → (x : A) × (o ≡ Some x) × (f x ≡ Some y)
bound None f y e = absurd (cc)
bound (Some x) f y e = (x, refl, e)

number_within : (low high : ℕ) (d : Data) (n : ℕ) → number_in low high d ≡ Some n → Within low high n
unfolding number_in
number_within low high d n e =
    let b = bound (option_and_then as_u64 (as_number d)) (in_range low high) n e in
    ranged low high b.0 n b.2

listed_node : (n m : ℕ) (nodes : List NodeEntry) → listed n nodes ≡ Some m → Any (λ x. x.node ≡ m) nodes
listed_node n m [] e = absurd (cc)
listed_node n m (x ∷ xs) e = by (x.node == n) refl e (listed_node n m xs)
  where
    by : (b : Bool) → (x.node == n) ≡ b → listed n (x ∷ xs) ≡ Some m → (listed n xs ≡ Some m → Any (λ y. y.node ≡ m) xs)
        → Any (λ y. y.node ≡ m) (x ∷ xs)
    by true h f rest = let same : Some x.node ≡ Some m = rw h at f in (0, x, omega arith, refl, cc)
    by false h f rest =
        let r = rest (rw h at f) in
        (suc r.0, r.1, omega (arith, r.2), r.3, r.4)

is_configured : (c : FabricConfig) (d : Data) (n : ℕ) → configured_in c d ≡ Some n → IsConfigured c n
unfolding configured_in
is_configured c d n e =
    let b = bound (option_and_then as_u64 (as_number d)) (λ m. listed m c.nodes) n e in
    listed_node b.0 n c.nodes b.2

short : (field : ServiceField) (most : ℕ) (d : Data) → IfOk (list_of field most d) (λ ds. length ds ≤ most)
unfolding list_of
short field most d = by (given field d)
  where
    fits : (n m : ℕ) → nat_le n m ≡ true → n ≤ m
    fits n m e = grind (arith, nat_tests, e)

    passed : (test : Bool) (ds : List Data) → (test ≡ true → length ds ≤ most) → IfOk (checked field test ds) (λ es. length es ≤ most)
    passed true ds h = h refl
    passed false ds h = tt

    by : (o : Option Data) → IfOk (list_or_none field most o) (λ ds. length ds ≤ most)
    by None = omega arith
    by (Some v) =
        after (or_bad field (as_array v)) _ _ λ items.
        passed (nat_le (length (elements items)) most) (elements items) (fits (length (elements items)) most)

record SoundJoin (c : FabricConfig) (join : List ℕ) : Type 0 where
  count : length join ≤ 64
  each : All (IsConfigured c) join
  once : AllPairs (λ m n. m ≢ n) join

join_sound : (c : FabricConfig) (d : Data) → IfOk (join_of c d) (SoundJoin c)
unfolding join_of
join_sound c d =
    over (list_of ServiceField.Join 64 d) _ (λ ds. length ds ≤ 64) _ (short ServiceField.Join 64 d) λ entries fits.
    passes ServiceField.Join (list_all (λ e. is_some (configured_in c e)) entries) entries _ _ λ _.
    by entries fits (are_apart (filter_map (configured_in c) entries)) refl
  where
    by : (entries : List Data) → length entries ≤ 64 → (test : Bool) → are_apart (filter_map (configured_in c) entries) ≡ test
        → IfOk (checked ServiceField.Join test (filter_map (configured_in c) entries)) (SoundJoin c)
    by entries fits true e = record {
      count = omega (arith, fits, no_more_given (configured_in c) entries);
      each = all_given (IsConfigured c) (configured_in c) entries (is_configured c);
      once = numbers_apart (filter_map (configured_in c) entries) e;
    }
    by entries fits false e = tt

partition_within : (e : Data) (n : ℕ) → partition_in e ≡ Some n → Within 0 65535 n
unfolding partition_in
partition_within e n h =
    let b = bound (given ServiceField.Partition e) (number_in 0 65535) n h in
    number_within 0 65535 b.0 n b.2

replicas_within : (e : Data) (n : ℕ) → replicas_in e ≡ Some n → Within 1 7 n
unfolding replicas_in
replicas_within e n h =
    let b = bound (given ServiceField.Replicas e) (number_in 1 7) n h in
    number_within 1 7 b.0 n b.2

declared_sound : (e : Data) (x : Declared) → declared_in e ≡ Some x → IsSoundDeclared x
unfolding declared_in
declared_sound e x h = by (partition_in e) refl (replicas_in e) refl h
  where
    by : (p : Option ℕ) → partition_in e ≡ p → (r : Option ℕ) → replicas_in e ≡ r
        → option_and_then (λ n. option_map (declared n) r) p ≡ Some x → IsSoundDeclared x
    by None f r g k = absurd (cc)
    by (Some p) f None g k = absurd (cc)
    by (Some p) f (Some r) g k =
        let here : declared p r ≡ x = cc in
        subst IsSoundDeclared here (record { partition = partition_within e p f; replicas = replicas_within e r g })

-- an entry with both fields is declared with its partition
declared_partitions : (es : List Data) → list_all (λ e. is_some (partition_in e)) es ≡ true → list_all (λ e. is_some (replicas_in e)) es ≡ true
    → map (λ x. x.partition) (filter_map declared_in es) ≡ filter_map partition_in es
unfolding declared_in
declared_partitions [] p r = refl
declared_partitions (e ∷ es) p r = by (partition_in e) refl (replicas_in e) refl p r (declared_partitions es)
  where
    by : (o : Option ℕ) → partition_in e ≡ o → (q : Option ℕ) → replicas_in e ≡ q
        → list_all (λ e. is_some (partition_in e)) (e ∷ es) ≡ true → list_all (λ e. is_some (replicas_in e)) (e ∷ es) ≡ true
        → (list_all (λ e. is_some (partition_in e)) es ≡ true → list_all (λ e. is_some (replicas_in e)) es ≡ true
        → map (λ x. x.partition) (filter_map declared_in es) ≡ filter_map partition_in es)
        → map (λ x. x.partition) (filter_map declared_in (e ∷ es)) ≡ filter_map partition_in (e ∷ es)
    by None f q g a b rest = let never : false ≡ true = rw f at a in absurd (cc)
    by (Some n) f None g a b rest = let never : false ≡ true = rw g at b in absurd (cc)
    by (Some n) f (Some m) g a b rest =
        let some : list_all (λ e. is_some (partition_in e)) es ≡ true = rw f at a in
        let more : list_all (λ e. is_some (replicas_in e)) es ≡ true = rw g at b in
        rw (f, g) (ap (λ ns. n ∷ ns) (rest some more))

record SoundPartitions (list : List Declared) : Type 0 where
  count : length list ≤ 256
  each : All IsSoundDeclared list
  once : AllPairs (λ p q. p ≢ q) (map (λ x. x.partition) list)

partitions_sound : (d : Data) → IfOk (partitions_of d) SoundPartitions
unfolding partitions_of
partitions_sound d =
    over (list_of ServiceField.Partitions 256 d) _ (λ ds. length ds ≤ 256) _ (short ServiceField.Partitions 256 d) λ entries fits.
    passes ServiceField.Partitions (list_all is_object entries) entries _ _ λ _.
    passes ServiceField.Partitions (are_apart (filter_map partition_in entries)) entries _ _ λ apart.
    passes ServiceField.Partition (list_all (λ e. is_some (partition_in e)) entries) entries _ _ λ numbered.
    passes ServiceField.Replicas (list_all (λ e. is_some (replicas_in e)) entries) entries _ _ λ counted.
    record {
      count = omega (arith, fits, no_more_given declared_in entries);
      each = all_given IsSoundDeclared declared_in entries declared_sound;
      once = rw (declared_partitions entries numbered counted) (numbers_apart (filter_map partition_in entries) apart);
    }

heal_after_sound : (c : FabricConfig) (o : Option Data) → Within 1 1000000000 c.lease → IfOk (ticks_or_lease c o) (Within 1 1000000000)
heal_after_sound c None w = w
heal_after_sound c (Some d) w = by (number_in 1 1000000000 d) refl
  where
    by : (o : Option ℕ) → number_in 1 1000000000 d ≡ o → IfOk (or_bad ServiceField.HealAfter o) (Within 1 1000000000)
    by None e = tt
    by (Some n) e = number_within 1 1000000000 d n e

again_sound : (c : FabricConfig) (d : Data) → IfOk (again_of c d) (λ o. IfSome o (IsSoundAgain c))
unfolding again_of
again_sound c d = by (given ServiceField.Again d)
  where
    by : (o : Option Data) → IfOk (again_or_none c o) (λ o. IfSome o (IsSoundAgain c))
    by None = tt
    by (Some v) =
        needs ServiceField.Again (given ServiceField.Node v) _ _ λ node_value _.
        needs ServiceField.Again (given ServiceField.Instance v) _ _ λ instance_value _.
        needs ServiceField.Node (configured_in c node_value) _ _ λ node p.
        needs ServiceField.Instance (number_in 2 4294967295 instance_value) _ _ λ instance q.
        record { node = is_configured c node_value node p; instance = number_within 2 4294967295 instance_value instance q }

of_lease : (c : FabricConfig) → IsSound c → Within 1 1000000000 c.lease
of_lease c s = record { from_low = omega (arith, s.lease.from_low); to_high = s.lease.to_high }

settings_sound : (c : FabricConfig) (d : Data) → IsSound c → IfOk (settings_of c d) (IsSoundService c)
unfolding settings_of
settings_sound c d s =
    passes ServiceField.Unknown (has_known_keys d) d _ _ λ _.
    over (join_of c d) _ (SoundJoin c) _ (join_sound c d) λ join p.
    over (partitions_of d) _ SoundPartitions _ (partitions_sound d) λ partitions q.
    over (ticks_or_lease c (given ServiceField.HealAfter d)) _ (Within 1 1000000000) _ (heal_after_sound c (given ServiceField.HealAfter d) (of_lease c s)) λ ticks r.
    after (choice_or_some (given ServiceField.Lines d)) _ _ λ lines.
    over (again_of c d) _ (λ o. IfSome o (IsSoundAgain c)) _ (again_sound c d) λ again t.
    record {
      join_count = p.count;
      joined = p.each;
      join_once = p.once;
      partitions_count = q.count;
      partitions = q.each;
      partitions_once = q.once;
      heal_after = r;
      again = t;
    }

pub defaults_sound : (c : FabricConfig) → IsSound c → IsSoundService c (defaults c)
defaults_sound c s = record {
  join_count = omega arith;
  joined = λ k d h. absurd (omega arith);
  join_once = λ i j d h k. absurd (omega arith);
  partitions_count = omega arith;
  partitions = λ k d h. absurd (omega arith);
  partitions_once = λ i j d h k. absurd (omega arith);
  heal_after = of_lease c s;
  again = tt;
}

line_sound : (c : FabricConfig) (line : List ℕ) → IsSound c → IfOk (service_of c line) (IsSoundService c)
unfolding service_of
line_sound c [] s = defaults_sound c s
line_sound c (b ∷ bs) s = after (document_of (b ∷ bs)) (settings_of c) _ λ d. settings_sound c d s

pub read_sound : (c : FabricConfig) (line : List ℕ) (s : ServiceSettings) → IsSound c → service_of c line ≡ Ok s → IsSoundService c s
read_sound c line s sound e = IfOk-at_ok (IsSoundService c) e (line_sound c line sound)

-- the same of a reader's answer
pub answer_sound : (c : FabricConfig) (d : Data) (r : Result ServiceSettings ServiceError) → IsSound c → Reads (settings_of c d) r → IfOk r (IsSoundService c)
answer_sound c d (Ok s) sound e = IfOk-at_ok (IsSoundService c) e (settings_sound c d sound)
answer_sound c d (Err e) sound why = tt

pub ruleset answers = (answer_sound, defaults_sound)
