-- A configuration that was read is sound: a law of the definitions alone.
use Rattle.std.proofs.Common.{◌≡◌, ℕ, suc, ◌+◌, ◌^◌, ◌<◌, ◌≤◌, ◌||◌, ◌==◌, nat_le, zero, subst, Bool, true, false, List, [], ◌∷◌, ◌++◌, length, slice_get, Option, Some, None, option_and_then, Result, Ok, Err, IfOk, IfSome, refl, ap, sym, ◌∙◌, arith, append_assoc}
use Rattle.std.specs.Prelude.{All, Any}
use Rattle.std.specs.List.{AllPairs, list_any}
use Rattle.std.proofs.lemmas.Bool.Decides.{nat_tests}
use Rattle.std.proofs.lemmas.List.{append-nil}
use Rattle.std.proofs.lemmas.Result.{IfOk-weaker, IfOk-at_ok}
use Rattle.std.proofs.lemmas.List.Elements.{All-cons}
use Rattle.std.proofs.lemmas.List.Quantifiers.{all_pairs_push}
use Rattle.serde_json.specs.Data.{Data}
use Rattle.serde_json.specs.Find.{get, as_array, as_str}
use Rattle.ring_points.specs.declared.point.Point.{Point}
use Rattle.fabric_terms.specs.declared.config.NodeEntry.{NodeEntry}
use Rattle.fabric_terms.specs.declared.config.FabricConfig.{FabricConfig}
use Rattle.fabric_terms.specs.Sound.{Within, IsSoundNode, AreApart, IsSound}
use Rattle.fabric_config.specs.declared.error.ConfigError.{ConfigError}
use Rattle.fabric_config.specs.declared.field.Field.{Field}
use Rattle.fabric_config.specs.Checks.{◌>>=◌, or_missing, Reads}
use Rattle.fabric_config.specs.Fields.{name_of}
use Rattle.fabric_config.specs.Numbers.{whole, in_range, number, required, number_or, optional}
use Rattle.fabric_config.specs.Entries.{elements, list_of, entry_of, address_of}
use Rattle.fabric_config.specs.Nodes.{point_in, node_of, repeats, first_repeated, unless_repeated, nodes_of, listed, or_not_listed, first_of}
use Rattle.fabric_config.specs.Nodes as nodes
use Rattle.fabric_config.specs.Arbiters.{arbiter_of, arbiters_of}
use Rattle.fabric_config.specs.Arbiters as arbiters
use Rattle.fabric_config.specs.Points.{point_of}
use Rattle.fabric_config.specs.Config.{document_of, config_of, config_of_line}
use Rattle.fabric_config.proofs.Points.{point_fits}

-- what the first check gives holds for the second
pub over : {A B : Type 0} (r : Result A ConfigError) (f : A → Result B ConfigError) (P : A → Type 0) (Q : B → Type 0)
    → IfOk r P → ((x : A) → P x → IfOk (f x) Q) → IfOk (r >>= f) Q
over (Ok x) f P Q first then = then x first
over (Err e) f P Q first then = tt

pub anything : {A : Type 0} (r : Result A ConfigError) → IfOk r (λ _. Unit {0})
anything (Ok x) = tt
anything (Err e) = tt

-- a check of which nothing is told, and then the rest
pub after : {A B : Type 0} (r : Result A ConfigError) (f : A → Result B ConfigError) (Q : B → Type 0)
    → ((x : A) → IfOk (f x) Q) → IfOk (r >>= f) Q
after r f Q then = over r f (λ _. Unit {0}) Q (anything r) (λ x _. then x)

in_range_within : (field : Field) (least greatest n : ℕ)
    → IfOk (in_range field least greatest n) (λ m. (m ≡ n) × Within least greatest n)
in_range_within field least greatest n = by (nat_le least n) (nat_le n greatest) refl refl
  where
    by : (a b : Bool) → nat_le least n ≡ a → nat_le n greatest ≡ b
        → IfOk (in_range field least greatest n) (λ m. (m ≡ n) × Within least greatest n)
    by true true p q =
        rw (p, q) (refl, record { from_low = grind (arith, nat_tests, p); to_high = grind (arith, nat_tests, q) })
    by true false p q = rw (p, q) tt
    by false b p q = rw p tt

number_within : (field : Field) (least greatest : ℕ) (d : Data) → IfOk (number field least greatest d) (Within least greatest)
number_within field least greatest d =
    after (whole field d) (in_range field least greatest) _ λ n.
    IfOk-weaker (in_range field least greatest n) _ _ (λ m p. subst (Within least greatest) (sym p.0) p.1)
    (in_range_within field least greatest n)

-- a field that must stand, and then the rest
pub needs : {B : Type 0} (field : Field) (least greatest : ℕ) (d : Data) (f : ℕ → Result B ConfigError) (Q : B → Type 0)
    → ((n : ℕ) → Within least greatest n → IfOk (f n) Q) → IfOk (required field least greatest d >>= f) Q
unfolding required
needs field least greatest d f Q then =
    over (required field least greatest d) f (Within least greatest) Q
    (after (or_missing field (get (name_of field) d)) (number field least greatest) _ (number_within field least greatest))
    then

-- a field that may be absent, and then the rest
pub takes : {B : Type 0} (field : Field) (least greatest default : ℕ) (d : Data) (f : ℕ → Result B ConfigError) (Q : B → Type 0)
    → Within least greatest default
    → ((n : ℕ) → Within least greatest n → IfOk (f n) Q) → IfOk (optional field least greatest default d >>= f) Q
unfolding optional
takes field least greatest default d f Q fits then =
    over (optional field least greatest default d) f (Within least greatest) Q (by (get (name_of field) d)) then
  where
    by : (o : Option Data) → IfOk (number_or field least greatest default o) (Within least greatest)
    by None = fits
    by (Some x) = number_within field least greatest x

pub fits : (low high n : ℕ) → low ≤ n → n ≤ high → Within low high n
fits low high n p q = record { from_low = p; to_high = q }

pub list_within : (field : Field) (most : ℕ) (d : Data) → IfOk (list_of field most d) (λ ds. Within 1 most (length ds))
unfolding list_of
list_within field most d =
    after (or_missing field (option_and_then as_array (get (name_of field) d))) _ _ λ items.
    over (in_range field 1 most (length (elements items))) _ _ _ (in_range_within field 1 most (length (elements items)))
    λ n p. p.1

point_within : (d : Data) → IfOk (point_in d) (λ x. x.0 < 2 ^ 64)
unfolding point_in
point_within d = by (option_and_then as_str (get (name_of Field.Point) d))
  where
    spelled : (o : Option Point) → IfSome o (λ x. x.0 < 2 ^ 64) → IfOk (or_missing Field.Point o) (λ x. x.0 < 2 ^ 64)
    spelled None small = tt
    spelled (Some x) small = small

    by : (o : Option (List ℕ)) → IfOk (or_missing Field.Point (option_and_then point_of o)) (λ x. x.0 < 2 ^ 64)
    by None = tt
    by (Some bytes) = spelled (point_of bytes) (point_fits bytes)

node_sound : (lease : ℕ) (d : Data) → Within 10 1000000000 lease → IfOk (node_of lease d) IsSoundNode
unfolding node_of
node_sound lease d w =
    after (entry_of Field.Nodes d) _ _ λ entry.
    needs Field.Node 1 999 entry _ _ λ number p.
    over (point_in entry) _ (λ x. x.0 < 2 ^ 64) _ (point_within entry) λ place o.
    takes Field.Domain 1 64 1 entry _ _ (fits 1 64 1 (omega arith) (omega arith)) λ domain q.
    after (address_of entry) _ _ λ address.
    takes Field.Longest 10 1000000000 lease entry _ _ w λ longest r.
    record { node = p; point = o; domain = q; longest = r }

record SoundEntries (count : ℕ) (nodes : List NodeEntry) : Type 0 where
  as_many : length nodes ≡ count
  each : All IsSoundNode nodes

entries_sound : (lease : ℕ) (ds : List Data) → Within 10 1000000000 lease
    → IfOk (nodes.entries_of lease ds) (SoundEntries (length ds))
entries_sound lease [] w = record { as_many = refl; each = λ k d h. absurd (omega arith) }
entries_sound lease (d ∷ ds) w =
    over (node_of lease d) _ IsSoundNode _ (node_sound lease d w) λ node p.
    over (nodes.entries_of lease ds) _ (SoundEntries (length ds)) _ (entries_sound lease ds w) λ rest q.
    record { as_many = ap suc q.as_many; each = All-cons IsSoundNode node rest p q.each }

neither : (a b : Bool) → (a || b) ≡ false → (a ≡ false) × (b ≡ false)
neither true b e = absurd (cc)
neither false b e = (refl, e)

none_passes : {X : Type 0} (p : X → Bool) (xs : List X) → list_any p xs ≡ false → All (λ x. p x ≡ false) xs
none_passes p [] e = λ k d h. absurd (omega arith)
none_passes p (x ∷ xs) e =
    let both = neither (p x) (list_any p xs) e in
    All-cons (λ y. p y ≡ false) x xs both.0 (none_passes p xs both.1)

abbrev NoneRepeats : List NodeEntry → Type 0
NoneRepeats nodes = AllPairs (λ a b. repeats a b ≡ false) nodes

none_repeats : (earlier nodes : List NodeEntry) → NoneRepeats earlier → first_repeated earlier nodes ≡ None → NoneRepeats (earlier ++ nodes)
none_repeats earlier [] before none = rw append-nil before
none_repeats earlier (n ∷ ns) before none =
    by (list_any (λ a. repeats a n) earlier) refl (λ more rest. none_repeats (earlier ++ n ∷ []) ns more rest)
  where
    by : (b : Bool) → list_any (λ a. repeats a n) earlier ≡ b
        → (NoneRepeats (earlier ++ n ∷ []) → first_repeated (earlier ++ n ∷ []) ns ≡ None → NoneRepeats ((earlier ++ n ∷ []) ++ ns))
        → NoneRepeats (earlier ++ n ∷ ns)
    by true e on = let never : Some n.node ≡ None = rw e at none in absurd (cc)
    by false e on =
        let rest : first_repeated (earlier ++ n ∷ []) ns ≡ None = rw e at none in
        let passed = none_passes (λ a. repeats a n) earlier e in
        let more = all_pairs_push (λ a b. repeats a b ≡ false) earlier n before (λ k d h. passed k d h) in
        rw (← append_assoc earlier (n ∷ []) ns) (on more rest)

apart_from : (a b : NodeEntry) → repeats a b ≡ false → AreApart a b
apart_from a b e =
    let parts = neither (a.node == b.node) (a.point.0 == b.point.0) e in
    record { numbers = grind (arith, nat_tests, parts.0); points = grind (arith, nat_tests, parts.1) }

record SoundNodes (nodes : List NodeEntry) : Type 0 where
  count : Within 1 64 (length nodes)
  each : All IsSoundNode nodes
  apart : AllPairs AreApart nodes

nodes_sound : (lease : ℕ) (d : Data) → Within 10 1000000000 lease → IfOk (nodes_of lease d) SoundNodes
unfolding nodes_of
nodes_sound lease d w =
    over (list_of Field.Nodes 64 d) _ (λ ds. Within 1 64 (length ds)) SoundNodes (list_within Field.Nodes 64 d) λ ds p.
    over (nodes.entries_of lease ds) _ (SoundEntries (length ds)) SoundNodes (entries_sound lease ds w) λ entries q.
    by ds entries p q (first_repeated [] entries) refl
  where
    by : (ds : List Data) (entries : List NodeEntry) → Within 1 64 (length ds) → SoundEntries (length ds) entries
        → (o : Option ℕ) → first_repeated [] entries ≡ o → IfOk (unless_repeated entries o) SoundNodes
    by ds entries p q (Some n) e = tt
    by ds entries p q None e =
        let far = none_repeats [] entries (λ i j d h k. absurd (omega arith)) e in
        record {
          count = subst (Within 1 64) (sym q.as_many) p;
          each = q.each;
          apart = λ i j d h k. apart_from _ _ (far i j d h k);
        }

arbiter_numbered : (place : ℕ) (d : Data) → IfOk (arbiter_of place d) (λ a. a.0 ≡ place)
unfolding arbiter_of
arbiter_numbered place d =
    after (entry_of Field.Arbiters d) _ _ λ entry.
    needs Field.Arbiter place place entry _ _ λ number _.
    after (address_of entry) _ _ λ address. refl

record NumberedFrom (place count : ℕ) (arbiters : List (ℕ × List ℕ)) : Type 0 where
  as_many : length arbiters ≡ count
  in_order : (k : ℕ) (a : ℕ × List ℕ) → slice_get arbiters k ≡ Some a → a.0 ≡ place + k

arbiters_numbered : (place : ℕ) (ds : List Data) → IfOk (arbiters.entries_of place ds) (NumberedFrom place (length ds))
arbiters_numbered place [] = record { as_many = refl; in_order = λ k a e. absurd (cc) }
arbiters_numbered place (d ∷ ds) =
    over (arbiter_of place d) _ (λ a. a.0 ≡ place) _ (arbiter_numbered place d) λ a p.
    over (arbiters.entries_of (place + 1) ds) _ (NumberedFrom (place + 1) (length ds)) _ (arbiters_numbered (place + 1) ds) λ rest q.
    record { as_many = ap suc q.as_many; in_order = at a rest p q }
  where
    at : (a : ℕ × List ℕ) (rest : List (ℕ × List ℕ)) → a.0 ≡ place → NumberedFrom (place + 1) (length ds) rest
        → (k : ℕ) (b : ℕ × List ℕ) → slice_get (a ∷ rest) k ≡ Some b → b.0 ≡ place + k
    at a rest p q zero b e = let here : a ≡ b = cc in omega (arith, p, ap (λ x. x.0) here)
    at a rest p q (suc k) b e = let there = q.in_order k b e in omega (arith, there)

record SoundArbiters (arbiters : List (ℕ × List ℕ)) : Type 0 where
  count : Within 1 9 (length arbiters)
  in_order : (k : ℕ) (a : ℕ × List ℕ) → slice_get arbiters k ≡ Some a → a.0 ≡ k + 1

arbiters_sound : (d : Data) → IfOk (arbiters_of d) SoundArbiters
unfolding arbiters_of
arbiters_sound d =
    over (list_of Field.Arbiters 9 d) _ (λ ds. Within 1 9 (length ds)) SoundArbiters (list_within Field.Arbiters 9 d) λ ds p.
    IfOk-weaker (arbiters.entries_of 1 ds) (NumberedFrom 1 (length ds)) SoundArbiters
    (λ arbiters q. record {
      count = subst (Within 1 9) (sym q.as_many) p;
      in_order = λ k a e. q.in_order k a e ∙ omega arith;
    })
    (arbiters_numbered 1 ds)

listed_node : (number : ℕ) (nodes : List NodeEntry)
    → IfOk (or_not_listed number (listed number nodes)) (λ n. Any (λ x. x.node ≡ n) nodes)
listed_node number [] = tt
listed_node number (x ∷ xs) = by (x.node == number) refl (listed_node number xs)
  where
    behind : (n : ℕ) → Any (λ y. y.node ≡ n) xs → Any (λ y. y.node ≡ n) (x ∷ xs)
    behind n (k, y, h, e, p) = (suc k, y, omega arith, e, p)

    by : (b : Bool) → (x.node == number) ≡ b
        → IfOk (or_not_listed number (listed number xs)) (λ n. Any (λ y. y.node ≡ n) xs)
        → IfOk (or_not_listed number (listed number (x ∷ xs))) (λ n. Any (λ y. y.node ≡ n) (x ∷ xs))
    by true e rest = rw e (0, x, omega arith, refl, refl)
    by false e rest = rw e (IfOk-weaker (or_not_listed number (listed number xs)) _ _ behind rest)

first_listed : (nodes : List NodeEntry) (d : Data) → IfOk (first_of nodes d) (λ n. Any (λ x. x.node ≡ n) nodes)
unfolding first_of
first_listed nodes d =
    after (or_missing Field.First (get (name_of Field.First) d)) _ _ λ value.
    after (whole Field.First value) _ _ λ number. listed_node number nodes

config_sound : (d : Data) → IfOk (config_of d) IsSound
unfolding config_of
config_sound d =
    needs Field.Lease 10 1000000000 d _ IsSound λ lease p.
    needs Field.Answer 1 1000000000 d _ IsSound λ answer q.
    needs Field.Drift 0 100 d _ IsSound λ drift r.
    needs Field.Grain 0 1000000 d _ IsSound λ grain s.
    takes Field.Near 0 4 0 d _ IsSound (fits 0 4 0 (omega arith) (omega arith)) λ near t.
    takes Field.Rounds 1 8 1 d _ IsSound (fits 1 8 1 (omega arith) (omega arith)) λ rounds u.
    over (nodes_of lease d) _ SoundNodes IsSound (nodes_sound lease d p) λ nodes v.
    over (arbiters_of d) _ SoundArbiters IsSound (arbiters_sound d) λ arbiters w.
    over (first_of nodes d) _ (λ n. Any (λ x. x.node ≡ n) nodes) IsSound (first_listed nodes d) λ first x.
    record {
      lease = p;
      answer = q;
      drift = r;
      grain = s;
      near = t;
      rounds = u;
      nodes_count = v.count;
      nodes = v.each;
      nodes_apart = v.apart;
      arbiters_count = w.count;
      arbiters_in_order = w.in_order;
      first_listed = x;
    }

pub line_sound : (line : List ℕ) (c : FabricConfig) → config_of_line line ≡ Ok c → IsSound c
unfolding config_of_line
line_sound line c e = IfOk-at_ok IsSound e (after (document_of line) config_of IsSound config_sound)

-- the same of a reader's answer
pub read_sound : (d : Data) (r : Result FabricConfig ConfigError) → Reads (config_of d) r → IfOk r IsSound
read_sound d (Ok c) e = IfOk-at_ok IsSound e (config_sound d)
read_sound d (Err e) why = tt
