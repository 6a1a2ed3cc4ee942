-- A list of records on the way of being read.
use Rattle.std.proofs.Common.{◌≡◌, ℕ, zero, suc, ◌+◌, ◌<◌, ◌≤◌, true, List, [], ◌∷◌, length, drop, take, get_or, map, refl, sym, ap, subst, ◌∙◌, arith, add-one, drop-cons}
use Rattle.std.proofs.Math.ListN.{drop_of_length-le}
use Rattle.std.proofs.lemmas.List.{length-map, take_all}
use Rattle.std.specs.Map.{values_of}
use Rattle.fabric_terms.specs.declared.record.Record.{Record}
use Rattle.ring_rules.specs.Arbiters.{no_table}
use Rattle.arbiter_tables.specs.Registers.{are_placed}
use Rattle.keep_log.specs.declared.kept.Kept.{Kept}
use Rattle.keep_log.specs.Amounts.{Amount, nothing, with_record, with_records}
use Rattle.keep_log.specs.Outcomes.{AmountsTo, HasFront}
use Rattle.keep_log.specs.Places.{Stands, Follows, IsBadAfter, is_once}
use Rattle.keep_log.proofs.Growing.{once_with, placed_with}
use Rattle.keep_log.proofs.Holding.{holds}
use Rattle.keep_log.proofs.Lists.{follows_more, follows_none}

-- the bytes are records in their places from the first on, and this is what they amount to
abbrev pub AreRead : List (List ℕ) → Amount → Type 0
AreRead lists a = (all : List Record) × (Follows nothing lists all × (with_records nothing all ≡ a))

-- i records are read, and amount to this
pub record IsReading {V : Type 0} (items : V → List ℕ) (records : List V) (i : ℕ) (a : Amount) : Type 0 where
  pub once : is_once no_table a.arbiter ≡ true
  pub placed : are_placed [] a.arbiter ≡ true
  pub ends : (rest : List Record) → Follows a (map items (drop i records)) rest → AreRead (map items records) (with_records a rest)
  pub fronts : (m : ℕ) (rest : List Record) → Follows a (take m (map items (drop i records))) rest → (all : List Record) × Follows nothing (take (i + m) (map items records)) all
  pub stops : (m : ℕ) → IsBadAfter a (map items (drop i records)) m → IsBadAfter nothing (map items records) (i + m)

rest_is : {V : Type 0} (items : V → List ℕ) (records : List V) (i : ℕ) (v : V) → i < length records → v ≡ get_or records i v
    → map items (drop i records) ≡ items v ∷ map items (drop (i + 1) records)
rest_is items records i v inside is =
    let here : drop i records ≡ v ∷ drop (i + 1) records = rw (add-one, drop-cons records i v) (ap (λ x. x ∷ drop (suc i) records) (sym is)) in
    ap (map items) here

pub read_more : {V : Type 0} (items : V → List ℕ) (records : List V) (i : ℕ) (v : V) (a next : Amount) (r : Record)
    → i < length records → v ≡ get_or records i v → IsReading items records i a → Stands a r (items v)
    → next ≡ with_record a r → IsReading items records (i + 1) next
read_more {V} items records i v a next r inside is state stands made =
    let rest = rest_is items records i v inside is in
    let more = map items (drop (i + 1) records) in
    let Once : Amount → Type 0 = λ k. is_once no_table k.arbiter ≡ true in
    let Placed : Amount → Type 0 = λ k. are_placed [] k.arbiter ≡ true in
    record {
      once = subst Once (sym made) (once_with a r state.once stands.next);
      placed = subst Placed (sym made) (placed_with a r state.placed stands.next);
      ends = λ after f.
          let P : List (List ℕ) → Type 0 = λ l. Follows a l (r ∷ after) in
          let Q : Amount → Type 0 = λ k. Follows k more after in
          let R : Amount → Type 0 = λ k. AreRead (map items records) (with_records k after) in
          subst R (sym made) (state.ends (r ∷ after) (subst P (sym rest) (follows_more a r (items v) more after stands (subst Q made f))));
      fronts = λ m after f.
          let P : List (List ℕ) → Type 0 = λ l. Follows a (take (suc m) l) (r ∷ after) in
          let Q : Amount → Type 0 = λ k. Follows k (take m more) after in
          let R : ℕ → Type 0 = λ n. (all : List Record) × Follows nothing (take n (map items records)) all in
          let place : i + suc m ≡ i + 1 + m = omega arith in
          subst R place (state.fronts (suc m) (r ∷ after) (subst P (sym rest) (follows_more a r (items v) (take m more) after stands (subst Q made f))));
      stops = λ m b.
          let P : List (List ℕ) → Type 0 = λ l. IsBadAfter a l (suc m) in
          let Q : Amount → Type 0 = λ k. IsBadAfter k more m in
          let R : ℕ → Type 0 = λ n. IsBadAfter nothing (map items records) n in
          let place : i + suc m ≡ i + 1 + m = omega arith in
          subst R place (state.stops (suc m) (subst P (sym rest) (r, (stands, subst Q made b))));
    }

pub read_bad : {V : Type 0} (items : V → List ℕ) (records : List V) (i : ℕ) (v : V) (a : Amount)
    → i < length records → v ≡ get_or records i v → IsReading items records i a → ((r : Record) → Stands a r (items v) → ⊥)
    → IsBadAfter nothing (map items records) i
read_bad {V} items records i v a inside is state none =
    let P : List (List ℕ) → Type 0 = λ l. IsBadAfter a l zero in
    let R : ℕ → Type 0 = λ n. IsBadAfter nothing (map items records) n in
    let place : i + zero ≡ i = omega arith in
    subst R place (state.stops zero (subst P (sym (rest_is items records i v inside is)) none))

-- the record at hand stands in its place
pub read_front : {V : Type 0} (items : V → List ℕ) (records : List V) (i : ℕ) (v : V) (a : Amount) (r : Record)
    → i < length records → v ≡ get_or records i v → IsReading items records i a → Stands a r (items v) → HasFront (map items records)
read_front {V} items records i v a r inside is state stands =
    let P : List (List ℕ) → Type 0 = λ l. Follows a (take 1 l) (r ∷ []) in
    (i, state.fronts 1 (r ∷ []) (subst P (sym (rest_is items records i v inside is)) (follows_more a r (items v) [] [] stands (follows_none (with_record a r)))))

-- all records stand in their places
pub read_whole : {V : Type 0} (items : V → List ℕ) (records : List V) (i : ℕ) (a : Amount)
    → length records ≤ i → IsReading items records i a → HasFront (map items records)
read_whole {V} items records i a end state =
    let lists = map items records in
    let few : length lists ≤ i = omega (arith, end, length-map records items) in
    let same : take (i + 0) lists ≡ take (i + 1) lists = take_all (i + 0) lists (omega (arith, few)) ∙ sym (take_all (i + 1) lists (omega (arith, few))) in
    let P : List (List ℕ) → Type 0 = λ l. (all : List Record) × Follows nothing l all in
    (i, subst P same (state.fronts 0 [] (follows_none a)))

pub read_all : {V : Type 0} (items : V → List ℕ) (records : List V) (i : ℕ) (a : Amount) (kept : Kept)
    → length records ≤ i → IsReading items records i a
    → kept ≡ record { boots = a.boots; arbiter = a.arbiter; replicas = values_of a.replicas } → AmountsTo (map items records) kept
read_all {V} items records i a kept end state is =
    let P : List (List ℕ) → Type 0 = λ l. Follows a l [] in
    let all = state.ends [] (subst P (sym (ap (map items) (drop_of_length-le records end))) (follows_none a)) in
    (all.0, (all.1.0, holds all.0 kept a all.1.1 is))

pub read_none : {V : Type 0} (items : V → List ℕ) (records : List V) (a : Amount) → a ≡ nothing → IsReading items records 0 a
read_none {V} items records a is =
    let P : Amount → Type 0 = λ k. IsReading items records 0 k in
    subst P (sym is) (record {
      once = refl;
      placed = refl;
      ends = λ rest f. (rest, (f, refl));
      fronts = λ m rest f. let R : ℕ → Type 0 = λ n. (all : List Record) × Follows nothing (take n (map items records)) all in let place : m ≡ 0 + m = omega arith in subst R place (rest, f);
      stops = λ m b. let R : ℕ → Type 0 = λ n. IsBadAfter nothing (map items records) n in let place : m ≡ 0 + m = omega arith in subst R place b;
    })
