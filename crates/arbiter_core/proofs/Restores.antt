-- An arbitrator on the way of being restored.
use Rattle.std.proofs.Common.{◌≡◌, ℕ, suc, ◌+◌, ◌<◌, ◌≤◌, Bool, true, false, List, [], ◌∷◌, length, Option, Some, None, Ok, Err, subst, drop, get_or, add-one, drop-cons, refl, ap, sym, ◌∙◌, arith, length-append}
use Rattle.std.proofs.Math.ListN.{drop_of_length-le}
use Rattle.std.specs.Prelude.{nat_lt, Result}
use Rattle.std.proofs.lemmas.Bool.{and_parts}
use Rattle.std.proofs.lemmas.Bool.Decides.{nat_tests}
use Rattle.fabric_terms.specs.declared.record.Record.{Record}
use Rattle.fabric_terms.specs.declared.record.Record.TheVariants.{AccusedBy, ClaimedBy, PreparedBy, VotedFor, DoneFor}
use Rattle.fabric_lemmas.specs.Maps.{rises}
use Rattle.fabric_lemmas.proofs.Maps.{rises-put}
use Rattle.arbiter_core.specs.declared.answer.ArbiterError.{ArbiterError}
use Rattle.arbiter_core.specs.declared.answer.ArbiterError.TheVariants.{TableFull}
use Rattle.ring_rules.specs.Arbiters.{Table, table_with}
use Rattle.unit_rules.specs.Registers.{Registers, register_after, register_of}
use Rattle.arbiter_tables.specs.Registers.{are_placed, is_placed, one_of, registered}
use Rattle.arbiter_tables.specs.Tables.{entries_of}
use Rattle.arbiter_tables.proofs.Counts.{prepared_counted, vote_counted, done_counted}
use Rattle.keep_log.specs.Places.{is_new, is_once}
use Rattle.arbiter_core.specs.Arbiters.{Arbiter, Outcome, arbiter_records, entries, most_entries, is_full_for, kept_where_full, remember_call, restore_call, restored, with_kept}

-- these records have been read, and the rest are to be read
pub record IsRestoring (own : ℕ) (records rest : List Record) (a : Arbiter) : Type 0 where
  pub total : with_kept rest a ≡ restored own records
  pub once : is_once a.table rest ≡ true
  pub placed : are_placed a.registers rest ≡ true
  pub rise : rises a.registers ≡ true
  pub room : entries a ≤ most_entries

-- A record more.

-- the registers go on rising
pub rises_with : (r : Record) (rs : Registers) → rises rs ≡ true → rises (register_after rs r) ≡ true
rises_with (PreparedBy partition epoch preparer) rs up = rises-put partition _ rs up
rises_with (VotedFor config) rs up = rises-put config.partition _ rs up
rises_with (DoneFor config) rs up = rises-put config.partition _ rs up
rises_with _ rs up = up

-- what is kept of a record is the record
same_with : (r : Record) (rest : List Record) (a : Arbiter) → with_kept rest (with_kept (arbiter_records r) a) ≡ with_kept (r ∷ rest) a
same_with (AccusedBy victim first) rest a = refl
same_with (ClaimedBy victim round claimer) rest a = refl
same_with (PreparedBy partition epoch preparer) rest a = refl
same_with (VotedFor config) rest a = refl
same_with (DoneFor config) rest a = refl
same_with _ rest a = refl

-- an entry is made at most, and none goes
table_more : (r : Record) (table : Table) → entries_of table ≤ entries_of (table_with table r)
table_more (AccusedBy victim first) table = omega (arith, length-append table.accusations ((victim, first) ∷ []))
table_more (ClaimedBy victim round claimer) table = omega (arith, length-append table.claims ((victim, round, claimer) ∷ []))
table_more _ table = omega arith

at_most_one : {X : Type 0} (o : Option X) → one_of o ≤ 1
at_most_one None = omega arith
at_most_one (Some x) = omega arith

registers_more : (r : Record) (rs : Registers) → rises rs ≡ true → registered rs ≤ registered (register_after rs r)
registers_more (PreparedBy partition epoch preparer) rs up =
    omega (arith, prepared_counted partition (record { epoch = epoch; preparer = preparer }) rs up, at_most_one (register_of partition rs).prepared)
registers_more (VotedFor config) rs up = omega (arith, vote_counted config rs up)
registers_more (DoneFor config) rs up = omega (arith, done_counted config.partition config rs up, at_most_one (register_of config.partition rs).done)
registers_more _ rs up = omega arith

-- records only add entries
pub grown : (rest : List Record) (a : Arbiter) → rises a.registers ≡ true → entries a ≤ entries (with_kept rest a)
grown [] a up = omega arith
grown (r ∷ rest) a up =
    omega (
      arith,
      table_more r a.table,
      registers_more r a.registers up,
      grown rest (record a { table = table_with a.table r; registers = register_after a.registers r }) (rises_with r a.registers up),
    )

-- where there is a place for a record, the entries stay in their limit, and else they pass it
within : (records : List Record) (a : Arbiter) → is_full_for records a ≡ false → entries a ≤ most_entries → entries (with_kept records a) ≤ most_entries
within [] a e room = room
within (r ∷ rs) a e room = grind (arith, nat_tests, e)

past : (records : List Record) (a : Arbiter) → is_full_for records a ≡ true → most_entries + 1 ≤ entries (with_kept records a)
past [] a e = absurd (cc)
past (r ∷ rs) a e = grind (arith, nat_tests, e)

-- a record is remembered
pub remembered : (own : ℕ) (records rest : List Record) (r : Record) (a b : Arbiter)
    → IsRestoring own records (r ∷ rest) a → remember_call r a ≡ (Ok tt, b) → IsRestoring own records rest b
remembered own records rest r a b state done = by (is_full_for (arbiter_records r) a) refl done
  where
    by : (t : Bool) → is_full_for (arbiter_records r) a ≡ t
        → kept_where_full t (arbiter_records r) (tt {0}) a ≡ (Ok tt, b) → IsRestoring own records rest b
    by true f e = let refused : ◌≡◌ {A = Result (Unit {0}) ArbiterError} (Err TableFull) (Ok tt) = ap (λ (o : Outcome (Unit {0})). o.0) e in absurd (cc)
    by false f e =
        let P : Arbiter → Type 0 = λ b. IsRestoring own records rest b in
        let same : with_kept (arbiter_records r) a ≡ with_kept (r ∷ []) a = same_with r [] a in
        subst P (ap (λ (o : Outcome (Unit {0})). o.1) e) (record {
          total = same_with r rest a ∙ state.total;
          once = ap (λ (x : Arbiter). is_once x.table rest) same ∙ (and_parts (is_new a.table r) (is_once (table_with a.table r) rest) state.once).1;
          placed = ap (λ (x : Arbiter). are_placed x.registers rest) same
              ∙ (and_parts (is_placed a.registers r) (are_placed (register_after a.registers r) rest) state.placed).1;
          rise = ap (λ (x : Arbiter). rises x.registers) same ∙ rises_with r a.registers state.rise;
          room = within (arbiter_records r) a f state.room;
        })

next_rest : (records : List Record) (i : ℕ) (item : Record) → i < length records → item ≡ get_or records i item
    → drop i records ≡ item ∷ drop (i + 1) records
next_rest records i item inside is = rw (add-one, drop-cons records i item) (ap (λ r. r ∷ drop (suc i) records) (sym is))

-- an item more of the records
pub restored_more : (own : ℕ) (records : List Record) (i : ℕ) (item : Record) (a b : Arbiter) → i < length records → item ≡ get_or records i item
    → IsRestoring own records (drop i records) a → remember_call item a ≡ (Ok tt, b) → IsRestoring own records (drop (i + 1) records) b
restored_more own records i item a b inside is state done =
    let P : List Record → Type 0 = λ rest. IsRestoring own records rest a in
    remembered own records (drop (i + 1) records) item a b (subst P (next_rest records i item inside is) state) done

all_read : (own : ℕ) (records : List Record) (a : Arbiter) → IsRestoring own records [] a → restore_call own records ≡ Ok a
all_read own records a state =
    let fits : nat_lt most_entries (entries (restored own records)) ≡ false = grind (arith, nat_tests, ap entries state.total, state.room) in
    rw fits (ap Ok (sym state.total))

-- all records are read
pub restored_is : (own : ℕ) (records : List Record) (i : ℕ) (a : Arbiter) → length records ≤ i → IsRestoring own records (drop i records) a
    → restore_call own records ≡ Ok a
restored_is own records i a end state =
    let P : List Record → Type 0 = λ rest. IsRestoring own records rest a in
    all_read own records a (subst P (drop_of_length-le records end) state)

refused : (own : ℕ) (records rest : List Record) (item : Record) (a : Arbiter) (e : ArbiterError)
    → IsRestoring own records (item ∷ rest) a → remember_call item a ≡ (Err e, a) → restore_call own records ≡ Err e
refused own records rest item a e state refusal = by (is_full_for (arbiter_records item) a) refl refusal
  where
    by : (t : Bool) → is_full_for (arbiter_records item) a ≡ t → kept_where_full t (arbiter_records item) (tt {0}) a ≡ (Err e, a)
        → restore_call own records ≡ Err e
    by true f refusal =
        let same : ◌≡◌ {A = Result (Unit {0}) ArbiterError} (Err TableFull) (Err e) = ap (λ (o : Outcome (Unit {0})). o.0) refusal in
        let is : TableFull ≡ e = cc in
        let next : with_kept (arbiter_records item) a ≡ with_kept (item ∷ []) a = same_with item [] a in
        let more = grown rest (with_kept (item ∷ []) a) (rises_with item a.registers state.rise) in
        let over : nat_lt most_entries (entries (restored own records)) ≡ true =
        grind (arith, nat_tests, past (arbiter_records item) a f, ap entries next, ap entries state.total, more) in
        rw over (ap Err is)
    by false f refusal = let done : ◌≡◌ {A = Result (Unit {0}) ArbiterError} (Ok tt) (Err e) = ap (λ (o : Outcome (Unit {0})). o.0) refusal in absurd (cc)

-- an item for which there is no place
pub restore_refused : (own : ℕ) (records : List Record) (i : ℕ) (item : Record) (a : Arbiter) (e : ArbiterError)
    → i < length records → item ≡ get_or records i item
    → IsRestoring own records (drop i records) a → remember_call item a ≡ (Err e, a) → restore_call own records ≡ Err e
restore_refused own records i item a e inside is state refusal =
    let P : List Record → Type 0 = λ rest. IsRestoring own records rest a in
    refused own records (drop (i + 1) records) item a e (subst P (next_rest records i item inside is) state) refusal

-- A part of the records that is in its place begins so.

pub first_new : (own : ℕ) (records : List Record) (i : ℕ) (item : Record) (a : Arbiter) → i < length records → item ≡ get_or records i item
    → IsRestoring own records (drop i records) a → (is_new a.table item ≡ true) × (is_placed a.registers item ≡ true)
first_new own records i item a inside is state =
    let P : List Record → Type 0 = λ rest. IsRestoring own records rest a in
    let s = subst P (next_rest records i item inside is) state in (
      (and_parts (is_new a.table item) (is_once (table_with a.table item) (drop (i + 1) records)) s.once).0,
      (and_parts (is_placed a.registers item) (are_placed (register_after a.registers item) (drop (i + 1) records)) s.placed).0,
    )
