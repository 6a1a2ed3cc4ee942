-- What a record more makes of the tables, and of what they say of an arbitrator's records.
use Rattle.std.proofs.Common.{◌≡◌, true, List, [], ◌∷◌, ◌++◌, refl, sym, ap, ◌∙◌}
use Rattle.std.proofs.lemmas.Bool.{and_parts, and_from}
use Rattle.fabric_terms.specs.declared.record.Record.{Record}
use Rattle.fabric_terms.specs.declared.record.Record.TheVariants.{AccusedBy, PreparedBy, VotedFor, DoneFor, ClaimedBy}
use Rattle.ring_rules.specs.Arbiters.{Table, no_table, table_with, table_after}
use Rattle.unit_rules.specs.Registers.{Registers, register_after, registers_after}
use Rattle.arbiter_tables.specs.Registers.{is_placed, are_placed}
use Rattle.keep_log.specs.Amounts.{Amount, with_record}
use Rattle.keep_log.specs.Places.{is_arbiter, is_new, is_next, is_once}

pub table_after-append : (table : Table) (rs : List Record) (r : Record) → table_after table (rs ++ r ∷ []) ≡ table_with (table_after table rs) r
table_after-append table [] r = refl
table_after-append table (x ∷ rs) r = table_after-append (table_with table x) rs r

pub registers_after-append : (registers : Registers) (rs : List Record) (r : Record)
    → registers_after registers (rs ++ r ∷ []) ≡ register_after (registers_after registers rs) r
registers_after-append registers [] r = refl
registers_after-append registers (x ∷ rs) r = registers_after-append (register_after registers x) rs r

is_once-append : (table : Table) (rs : List Record) (r : Record) → is_once table rs ≡ true → is_new (table_after table rs) r ≡ true
    → is_once table (rs ++ r ∷ []) ≡ true
is_once-append table [] r once new = and_from (is_new table r) true new refl
is_once-append table (x ∷ rs) r once new =
    let p = and_parts (is_new table x) (is_once (table_with table x) rs) once in
    and_from (is_new table x) (is_once (table_with table x) (rs ++ r ∷ [])) p.0 (is_once-append (table_with table x) rs r p.1 new)

are_placed-append : (registers : Registers) (rs : List Record) (r : Record) → are_placed registers rs ≡ true
    → is_placed (registers_after registers rs) r ≡ true → are_placed registers (rs ++ r ∷ []) ≡ true
are_placed-append registers [] r placed next = and_from (is_placed registers r) true next refl
are_placed-append registers (x ∷ rs) r placed next =
    let p = and_parts (is_placed registers x) (are_placed (register_after registers x) rs) placed in
    and_from (is_placed registers x) (are_placed (register_after registers x) (rs ++ r ∷ [])) p.0
    (are_placed-append (register_after registers x) rs r p.1 next)

-- with a record more, the tables that have it are those of all
pub told_more : (old new : List Record) (table grown : Table) (registers more : Registers) (r : Record)
    → table ≡ table_after no_table old → registers ≡ registers_after [] old
    → grown ≡ table_with table r → more ≡ register_after registers r → new ≡ old ++ r ∷ []
    → (grown ≡ table_after no_table new) × (more ≡ registers_after [] new)
told_more old new table grown registers more r t s g m is = (
  g ∙ (ap (λ (x : Table). table_with x r) t ∙ sym (ap (table_after no_table) is ∙ table_after-append no_table old r)),
  m ∙ (ap (λ (x : Registers). register_after x r) s ∙ sym (ap (registers_after []) is ∙ registers_after-append [] old r)),
)

-- what was once in its place is so with a record that can come next

pub once_with : (a : Amount) (r : Record) → is_once no_table a.arbiter ≡ true → is_next a r ≡ true → is_once no_table (with_record a r).arbiter ≡ true
once_with a (AccusedBy victim first) once next =
    is_once-append no_table a.arbiter (AccusedBy victim first) once
    (and_parts (is_arbiter a) (is_new (table_after no_table a.arbiter) (AccusedBy victim first)) next).1
once_with a (ClaimedBy victim round claimer) once next =
    is_once-append no_table a.arbiter (ClaimedBy victim round claimer) once
    (and_parts (is_arbiter a) (is_new (table_after no_table a.arbiter) (ClaimedBy victim round claimer)) next).1
once_with a (PreparedBy partition epoch preparer) once next = is_once-append no_table a.arbiter (PreparedBy partition epoch preparer) once refl
once_with a (VotedFor config) once next = is_once-append no_table a.arbiter (VotedFor config) once refl
once_with a (DoneFor config) once next = is_once-append no_table a.arbiter (DoneFor config) once refl
once_with a _ once next = once

pub placed_with : (a : Amount) (r : Record) → are_placed [] a.arbiter ≡ true → is_next a r ≡ true → are_placed [] (with_record a r).arbiter ≡ true
placed_with a (AccusedBy victim first) placed next = are_placed-append [] a.arbiter (AccusedBy victim first) placed refl
placed_with a (ClaimedBy victim round claimer) placed next = are_placed-append [] a.arbiter (ClaimedBy victim round claimer) placed refl
placed_with a (PreparedBy partition epoch preparer) placed next =
    are_placed-append [] a.arbiter (PreparedBy partition epoch preparer) placed
    (and_parts (is_arbiter a) (is_placed (registers_after [] a.arbiter) (PreparedBy partition epoch preparer)) next).1
placed_with a (VotedFor config) placed next =
    are_placed-append [] a.arbiter (VotedFor config) placed (and_parts (is_arbiter a) (is_placed (registers_after [] a.arbiter) (VotedFor config)) next).1
placed_with a (DoneFor config) placed next =
    are_placed-append [] a.arbiter (DoneFor config) placed (and_parts (is_arbiter a) (is_placed (registers_after [] a.arbiter) (DoneFor config)) next).1
placed_with a _ placed next = placed
