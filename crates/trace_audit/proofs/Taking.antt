-- What is read of lines that keep to the limits.
use Rattle.std.proofs.Common.{◌≡◌, ℕ, ◌+◌, ◌≤◌, Bool, true, false, List, [], ◌∷◌, ◌++◌, length, Option, Some, Ok, arith, refl, ap, ◌∙◌}
use Rattle.std.specs.Prelude.{All, nat_lt}
use Rattle.std.proofs.lemmas.Bool.Decides.{nat_tests}
use Rattle.std.proofs.lemmas.List.Elements.{All-head, All-tail}
use Rattle.source_lines.specs.Lines.{is_ignored, most_lines}
use Rattle.text_fields.specs.Fields.{◌>>=◌}
use Rattle.text_fields.proofs.FieldLaws.{bind_some}
use Rattle.text_fields.proofs.Numbers.{some_same}
use Rattle.transcript_audit.specs.Said.{said_of}
use Rattle.transcript_audit.specs.Transcript.{Reading, end_of, is_large, line_read, most_bytes, most_line, placed_if, read_from, read_on, read_unless}

-- what is read with one line more, and with these lines more
abbrev pub taken_if : Bool → List ℕ → Reading → Option Reading
taken_if true line r = Some r
taken_if false line r = placed_if (said_of line) r

abbrev pub taken_one : List ℕ → Reading → Option Reading
taken_one line r = taken_if (is_ignored line) line r

abbrev pub taken : List (List ℕ) → Reading → Option Reading
taken [] r = Some r
taken (l ∷ ls) r = taken_one l r >>= λ s. taken ls s

pub taken_more : (ls ms : List (List ℕ)) (r s : Reading) → taken ls r ≡ Some s → taken (ls ++ ms) r ≡ taken ms s
taken_more [] ms r s e = ap (taken ms) (some_same r s e)
taken_more (l ∷ ls) ms r s e =
    let first = bind_some (taken_one l r) (λ t. taken ls t) s e in
    ap (λ o. o >>= λ t. taken (ls ++ ms) t) first.1 ∙ taken_more ls ms first.0 s first.2

within : (n end : ℕ) (line : List ℕ) → length line ≤ most_line → n ≤ most_lines → end ≤ most_bytes → is_large n end line ≡ false
within n end line short few near =
    let a : nat_lt most_line (length line) ≡ false = grind (arith, nat_tests) in
    let b : nat_lt most_lines n ≡ false = grind (arith, nat_tests) in
    let c : nat_lt most_bytes end ≡ false = grind (arith, nat_tests) in
    rw a (rw b (rw c refl))

line_taken : (n end : ℕ) (line : List ℕ) (r s : Reading) → is_large n end line ≡ false → taken_one line r ≡ Some s → line_read n end line r ≡ Ok s
line_taken n end line r s small e = ap (λ b. read_unless b (is_ignored line) n (placed_if (said_of line) r) r) small ∙ by_test (is_ignored line) e
  where
    by_test : (b : Bool) → taken_if b line r ≡ Some s → read_unless false b n (placed_if (said_of line) r) r ≡ Ok s
    by_test true g = ap (λ (x : Reading). Ok x) (some_same r s g)
    by_test false g = ap (λ o. read_unless false false n o r) g

-- so no limit is passed
pub read_taken : (total n at : ℕ) (ls : List (List ℕ)) (r s : Reading) → total ≤ most_bytes → n + length ls ≤ most_lines + 1 →
    All (λ l. length l ≤ most_line) ls → taken ls r ≡ Some s → read_from total n at r ls ≡ Ok s
read_taken total n at [] r s near few short e = ap (λ (x : Reading). Ok x) (some_same r s e)
read_taken total n at (l ∷ ls) r s near few short e =
    let first = bind_some (taken_one l r) (λ t. taken ls t) s e in
    let end : ℕ = end_of total at l in
    let one = line_taken n end l r first.0 (within n end l (All-head (λ l. length l ≤ most_line) l ls short) (omega arith) (omega arith)) first.1 in
    ap (λ o. read_on o (λ x. read_from total (n + 1) end x ls)) one
    ∙ read_taken total (n + 1) end ls first.0 s near (omega arith) (All-tail (λ l. length l ≤ most_line) l ls short) first.2
