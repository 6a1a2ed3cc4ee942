-- Lists of records by the kind of their actor.
use Rattle.std.proofs.Common.{arith, ◌≡◌, ◌≤◌, ℕ, suc, Bool, true, false, List, [], ◌∷◌, length, refl, sym, ap, ◌∙◌}
use Rattle.std.specs.Prelude.{◌==◌, filter, if◌then◌else◌}
use Rattle.std.proofs.lemmas.Bool.{eqb-true, eq-eqb}
use Rattle.fabric_terms.specs.declared.record.Record.{Record}
use Rattle.keep_log.specs.Amounts.{is_arbiters}
use Rattle.turn_rules.specs.Recalled.{AreOf}

filter_short : {X : Type 0} (p : X → Bool) (xs : List X) → length (filter p xs) ≤ length xs
filter_short p [] = omega arith
filter_short {X} p (x ∷ xs) = by (p x) (filter_short p xs)
  where
    by : (b : Bool) → length (filter p xs) ≤ length xs → length (if b then x ∷ filter p xs else filter p xs) ≤ suc (length xs)
    by true h = omega arith
    by false h = omega arith

-- a filter that leaves out nothing
filter_whole : {X : Type 0} (p : X → Bool) (xs : List X) → length (filter p xs) ≡ length xs → filter p xs ≡ xs
filter_whole p [] h = refl
filter_whole {X} p (x ∷ xs) h = by (p x) h (filter_whole p xs)
  where
    by : (b : Bool) → length (if b then x ∷ filter p xs else filter p xs) ≡ suc (length xs) → (length (filter p xs) ≡ length xs → filter p xs ≡ xs) → (if b then x ∷ filter p xs else filter p xs) ≡ x ∷ xs
    by true k rest = ap (λ (ys : List X). x ∷ ys) (rest (omega arith))
    by false k rest = let short = filter_short p xs in absurd (omega arith)

nothing_left : {X : Type 0} (xs : List X) → length xs ≡ 0 → xs ≡ []
nothing_left [] h = refl
nothing_left (x ∷ xs) h = absurd (omega arith)

-- what a count of an arbitrator's records says

abbrev pub count_test : Bool → List Record → ℕ → Bool
count_test is_arbiter arbiters count = if is_arbiter then length arbiters == count else length arbiters == 0

pub kind_from : (is_arbiter : Bool) (records arbiters : List Record) (count : ℕ) → arbiters ≡ filter is_arbiters records → count ≡ length records → count_test is_arbiter arbiters count ≡ true → AreOf is_arbiter records
kind_from true records arbiters count e f h =
    filter_whole is_arbiters records (ap (λ (rs : List Record). length rs) (sym e) ∙ eqb-true (length arbiters) count h ∙ f)
kind_from false records arbiters count e f h = sym e ∙ nothing_left arbiters (eqb-true (length arbiters) 0 h)

pub kind_not : (is_arbiter : Bool) (records arbiters : List Record) (count : ℕ) → arbiters ≡ filter is_arbiters records → count ≡ length records → count_test is_arbiter arbiters count ≡ false → ¬ AreOf is_arbiter records
kind_not true records arbiters count e f h of =
    let same : length arbiters ≡ count = ap (λ (rs : List Record). length rs) (e ∙ of) ∙ sym f in
    let test : (length arbiters == count) ≡ true = eq-eqb (length arbiters) count same in
    absurd (cc)
kind_not false records arbiters count e f h of =
    let none : length arbiters ≡ 0 = ap (λ (rs : List Record). length rs) (e ∙ of) in
    let test : (length arbiters == 0) ≡ true = eq-eqb (length arbiters) 0 none in
    absurd (cc)
