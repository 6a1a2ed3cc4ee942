-- The readings of a tick are read exactly where they are spelled.
use Rattle.std.proofs.Common.{◌≡◌, ℕ, suc, zero, ◌-◌, ◌≤◌, ◌<◌, List, [], ◌∷◌, ◌++◌, length, All, Option, Some, None, arith, ap, sym, subst, ◌∙◌, refl}
use Rattle.std.specs.Prelude.{codes}
use Rattle.std.specs.List.{flat_map}
use Rattle.std.proofs.lemmas.List.{append-nil}
use Rattle.std.proofs.lemmas.List.Elements.{All-nil, All-cons, All-head, All-tail}
use Rattle.fabric_terms.specs.Ranges.{IsReading}
use Rattle.text_fields.specs.Actors.{node_at}
use Rattle.text_fields.specs.Fields.{◌>>=◌, Field, after_word, pair_at}
use Rattle.text_fields.specs.Inverses.{IsField, IsRest, EndsNumber}
use Rattle.text_fields.proofs.ActorLaws.{node_is}
use Rattle.text_fields.proofs.FieldLaws.{bind_some, word_found, word_again, pair_is}
use Rattle.text_fields.proofs.Numbers.{some_same, none_found}
use Rattle.line_format.specs.Lines.{count_at, reading_text, reading_at, readings_of}
use Rattle.line_format.proofs.CountLaws.{count_is}
use Rattle.line_format.proofs.Lists.{put_before, put_next}

abbrev pub Pair : Type 0
Pair = ℕ × ℕ

pair_law : IsField (pair_at node_at (codes ":") count_at) IsReading reading_text EndsNumber
pair_law = pair_is node_is (codes ":") count_is (λ _. refl)

abbrev pub blank_reading : Pair → List ℕ
blank_reading r = codes " " ++ reading_text r

reading_is : IsField reading_at IsReading blank_reading EndsNumber
unfolding reading_at
reading_is = record {
  found = λ bytes f e.
      let w = bind_some (after_word (codes " ") bytes) (pair_at node_at (codes ":") count_at) f e in
      let p = pair_law.found w.0 f w.2 in
      (p.0, word_found (codes " ") bytes w.0 w.1 ∙ ap (λ t. codes " " ++ t) p.1);
  again = λ r rest h ends.
      ap (λ (o : Option (List ℕ)). o >>= pair_at node_at (codes ":") count_at) (word_again (codes " ") (reading_text r ++ rest)) ∙ pair_law.again r rest h ends;
}

abbrev pub readings_text : List Pair → List ℕ
readings_text rs = flat_map blank_reading rs

abbrev pub AreUpTo : ℕ → List Pair → Type 0
AreUpTo k rs = (length rs ≤ k) × All IsReading rs

readings_found : (k : ℕ) (bytes : List ℕ) (rs : List Pair) → readings_of k bytes ≡ Some rs → AreUpTo k rs × (bytes ≡ readings_text rs)
unfolding readings_of
readings_found k [] rs e = subst (λ (xs : List Pair). AreUpTo k xs × ([] ≡ readings_text xs)) (some_same [] rs e) ((omega arith, All-nil IsReading), refl)
readings_found zero (b ∷ bs) rs e = absurd (none_found rs e)
readings_found (suc k) (b ∷ bs) rs e =
    let f = bind_some (reading_at (b ∷ bs)) (λ first. readings_of k first.1 >>= λ more. Some (first.0 ∷ more)) rs e in
    let m = bind_some (readings_of k f.0.1) (λ more. Some (f.0.0 ∷ more)) rs f.2 in
    let first = reading_is.found (b ∷ bs) f.0 f.1 in
    let more = readings_found k f.0.1 m.0 m.1 in
    let P : List Pair → Type 0 = λ xs. AreUpTo (suc k) xs × ((b ∷ bs) ≡ readings_text xs) in
    subst P (some_same (f.0.0 ∷ m.0) rs m.2) (
      (omega (arith, more.0.0), All-cons IsReading f.0.0 m.0 first.0 more.0.1),
      first.1
          ∙ ap (λ t. blank_reading f.0.0 ++ t) more.1,
    )

pub ends_readings : (rs : List Pair) → EndsNumber (readings_text rs)
ends_readings [] = tt
ends_readings (r ∷ rs) = refl

readings_again : (k : ℕ) (rs : List Pair) → AreUpTo k rs → readings_of k (readings_text rs) ≡ Some rs
unfolding readings_of
readings_again k [] h = refl
readings_again zero (r ∷ rs) h = absurd (omega (arith, h.0))
readings_again (suc k) (r ∷ rs) h =
    ap (λ (o : Field Pair). o >>= λ first. readings_of k first.1 >>= λ more. Some (first.0 ∷ more)) (reading_is.again r (readings_text rs) (All-head IsReading r rs h.1) (ends_readings rs))
    ∙ ap (λ (o : Option (List Pair)). o >>= λ more. Some (r ∷ more)) (readings_again k rs (omega (arith, h.0), All-tail IsReading r rs h.1))

pub readings_are : (k : ℕ) → IsRest (readings_of k) (AreUpTo k) readings_text
readings_are k = record { found = readings_found k; again = readings_again k }

-- the steps of reading them one by one: the readings so far, and then those of the rest

pub readings_full : (k : ℕ) (rs : List Pair) (rest : List ℕ) → k ≡ 0 → 0 < length rest → put_before rs (readings_of k rest) ≡ None
unfolding readings_of
readings_full k rs [] none some = absurd (omega arith)
readings_full zero rs (b ∷ bs) none some = refl
readings_full (suc k) rs (b ∷ bs) none some = absurd (omega arith)

pub readings_bad : (k : ℕ) (rs : List Pair) (rest : List ℕ) → 0 < k → 0 < length rest → reading_at rest ≡ None → put_before rs (readings_of k rest) ≡ None
unfolding readings_of
readings_bad k rs [] room some bad = absurd (omega arith)
readings_bad zero rs (b ∷ bs) room some bad = absurd (omega arith)
readings_bad (suc k) rs (b ∷ bs) room some bad =
    ap (λ (o : Field Pair). put_before rs (o >>= λ first. readings_of k first.1 >>= λ more. Some (first.0 ∷ more))) bad

pub readings_next : (k : ℕ) (rs : List Pair) (rest : List ℕ) (r : Pair) (after : List ℕ) → 0 < k → 0 < length rest → reading_at rest ≡ Some (r, after)
    → put_before (rs ++ r ∷ []) (readings_of (k - 1) after) ≡ put_before rs (readings_of k rest)
unfolding readings_of
readings_next k rs [] r after room some read = absurd (omega arith)
readings_next zero rs (b ∷ bs) r after room some read = absurd (omega arith)
readings_next (suc k) rs (b ∷ bs) r after room some read =
    let less : suc k - 1 ≡ k = omega arith in
    ap (λ n. put_before (rs ++ r ∷ []) (readings_of n after)) less
    ∙ (sym (put_next rs r (readings_of k after))
    ∙ ap (λ (o : Field Pair). put_before rs (o >>= λ first. readings_of k first.1 >>= λ more. Some (first.0 ∷ more))) (sym read))

pub readings_done : (k : ℕ) (rs : List Pair) (rest : List ℕ) → length rest ≡ 0 → put_before rs (readings_of k rest) ≡ Some rs
unfolding readings_of
readings_done k rs [] none = ap Some (append-nil rs)
readings_done k rs (b ∷ bs) none = absurd (omega arith)
