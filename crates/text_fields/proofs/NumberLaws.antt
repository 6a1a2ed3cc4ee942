-- Numbers are read exactly where they are spelled.
use Rattle.std.proofs.Common.{lit<, ◌≡◌, ◌⊎◌, ℕ, ◌^◌, ◌≤◌, ◌<◌, nat_le, ◌&&◌, ⊎_elim, inl, inr, List, ◌++◌, Option, Some, None, arith, refl, ap, sym, subst, ◌∙◌}
use Rattle.std.specs.Prelude.{decimal, codes}
use Rattle.ring_points.specs.Limits.{most_counter}
use Rattle.fabric_terms.specs.Ranges.{IsWord, IsLong, IsOptional}
use Rattle.text_fields.specs.Fields.{◌>>=◌, made_at}
use Rattle.text_fields.specs.Inverses.{IsField, EndsNumber}
use Rattle.text_fields.specs.Numbers.{IsIn, number_at, in_range, number_in, long_at, optional_at, optional_text, most_long}
use Rattle.text_fields.proofs.Numbers.{Pair, number_found, number_again, chosen, some_same, none_found, within, not_above}
use Rattle.text_fields.proofs.FieldLaws.{both_true, bind_some, given_is, made_at_is, choice_is}

range_found : (lo hi n m : ℕ) → in_range lo hi n ≡ Some m → (lo ≤ n) × (n ≤ hi) × (n ≡ m)
range_found lo hi n m e =
    ⊎_elim
    (λ yes. let b = both_true (nat_le lo n) (nat_le n hi) yes.0 in (within lo n b.0, within n hi b.1, some_same n m yes.1))
    (λ no. absurd (none_found m no.1))
    (chosen (nat_le lo n && nat_le n hi) (Some n) None (Some m) e)

range_again : (lo hi n : ℕ) → lo ≤ n → n ≤ hi → in_range lo hi n ≡ Some n
range_again lo hi n low high = rw (not_above lo n low, not_above n hi high) refl

pub number_is : (lo hi : ℕ) → hi < 2 ^ 64 → IsField (number_in lo hi) (IsIn lo hi) decimal EndsNumber
unfolding number_in
number_is lo hi small = record {
  found = λ bytes f e.
      let b = bind_some (number_at hi bytes) (λ n. in_range lo hi n.0 >>= λ m. Some (m, n.1)) f e in
      let c = bind_some (in_range lo hi b.0.0) (λ m. Some (m, b.0.1)) f b.2 in
      let r = range_found lo hi b.0.0 c.0 c.1 in
      let pair : Pair = (c.0, b.0.1) in
      let s : pair ≡ f = some_same pair f c.2 in
      let first : c.0 ≡ f.0 = ap (λ (p : Pair). p.0) s in
      let w = number_found hi bytes b.0 small b.1 in
      ((omega arith, omega arith), w ∙ (ap (λ m. decimal m ++ b.0.1) r.2 ∙ ap (λ (p : Pair). decimal p.0 ++ p.1) s));
  again = λ n rest h ends.
      ap (λ (o : Option Pair). o >>= λ n. in_range lo hi n.0 >>= λ m. Some (m, n.1)) (number_again hi n rest small h.1 ends)
      ∙ ap (λ (o : Option ℕ). o >>= λ m. Some (m, rest)) (range_again lo hi n h.0 h.1);
}

-- from 0 on
pub number_up_to : (hi : ℕ) → hi < 2 ^ 64 → IsField (number_in 0 hi) (λ n. n ≤ hi) decimal EndsNumber
number_up_to hi small =
    let law = number_is 0 hi small in
    record {
      found = λ bytes f e. let r = law.found bytes f e in (r.0.1, r.1);
      again = λ n rest h ends. law.again n rest (omega arith, h) ends;
    }

-- numbers of 4 and of 8 bytes
pub word_number_is : IsField (number_in 0 most_counter) IsWord decimal EndsNumber
word_number_is =
    let law = number_is 0 most_counter (lit< tt) in
    record {
      found = λ bytes f e. let r = law.found bytes f e in (omega (arith, r.0.1), r.1);
      again = λ n rest h ends. law.again n rest (omega arith, omega (arith, h)) ends;
    }

pub long_is : IsField long_at IsLong decimal EndsNumber
long_is =
    let law = number_is 0 most_long (lit< tt) in
    record {
      found = λ bytes f e. let r = law.found bytes f e in (omega (arith, r.0.1), r.1);
      again = λ n rest h ends. law.again n rest (omega arith, omega (arith, h)) ends;
    }

abbrev IsSomeLong : Option ℕ → Type 0
IsSomeLong o = (n : ℕ) × IsLong n × (Some n ≡ o)

some_long_is : IsField (made_at Some long_at) IsSomeLong optional_text EndsNumber
some_long_is = made_at_is long_is Some IsSomeLong optional_text (λ n h. ((n, h, refl), refl)) (λ o h. h)

no_dash : (rest : List ℕ) → made_at Some long_at (codes "-" ++ rest) ≡ None
unfolding number_in
no_dash rest = refl

pub optional_is : IsField optional_at IsOptional optional_text EndsNumber
optional_is =
    choice_is (codes "-") (given_is None EndsNumber) some_long_is no_dash IsOptional optional_text
    (λ o h. of_none o h)
    (λ o h. (of_some o h, refl))
    split
  where
    of_none : (o : Option ℕ) → o ≡ None → IsOptional o × (codes "-" ≡ optional_text o)
    of_none None h = (tt, refl)
    of_none (Some n) h = cc

    of_some : (o : Option ℕ) → IsSomeLong o → IsOptional o
    of_some None h = absurd (none_found h.0 (sym h.2))
    of_some (Some n) h = subst IsLong (some_same h.0 n h.2) h.1

    split : (o : Option ℕ) → IsOptional o → (o ≡ None) ⊎ IsSomeLong o
    split None h = inl refl
    split (Some n) h = inr (n, h, refl)
