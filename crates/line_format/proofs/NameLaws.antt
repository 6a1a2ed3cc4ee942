-- Names are read exactly where they are spelled.
use Rattle.std.proofs.Common.{◌≡◌, ℕ, suc, ◌≤◌, Bool, true, false, cond, nat_le, ◌&&◌, ⊎_elim, List, [], ◌∷◌, ◌++◌, length, take, drop, All, Some, None, arith, refl, ap, sym, subst, ◌∙◌}
use Rattle.std.proofs.lemmas.Bool.Decides.{nat_tests}
use Rattle.std.proofs.lemmas.List.{drop_at, take_at, take-append-drop, length-take}
use Rattle.std.proofs.lemmas.List.Elements.{All-nil, All-cons, All-head, All-tail}
use Rattle.ring_points.specs.Limits.{most_name}
use Rattle.fabric_terms.specs.Ranges.{IsName, IsNameByte}
use Rattle.text_fields.specs.Fields.{last}
use Rattle.text_fields.specs.Inverses.{IsField, IsRest}
use Rattle.text_fields.proofs.FieldLaws.{both_true, last_is}
use Rattle.text_fields.proofs.Numbers.{chosen, some_same, none_found, within, not_above}
use Rattle.line_format.specs.Names.{is_name_byte, name_length, name_at, EndsName, as_they_are}

byte_is : (b : ℕ) → is_name_byte b ≡ true → IsNameByte b
byte_is b h = (grind (arith, nat_tests), grind (arith, nat_tests), grind (arith, nat_tests))

byte_again : (b : ℕ) → IsNameByte b → is_name_byte b ≡ true
byte_again b h = grind (arith, nat_tests)

length_within : (bytes : List ℕ) → name_length bytes ≤ length bytes
length_within [] = omega arith
length_within (b ∷ bs) = cases (is_name_byte b) (length_within bs)
  where
    cases : (t : Bool) → name_length bs ≤ length bs → cond t (suc (name_length bs)) 0 ≤ suc (length bs)
    cases true h = omega arith
    cases false h = omega arith

front_is : (bytes : List ℕ) → All IsNameByte (take (name_length bytes) bytes)
front_is [] = All-nil IsNameByte
front_is (b ∷ bs) = cases (is_name_byte b) refl (front_is bs)
  where
    cases : (t : Bool) → is_name_byte b ≡ t → All IsNameByte (take (name_length bs) bs) → All IsNameByte (take (cond t (suc (name_length bs)) 0) (b ∷ bs))
    cases true is more = All-cons IsNameByte b (take (name_length bs) bs) (byte_is b is) more
    cases false is more = All-nil IsNameByte

length_again : (name rest : List ℕ) → All IsNameByte name → EndsName rest → name_length (name ++ rest) ≡ length name
length_again [] [] h ends = refl
length_again [] (b ∷ bs) h ends = ap (λ t. cond t (suc (name_length bs)) 0) ends
length_again (n ∷ ns) rest h ends =
    ap (λ t. cond t (suc (name_length (ns ++ rest))) 0) (byte_again n (All-head IsNameByte n ns h))
    ∙ ap suc (length_again ns rest (All-tail IsNameByte n ns h) ends)

abbrev parts : List ℕ → List ℕ → List ℕ × List ℕ
parts first rest = (first, rest)

abbrev parted : ℕ → List ℕ → List ℕ × List ℕ
parted n bytes = parts (take n bytes) (drop n bytes)

pub name_is : IsField name_at IsName as_they_are EndsName
unfolding name_at
name_is = record {
  found = λ bytes f e.
      let n = name_length bytes in
      let name = take n bytes in
      let read : List ℕ × List ℕ = (name, drop n bytes) in
      ⊎_elim
      (λ yes.
      let b = both_true (nat_le 1 n) (nat_le n most_name) yes.0 in
      let low = within 1 n b.0 in
      let high = within n most_name b.1 in
      let long : length name ≡ n = omega (arith, length-take n bytes, length_within bytes) in
      let P : List ℕ × List ℕ → Type 0 = λ q. IsName q.0 × (bytes ≡ q.0 ++ q.1) in
      subst P {x = read} (some_same read f yes.1) ((omega (arith, low, long), omega (arith, high, long), front_is bytes), sym (take-append-drop n bytes)))
      (λ no. absurd (none_found f no.1))
      (chosen (nat_le 1 n && nat_le n most_name) (Some read) None (Some f) e);
  again = λ name rest h ends.
      let long = length_again name rest h.2 ends in
      again name rest h (name_length (name ++ rest)) long;
}
  where
    again : (name rest : List ℕ) → IsName name → (n : ℕ) → n ≡ length name
        → cond (nat_le 1 n && nat_le n most_name) (Some (parted n (name ++ rest))) None ≡ Some (parts name rest)
    again name rest h n long =
        ap (λ b. cond (b && nat_le n most_name) (Some (parted n (name ++ rest))) None) (not_above 1 n (omega (arith, long, h.0)))
        ∙ (ap (λ b. cond b (Some (parted n (name ++ rest))) None) (not_above n most_name (omega (arith, long, h.1)))
        ∙ (ap (λ (t : List ℕ). Some (parts t (drop n (name ++ rest)))) (take_at name rest n (sym long))
        ∙ ap (λ (t : List ℕ). Some (parts name t)) (drop_at name rest n (sym long))))

pub last_name_is : IsRest (last name_at) IsName as_they_are
last_name_is = last_is name_is tt
