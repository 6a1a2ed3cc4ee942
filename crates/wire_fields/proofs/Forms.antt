-- A field and its spelling: what is read at the front is spelled so, and what is spelled so is read, whatever follows.
-- One law for each way to make a field of others.
use Rattle.std.proofs.Common.{◌≡◌, ℕ, zero, suc, ◌^◌, ◌≤◌, Bool, true, false, cond, ◌&&◌, nat_le, nat_lt, List, [], ◌∷◌, ◌++◌, length, drop, Option, Some, None, refl, ap, sym, subst, ◌∙◌, arith, length-append}
use Rattle.std.specs.Prelude.{IsTrue, ◌==◌}
use Rattle.std.specs.List.{flat_map, list_all}
use Rattle.std.proofs.lemmas.List.{append-nil, append_assoc, take-append-drop, drop_at}
use Rattle.std.proofs.lemmas.Bool.{leb-true, le-leb, lt-ltb, ltb-true, eq-eqb, eqb-true, and_parts, and_from}
use Rattle.byteorder.specs.Endian.{big_number}
use Rattle.byteorder.specs.Numbers.{big_from-lt, big_number-reads_back}
use Rattle.wire_fields.specs.Readers.{◌>>=◌, Field, such, pair, made, is_nil, whole, number_at, byte_at, times, list_at}
use Rattle.wire_fields.specs.Texts.{number_bytes, one_byte, list_bytes}
use Rattle.wire_fields.proofs.Numbers.{AreBytes, bytes_behind, bytes_of_number}
use Rattle.wire_fields.proofs.Puts.{number_length}

pub record IsField {A : Type 0} (field : List ℕ → Field A) (sound : A → Bool) (spell : A → List ℕ) : Type 0 where
  pub found : (bytes : List ℕ) (x : A × List ℕ) → AreBytes bytes → field bytes ≡ Some x → IsTrue (sound x.0) × (bytes ≡ spell x.0 ++ x.1)
  pub again : (x : A) (rest : List ℕ) → IsTrue (sound x) → field (spell x ++ rest) ≡ Some (x, rest)

-- every value
abbrev pub any : {A : Type 0} → A → Bool
any x = true

pub some_same : {A : Type 0} (x y : A) → Some x ≡ Some y → x ≡ y
some_same x y e = cc

-- a step that gave something had something to go on
pub bind_some : {A B : Type 0} (o : Option A) (f : A → Option B) (y : B) → (o >>= f) ≡ Some y → (x : A) × (o ≡ Some x) × (f x ≡ Some y)
bind_some None f y e = cc
bind_some (Some x) f y e = (x, refl, e)

-- a test that gave something was true
pub tested : {A : Type 0} (b : Bool) (x y : A) → cond b (Some x) None ≡ Some y → (b ≡ true) × (x ≡ y)
tested true x y e = (refl, some_same x y e)
tested false x y e = cc

pub resound : {A : Type 0} {field : List ℕ → Field A} {s : A → Bool} {spell : A → List ℕ} → IsField field s spell → (t : A → Bool) → ((x : A) → IsTrue (s x) → IsTrue (t x)) → ((x : A) → IsTrue (t x) → IsTrue (s x)) → IsField field t spell
resound {A} {field} {s} {spell} law t into back = record {
  found = λ bytes x h e. let f = law.found bytes x h e in (into x.0 f.0, f.1);
  again = λ x rest h. law.again x rest (back x h);
}

pub such_is : {A : Type 0} {field : List ℕ → Field A} {s : A → Bool} {spell : A → List ℕ} → IsField field s spell → (test sound : A → Bool) → ((x : A) → IsTrue (s x) → IsTrue (test x) → IsTrue (sound x)) → ((x : A) → IsTrue (sound x) → IsTrue (s x) × IsTrue (test x)) → IsField (such test field) sound spell
such_is {A} {field} {s} {spell} law test sound into back = record {
  found = λ bytes x h e.
      let b = bind_some (field bytes) (λ (z : A × List ℕ). cond (test z.0) (Some z) None) x e in
      let t = tested (test b.0.0) b.0 x b.2 in
      let f = law.found bytes b.0 h b.1 in
      let P : A × List ℕ → Type 0 = λ z. IsTrue (sound z.0) × (bytes ≡ spell z.0 ++ z.1) in
      subst P t.1 (into b.0.0 f.0 t.0, f.1);
  again = λ x rest h.
      let g = back x h in
      ap (λ (o : Field A). o >>= λ z. cond (test z.0) (Some z) None) (law.again x rest g.0) ∙ ap (λ b. cond b (Some (x, rest)) None) g.1;
}

pub pair_is : {A B : Type 0} {first : List ℕ → Field A} {second : List ℕ → Field B} {s : A → Bool} {t : B → Bool} {spell : A → List ℕ} {spell_b : B → List ℕ} → IsField first s spell → IsField second t spell_b → IsField (pair first second) (λ x. s x.0 && t x.1) (λ x. spell x.0 ++ spell_b x.1)
pair_is {A} {B} {first} {second} {s} {t} {spell} {spell_b} law law_b = record {
  found = λ bytes x h e.
      let a = bind_some (first bytes) (λ (z : A × List ℕ). second z.1 >>= λ y. Some ((z.0, y.0), y.1)) x e in
      let b = bind_some (second a.0.1) (λ (y : B × List ℕ). Some ((a.0.0, y.0), y.1)) x a.2 in
      let f = law.found bytes a.0 h a.1 in
      let g = law_b.found a.0.1 b.0 (bytes_behind bytes (spell a.0.0) a.0.1 h f.1) b.1 in
      let P : (A × B) × List ℕ → Type 0 = λ z. IsTrue (s z.0.0 && t z.0.1) × (bytes ≡ (spell z.0.0 ++ spell_b z.0.1) ++ z.1) in
      subst P (some_same ((a.0.0, b.0.0), b.0.1) x b.2) (
        and_from (s a.0.0) (t b.0.0) f.0 g.0,
        f.1 ∙ (ap (λ r. spell a.0.0 ++ r) g.1 ∙ sym (append_assoc (spell a.0.0) (spell_b b.0.0) b.0.1)),
      );
  again = λ x rest h.
      let p = and_parts (s x.0) (t x.1) h in
      ap (pair first second) (append_assoc (spell x.0) (spell_b x.1) rest)
      ∙ (ap (λ (o : Field A). o >>= λ z. second z.1 >>= λ y. Some ((z.0, y.0), y.1)) (law.again x.0 (spell_b x.1 ++ rest) p.0)
      ∙ ap (λ (o : Field B). o >>= λ y. Some ((x.0, y.0), y.1)) (law_b.again x.1 rest p.1));
}

-- what is made of the parts of a field, where the parts can be had back
pub made_is : {A B : Type 0} {field : List ℕ → Field A} {s : A → Bool} {spell : A → List ℕ} → IsField field s spell → (make : A → B) (parts : B → A) → ((x : A) → IsTrue (s x) → parts (make x) ≡ x) → ((y : B) → make (parts y) ≡ y) → IsField (made make field) (λ y. s (parts y)) (λ y. spell (parts y))
made_is {A} {B} {field} {s} {spell} law make parts there back = record {
  found = λ bytes y h e.
      let a = bind_some (field bytes) (λ (z : A × List ℕ). Some (make z.0, z.1)) y e in
      let f = law.found bytes a.0 h a.1 in
      let P : B × List ℕ → Type 0 = λ z. IsTrue (s (parts z.0)) × (bytes ≡ spell (parts z.0) ++ z.1) in
      let Q : A → Type 0 = λ x. IsTrue (s x) × (bytes ≡ spell x ++ a.0.1) in
      subst P (some_same (make a.0.0, a.0.1) y a.2) (subst Q (sym (there a.0.0 f.0)) f);
  again = λ y rest h.
      ap (λ (o : Field A). o >>= λ z. Some (make z.0, z.1)) (law.again (parts y) rest h) ∙ ap (λ b. Some (b, rest)) (back y);
}

nil_is : (bytes : List ℕ) → is_nil bytes ≡ true → bytes ≡ []
nil_is [] h = refl
nil_is (b ∷ bs) h = cc

-- what is made of a whole field is made of the one value that the bytes spell
pub whole_found : {A B : Type 0} {field : List ℕ → Field A} {s : A → Bool} {spell : A → List ℕ} → IsField field s spell → (make : A → B) (bytes : List ℕ) (y : B) → AreBytes bytes → whole make field bytes ≡ Some y → (x : A) × IsTrue (s x) × (bytes ≡ spell x) × (make x ≡ y)
whole_found {A} {B} {field} {s} {spell} law make bytes y h e =
    let a = bind_some (field bytes) (λ (z : A × List ℕ). cond (is_nil z.1) (Some (make z.0)) None) y e in
    let t = tested (is_nil a.0.1) (make a.0.0) y a.2 in
    let f = law.found bytes a.0 h a.1 in
    (a.0.0, f.0, f.1 ∙ (ap (λ r. spell a.0.0 ++ r) (nil_is a.0.1 t.0) ∙ append-nil (spell a.0.0)), t.1)

pub whole_again : {A B : Type 0} {field : List ℕ → Field A} {s : A → Bool} {spell : A → List ℕ} → IsField field s spell → (make : A → B) (x : A) → IsTrue (s x) → whole make field (spell x) ≡ Some (make x)
whole_again {A} {B} {field} {s} {spell} law make x h =
    ap (whole make field) (sym (append-nil (spell x)))
    ∙ ap (λ (o : Field A). o >>= λ z. cond (is_nil z.1) (Some (make z.0)) None) (law.again x [] h)

pub byte_is : IsField byte_at any one_byte
unfolding byte_at one_byte
byte_is = record { found = found; again = λ x rest h. refl }
  where
    found : (bytes : List ℕ) (x : ℕ × List ℕ) → AreBytes bytes → byte_at bytes ≡ Some x → IsTrue true × (bytes ≡ one_byte x.0 ++ x.1)
    found [] x h e = cc
    found (b ∷ bs) x h e = let P : ℕ × List ℕ → Type 0 = λ z. IsTrue true × (b ∷ bs ≡ z.0 ∷ z.1) in subst P (some_same (b, bs) x e) (refl, refl)

pub number_is : (n : ℕ) → IsField (number_at n) (λ x. nat_lt x (256 ^ n)) (number_bytes n)
unfolding number_at number_bytes
number_is n = record {
  found = λ bytes x h e.
      let t = tested (nat_le n (length bytes)) (big_number n bytes, drop n bytes) x e in
      let fits = leb-true n (length bytes) t.0 in
      let P : ℕ × List ℕ → Type 0 = λ z. IsTrue (nat_lt z.0 (256 ^ n)) × (bytes ≡ number_bytes n z.0 ++ z.1) in
      subst P t.1 (
        lt-ltb (big_number n bytes) (256 ^ n) (big_from-lt 0 n bytes h),
        sym (ap (λ t. t ++ drop n bytes) (bytes_of_number n bytes fits h) ∙ take-append-drop n bytes),
      );
  again = λ x rest h.
      let long = number_length n x in
      let fits : n ≤ length (number_bytes n x ++ rest) = omega (arith, length-append (number_bytes n x) rest) in
      ap (λ b. cond b (Some (big_number n (number_bytes n x ++ rest), drop n (number_bytes n x ++ rest))) None) (le-leb n (length (number_bytes n x ++ rest)) fits)
      ∙ (ap (λ y. Some (y, drop n (number_bytes n x ++ rest))) (big_number-reads_back n x rest (ltb-true x (256 ^ n) h))
      ∙ ap (λ r. Some (x, r)) (drop_at (number_bytes n x) rest n long));
}

-- as many fields as there are
pub times_is : {A : Type 0} {field : List ℕ → Field A} {s : A → Bool} {spell : A → List ℕ} → IsField field s spell → (n : ℕ) → IsField (times n field) (λ xs. (length xs == n) && list_all s xs) (flat_map spell)
unfolding times
times_is {A} {field} {s} {spell} law n = record { found = found n; again = λ xs rest h. again n xs rest (and_parts (length xs == n) (list_all s xs) h) }
  where
    found : (n : ℕ) (bytes : List ℕ) (x : List A × List ℕ) → AreBytes bytes → times n field bytes ≡ Some x → IsTrue ((length x.0 == n) && list_all s x.0) × (bytes ≡ flat_map spell x.0 ++ x.1)
    found zero bytes x h e =
        let P : List A × List ℕ → Type 0 = λ z. IsTrue ((length z.0 == 0) && list_all s z.0) × (bytes ≡ flat_map spell z.0 ++ z.1) in
        subst P (some_same ([], bytes) x e) (refl, refl)
    found (suc n) bytes x h e =
        let a = bind_some (field bytes) (λ (z : A × List ℕ). times n field z.1 >>= λ y. Some (z.0 ∷ y.0, y.1)) x e in
        let b = bind_some (times n field a.0.1) (λ (y : List A × List ℕ). Some (a.0.0 ∷ y.0, y.1)) x a.2 in
        let f = law.found bytes a.0 h a.1 in
        let g = found n a.0.1 b.0 (bytes_behind bytes (spell a.0.0) a.0.1 h f.1) b.1 in
        let q = and_parts (length b.0.0 == n) (list_all s b.0.0) g.0 in
        let P : List A × List ℕ → Type 0 = λ z. IsTrue ((length z.0 == suc n) && list_all s z.0) × (bytes ≡ flat_map spell z.0 ++ z.1) in
        subst P (some_same (a.0.0 ∷ b.0.0, b.0.1) x b.2) (
          and_from (length (a.0.0 ∷ b.0.0) == suc n) (s a.0.0 && list_all s b.0.0) (eq-eqb (length (a.0.0 ∷ b.0.0)) (suc n) (let l = eqb-true (length b.0.0) n q.0 in omega arith)) (and_from (s a.0.0) (list_all s b.0.0) f.0 q.1),
          f.1 ∙ (ap (λ r. spell a.0.0 ++ r) g.1 ∙ sym (append_assoc (spell a.0.0) (flat_map spell b.0.0) b.0.1)),
        )

    again : (n : ℕ) (xs : List A) (rest : List ℕ) → IsTrue (length xs == n) × IsTrue (list_all s xs) → times n field (flat_map spell xs ++ rest) ≡ Some (xs, rest)
    again zero [] rest h = refl
    again zero (x ∷ xs) rest h = let l = eqb-true (length (x ∷ xs)) 0 h.0 in absurd (omega arith)
    again (suc n) [] rest h = let l = eqb-true 0 (suc n) h.0 in absurd (omega arith)
    again (suc n) (x ∷ xs) rest h =
        let p = and_parts (s x) (list_all s xs) h.1 in
        let l = eqb-true (length (x ∷ xs)) (suc n) h.0 in
        ap (times (suc n) field) (append_assoc (spell x) (flat_map spell xs) rest)
        ∙ (ap (λ (o : Field A). o >>= λ z. times n field z.1 >>= λ y. Some (z.0 ∷ y.0, y.1)) (law.again x (flat_map spell xs ++ rest) p.0)
        ∙ ap (λ (o : Field (List A)). o >>= λ y. Some (x ∷ y.0, y.1)) (again n xs rest (eq-eqb (length xs) n (omega arith), p.1)))

-- a count, and as many fields
pub list_is : {A : Type 0} {field : List ℕ → Field A} {s : A → Bool} {spell : A → List ℕ} → IsField field s spell → (most : ℕ) → IsField (list_at most field) (λ xs. nat_le (length xs) most && list_all s xs) (list_bytes spell)
unfolding list_at list_bytes
list_is {A} {field} {s} {spell} law most = record {
  found = λ bytes x h e.
      let a = bind_some (such (λ n. nat_le n most) byte_at bytes) (λ (z : ℕ × List ℕ). times z.0 field z.1) x e in
      let f = count.found bytes a.0 h a.1 in
      let g = (times_is law a.0.0).found a.0.1 x (bytes_behind bytes (one_byte a.0.0) a.0.1 h f.1) a.2 in
      let q = and_parts (length x.0 == a.0.0) (list_all s x.0) g.0 in
      let l = eqb-true (length x.0) a.0.0 q.0 in (
        and_from (nat_le (length x.0) most) (list_all s x.0) (le-leb (length x.0) most (let m = leb-true a.0.0 most f.0 in omega arith)) q.1,
        f.1 ∙ (ap (λ r. one_byte a.0.0 ++ r) g.1 ∙ (sym (append_assoc (one_byte a.0.0) (flat_map spell x.0) x.1) ∙ ap (λ n. one_byte n ++ flat_map spell x.0 ++ x.1) (sym l))),
      );
  again = λ xs rest h.
      let p = and_parts (nat_le (length xs) most) (list_all s xs) h in
      ap (list_at most field) (append_assoc (one_byte (length xs)) (flat_map spell xs) rest)
      ∙ (ap (λ (o : Field ℕ). o >>= λ z. times z.0 field z.1) (count.again (length xs) (flat_map spell xs ++ rest) p.0)
      ∙ (times_is law (length xs)).again xs rest (and_from (length xs == length xs) (list_all s xs) (eq-eqb (length xs) (length xs) refl) p.1));
}
  where
    count : IsField (such (λ n. nat_le n most) byte_at) (λ n. nat_le n most) one_byte
    count = such_is byte_is (λ n. nat_le n most) (λ n. nat_le n most) (λ x a b. b) (λ x a. (refl, a))
