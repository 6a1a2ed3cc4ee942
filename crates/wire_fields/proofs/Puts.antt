-- A text put behind another is the two put as one.
use Rattle.std.proofs.Common.{◌≡◌, ℕ, ◌+◌, ◌<◌, ◌≤◌, get_or, List, [], ◌∷◌, ◌++◌, length, take, drop, set, refl, sym, ap, subst, ◌∙◌, arith, length-append, length-drop, append_assoc}
use Rattle.std.proofs.lemmas.List.{append-nil, take-append-drop, set_split, length-take-le, take_more, take_all}
use Rattle.std.specs.List.{flat_map}
use Rattle.std.proofs.Math.Seq.{take-append_seam, drop-append-add}
use Rattle.std.proofs.lemmas.Slice.{take-put_mid, drop-put_mid}
use Rattle.std.proofs.lemmas.Grind.{common_steps, flat_map-append}
use borrow.Rule.Slice.PartMut.{put_mid}
use Rattle.byteorder.specs.Numbers.{length-bytes_high_first}
use Rattle.wire_fields.specs.Texts.{number_bytes, one_byte}
use Rattle.wire_fields.specs.Writers.{Puts}

pub number_length : (n x : ℕ) → length (number_bytes n x) ≡ n
unfolding number_bytes
number_length n x = length-bytes_high_first n x

pub length_put : {text old new : List ℕ} {at end : ℕ} → Puts text old at new end → length new ≡ length old
length_put {text} {old} {new} {at} {end} p =
    let e = ap length p.bytes in
    let a = length-append (take at old ++ text) (drop end old) in
    let b = length-append (take at old) text in
    let c = length-take-le at old (let h = p.inside in let i = p.ends in omega arith) in
    let d = length-drop end old in
    let h = p.inside in
    let i = p.ends in
    omega arith

pub puts_more : {a b old mid new : List ℕ} {at m end : ℕ} → Puts a old at mid m → Puts b mid m new end → Puts (a ++ b) old at new end
puts_more {a} {b} {old} {mid} {new} {at} {m} {end} p q =
    let both = length-append a b in
    let whole = length_put p in
    let pe = p.ends in
    let pi = p.inside in
    let qe = q.ends in
    let qi = q.inside in
    let front : length (take at old ++ a) ≡ m =
    length-append (take at old) a ∙ (ap (λ n. n + length a) (length-take-le at old (omega arith)) ∙ sym pe) in
    let taken : take m mid ≡ take at old ++ a =
    ap (take m) p.bytes
    ∙ (ap (λ n. take n ((take at old ++ a) ++ drop m old)) (sym front) ∙ take-append_seam (take at old ++ a) (drop m old)) in
    let dropped : drop end mid ≡ drop end old =
    ap (drop end) p.bytes
    ∙ (ap (λ n. drop n ((take at old ++ a) ++ drop m old)) (let e : end ≡ length (take at old ++ a) + length b = omega arith in e)
    ∙ (drop-append-add (take at old ++ a) (drop m old) (length b) ∙ dropped_more old m (length b) end qe)) in
    record {
      ends = omega arith;
      inside = omega arith;
      bytes =
          q.bytes
          ∙ (ap (λ t. t ++ b ++ drop end mid) taken ∙ (ap (λ t. take at old ++ a ++ b ++ t) dropped ∙ ap (λ t. t ++ drop end old) (append_assoc (take at old) a b)));
    }
  where
    dropped_more : (xs : List ℕ) (m k end : ℕ) → end ≡ m + k → drop k (drop m xs) ≡ drop end xs
    dropped_more xs m k end e = grind (arith, common_steps)

-- what is written to a part of its own length
pub puts_mid : (at k n : ℕ) (old part text rest : List ℕ) → k ≡ n → part ≡ text ++ rest → length part ≡ n → length text ≡ n → at + n ≤ length old → Puts text old at (put_mid at k old part) (at + n)
puts_mid at k n old part text rest kn e long same fits =
    let none : rest ≡ [] = empty rest (let l = ap length e in let m = length-append text rest in omega arith) in
    let is_text : part ≡ text = e ∙ (ap (λ r. text ++ r) none ∙ append-nil text) in
    record {
      ends = omega arith;
      inside = fits;
      bytes =
          sym (take-append-drop (at + n) (put_mid at k old part))
          ∙ (ap (λ t. t ++ drop (at + n) (put_mid at k old part)) (take-put_mid at k old part (at + n) (omega arith) (omega arith))
          ∙ (ap (λ t. take at old ++ part ++ t) (drop-put_mid at k old part (at + n) (omega arith) (omega arith) (omega arith))
          ∙ ap (λ t. take at old ++ t ++ drop (at + n) old) is_text));
    }
  where
    empty : (xs : List ℕ) → length xs ≡ 0 → xs ≡ []
    empty [] h = refl
    empty (x ∷ xs) h = absurd (omega arith)

pub puts_byte : (at b : ℕ) (old : List ℕ) → at + 1 ≤ length old → Puts (one_byte b) old at (set old at b) (at + 1)
unfolding one_byte
puts_byte at b old h = record {
  ends = refl;
  inside = h;
  bytes = set_split old at b (omega arith) ∙ grind (arith, append_assoc {A = ℕ});
}

-- nothing is put
pub puts_none : (old : List ℕ) (at : ℕ) → at ≤ length old → Puts [] old at old at
puts_none old at h = record {
  ends = omega arith;
  inside = h;
  bytes = sym (ap (λ t. t ++ drop at old) (append-nil (take at old)) ∙ take-append-drop at old);
}

-- one more of a list is put behind those before it
pub puts_next : {A : Type 0} (spell : A → List ℕ) (xs : List A) (d : A) {old mid new : List ℕ} {at m end i : ℕ} → i < length xs → Puts (flat_map spell (take i xs)) old at mid m → Puts (spell (get_or xs i d)) mid m new end → Puts (flat_map spell (take (i + 1) xs)) old at new end
puts_next {A} spell xs d {old} {mid} {new} {at} {m} {end} {i} h p q =
    let longer : flat_map spell (take (i + 1) xs) ≡ flat_map spell (take i xs) ++ spell (get_or xs i d) =
    ap (flat_map spell) (take_more xs i d h) ∙ (flat_map-append spell (take i xs) (get_or xs i d ∷ []) ∙ ap (λ t. flat_map spell (take i xs) ++ t) (append-nil (spell (get_or xs i d)))) in
    let P : List ℕ → Type 0 = λ t. Puts t old at new end in
    subst P (sym longer) (puts_more p q)

-- all of a list is put
pub puts_all : {A : Type 0} (spell : A → List ℕ) (xs : List A) {old new : List ℕ} {at end : ℕ} (i : ℕ) → length xs ≤ i → Puts (flat_map spell (take i xs)) old at new end → Puts (flat_map spell xs) old at new end
puts_all {A} spell xs {old} {new} {at} {end} i h p =
    let P : List A → Type 0 = λ ys. Puts (flat_map spell ys) old at new end in
    subst P (take_all i xs h) p

-- what is put at the front
pub puts_front : {text old new : List ℕ} {end : ℕ} → Puts text old 0 new end → new ≡ text ++ drop (length text) old
puts_front {text} {old} {new} {end} p = p.bytes ∙ ap (λ n. text ++ drop n old) (let e : end ≡ length text = (let h = p.ends in omega arith) in e)
