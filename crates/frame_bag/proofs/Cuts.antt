-- Lists that lie one after the other, and the ends of each.
use Rattle.std.proofs.Common.{◌≡◌, ℕ, zero, suc, ◌+◌, ◌-◌, ◌<◌, ◌≤◌, List, [], ◌∷◌, ◌++◌, length, get_or, refl, ap, sym, ◌∙◌, append_assoc, length-append, arith}
use Rattle.std.specs.Prelude.{slice_range}
use Rattle.std.proofs.lemmas.List.{append-nil}
use Rattle.std.specs.List.{concat}
use Rattle.std.proofs.Math.Seq.{take-append_seam, drop-append_seam}
use Rattle.frame_bag.specs.Stored.{cut, ends_of}

-- the part behind `front`
pub slice_range-behind : (front part rest : List ℕ) → slice_range (front ++ (part ++ rest)) (length front) (length front + length part) ≡ part
slice_range-behind front part rest =
    let e : (length front + length part) - length front ≡ length part = omega arith in
    rw (e, drop-append_seam front (part ++ rest)) (take-append_seam part rest)

pub cut_again : (front : List ℕ) (texts : List (List ℕ)) → cut (length front) (ends_of (length front) texts) (front ++ concat texts) ≡ texts
cut_again front [] = refl
cut_again front (text ∷ texts) =
    let e : length front + length text ≡ length (front ++ text) = sym (length-append front text) in
    let f : front ++ (text ++ concat texts) ≡ (front ++ text) ++ concat texts = sym (append_assoc front text (concat texts)) in
    let here = slice_range-behind front text (concat texts) in
    let behind = cut_again (front ++ text) texts in
    let P : ℕ → List ℕ → Type 0 = λ at bytes. cut at (ends_of at texts) bytes ≡ texts in
    let there : P (length front + length text) (front ++ (text ++ concat texts)) = rw (e, f) behind in
    cc (here, there)

pub length-ends_of : (from : ℕ) (texts : List (List ℕ)) → length (ends_of from texts) ≡ length texts
length-ends_of from [] = refl
length-ends_of from (text ∷ texts) = ap suc (length-ends_of (from + length text) texts)

pub ends_of-more : (from : ℕ) (texts : List (List ℕ)) (text : List ℕ) (end : ℕ) → end ≡ from + length (concat texts ++ text) → ends_of from (texts ++ text ∷ []) ≡ ends_of from texts ++ end ∷ []
ends_of-more from [] text end e = ap (λ n. n ∷ []) (sym e)
ends_of-more from (first ∷ texts) text end e =
    let k : end ≡ from + length first + length (concat texts ++ text) = e ∙ simp length-append (omega arith) in
    ap (λ l. (from + length first) ∷ l) (ends_of-more (from + length first) texts text end k)

pub concat-more : (texts : List (List ℕ)) (text : List ℕ) → concat (texts ++ text ∷ []) ≡ concat texts ++ text
concat-more [] text = append-nil text
concat-more (first ∷ texts) text = ap (λ l. first ++ l) (concat-more texts text) ∙ sym (append_assoc first (concat texts) text)

-- the text at a place lies from the end before it to its own
pub record LiesAt (texts : List (List ℕ)) (bytes : List ℕ) (start end : ℕ) (i : ℕ) : Type 0 where
  pub in_order : start ≤ end
  pub within : end ≤ length bytes
  pub text_is : slice_range bytes start end ≡ get_or texts i []

pub text_at : (front : List ℕ) (texts : List (List ℕ)) (i : ℕ) → i < length texts → LiesAt texts (front ++ concat texts) (get_or (length front ∷ ends_of (length front) texts) i 0) (get_or (ends_of (length front) texts) i 0) i
text_at front [] i h = absurd (omega arith)
text_at front (text ∷ texts) zero h = record {
  in_order = omega arith;
  within = simp length-append (omega arith);
  text_is = slice_range-behind front text (concat texts);
}
text_at front (text ∷ texts) (suc i) h =
    let e : length (front ++ text) ≡ length front + length text = length-append front text in
    let f : (front ++ text) ++ concat texts ≡ front ++ (text ++ concat texts) = append_assoc front text (concat texts) in
    let t : LiesAt texts (front ++ (text ++ concat texts)) (get_or ((length front + length text) ∷ ends_of (length front + length text) texts) i 0) (get_or (ends_of (length front + length text) texts) i 0) i = rw (← e, ← f) (text_at (front ++ text) texts i (omega arith)) in
    record { in_order = t.in_order; within = t.within; text_is = t.text_is }
