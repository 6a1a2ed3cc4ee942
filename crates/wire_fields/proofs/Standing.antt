-- A field that is read behind a place stands there, and one that stands there is read.
use Rattle.std.proofs.Common.{◌≡◌, ℕ, ◌+◌, ◌-◌, ◌<◌, ◌≤◌, Bool, List, ◌++◌, length, take, drop, Some, None, refl, sym, ap, subst, ◌∙◌, arith, length-append, length-drop}
use Rattle.std.specs.Prelude.{IsTrue}
use Rattle.std.proofs.lemmas.List.{drop-drop, drop_at, get_or-drop, take_rest}
use Rattle.ring_points.specs.declared.who.Who.{Who}
use Rattle.ring_points.specs.declared.unit.Epoch.{Epoch}
use Rattle.wire_fields.specs.Readers.{Field}
use Rattle.wire_fields.specs.Stands.{StandsAt}
use Rattle.wire_fields.specs.Texts.{number_bytes, who_bytes, epoch_bytes}
use Rattle.wire_fields.proofs.Numbers.{AreBytes}
use Rattle.wire_fields.proofs.Puts.{number_length}
use Rattle.wire_fields.proofs.Forms.{IsField}

bytes_past : (at : ℕ) (bytes : List ℕ) → AreBytes bytes → AreBytes (drop at bytes)
bytes_past at bytes h k = let P : ℕ → Type 0 = λ n. n < 256 in subst P (sym (get_or-drop at bytes k 0)) (h (at + k))

-- the bytes from a place on
abbrev pub behind : ℕ → List ℕ → List ℕ
behind at bytes = take (length bytes - at) (drop at bytes)

-- what follows a field is no longer than all
pub rest_fits : {A : Type 0} {field : List ℕ → Field A} {sound : A → Bool} {spell : A → List ℕ} → IsField field sound spell → (bytes : List ℕ) (at : ℕ) (x : A) (rest : List ℕ) → AreBytes bytes → field (behind at bytes) ≡ Some (x, rest) → length rest ≤ length bytes
rest_fits {A} {field} {sound} {spell} law bytes at x rest h e =
    let f = law.found (drop at bytes) (x, rest) (bytes_past at bytes h) (ap field (sym (take_rest bytes at)) ∙ e) in
    let l = length-drop at bytes in
    let m = length-append (spell x) rest in
    let n = ap length f.1 in
    omega arith

pub stands_found : {A : Type 0} {field : List ℕ → Field A} {sound : A → Bool} {spell : A → List ℕ} → IsField field sound spell → (bytes : List ℕ) (at : ℕ) (x : A) (rest : List ℕ) → AreBytes bytes → at ≤ length bytes → field (behind at bytes) ≡ Some (x, rest) → IsTrue (sound x) × StandsAt (spell x) bytes at (length bytes - length rest)
stands_found {A} {field} {sound} {spell} law bytes at x rest h inside e =
    let f = law.found (drop at bytes) (x, rest) (bytes_past at bytes h) (ap field (sym (take_rest bytes at)) ∙ e) in
    let l = length-drop at bytes in
    let m = length-append (spell x) rest in
    let n = ap length f.1 in
    let ends : length bytes - length rest ≡ at + length (spell x) = omega arith in (
      f.0,
      record {
        inside = inside;
        ends = ends;
        stands =
            f.1
            ∙ ap (λ r. spell x ++ r) (sym (ap (λ k. drop k bytes) ends ∙ (sym (drop-drop (length (spell x)) at bytes) ∙ (ap (drop (length (spell x))) f.1 ∙ drop_at (spell x) rest (length (spell x)) refl))));
      },
    )

pub stands_none : {A : Type 0} {field : List ℕ → Field A} {sound : A → Bool} {spell : A → List ℕ} → IsField field sound spell → (bytes : List ℕ) (at : ℕ) → field (behind at bytes) ≡ None → (x : A) (end : ℕ) → IsTrue (sound x) → StandsAt (spell x) bytes at end → ⊥
stands_none {A} {field} {sound} {spell} law bytes at e x end h stands =
    let f = law.again x (drop end bytes) h in
    let g = ap field (take_rest bytes at ∙ stands.stands) in
    cc

-- the same where the end is known
pub stands_sized : (text bytes : List ℕ) (at end size : ℕ) → StandsAt text bytes at end → length text ≡ size → StandsAt text bytes at (at + size)
stands_sized text bytes at end size stands long =
    let P : ℕ → Type 0 = λ n. StandsAt text bytes at n in
    subst P (let e : end ≡ at + size = (let f = stands.ends in omega arith) in e) stands

pub who_length : (w : Who) → length (who_bytes w) ≡ 6
unfolding who_bytes
who_length w =
    let a = number_length 2 w.actor in
    let b = number_length 4 w.instance in
    let l = length-append (number_bytes 2 w.actor) (number_bytes 4 w.instance) in
    omega arith

pub epoch_length : (e : Epoch) → length (epoch_bytes e) ≡ 8
unfolding epoch_bytes
epoch_length e =
    let a = number_length 4 e.data_loss in
    let b = number_length 4 e.configuration in
    let l = length-append (number_bytes 4 e.data_loss) (number_bytes 4 e.configuration) in
    omega arith
