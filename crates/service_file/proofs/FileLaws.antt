-- The file `actor` is read exactly where it is spelled.
use Rattle.std.proofs.Common.{◌≡◌, ℕ, zero, suc, ◌≤◌, Bool, true, false, cond, ⊎_elim, List, [], ◌∷◌, ◌++◌, length, Some, None, refl, ap, subst, ◌∙◌, arith}
use Rattle.std.specs.Prelude.{All}
use Rattle.std.specs.List.{flat_map}
use Rattle.std.proofs.lemmas.List.{length-append}
use Rattle.std.proofs.lemmas.List.Elements.{All-cons}
use Rattle.text_fields.specs.Fields.{◌>>=◌, after_word, given}
use Rattle.text_fields.specs.Inverses.{IsRest}
use Rattle.text_fields.proofs.FieldLaws.{behind_again, behind_found, behind_other, bind_some}
use Rattle.text_fields.proofs.Numbers.{none_found, some_same}
use Rattle.service_file.specs.declared.settings.Again.{Again}
use Rattle.service_file.specs.declared.actor_file.ActorFile.{ActorFile}
use Rattle.service_file.specs.ActorFiles.{IsActorFile, IsAgain, actor_file_of, again_at, again_text, agains_in, agains_of, began_at, began_text, head_at, head_text, text_of}
use Rattle.service_file.proofs.FileFields.{again_is, head_is}

abbrev lines_text : List Again → List ℕ
lines_text again = flat_map again_text again

lines_found : (k : ℕ) (bytes : List ℕ) (again : List Again) → agains_in k bytes ≡ Some again → All IsAgain again × (bytes ≡ lines_text again)
unfolding agains_in
lines_found zero [] again e = subst (λ x. All IsAgain x × ([] ≡ lines_text x)) (some_same [] again e) (λ i d h. absurd (omega arith), refl)
lines_found (suc k) [] again e = subst (λ x. All IsAgain x × ([] ≡ lines_text x)) (some_same [] again e) (λ i d h. absurd (omega arith), refl)
lines_found zero (b ∷ bs) again e = absurd (none_found again e)
lines_found (suc k) (b ∷ bs) again e =
    let a = bind_some (again_at (b ∷ bs)) (λ a. agains_in k a.1 >>= λ more. Some (a.0 ∷ more)) again e in
    let m = bind_some (agains_in k a.0.1) (λ more. Some (a.0.0 ∷ more)) again a.2 in
    let first = again_is.found (b ∷ bs) a.0 a.1 in
    let rest = lines_found k a.0.1 m.0 m.1 in
    subst (λ x. All IsAgain x × (b ∷ bs ≡ lines_text x)) (some_same (a.0.0 ∷ m.0) again m.2)
    (All-cons IsAgain a.0.0 m.0 first.0 rest.0, first.1 ∙ ap (λ t. again_text a.0.0 ++ t) rest.1)

behind_first : (a : Again) (again : List Again) → All IsAgain (a ∷ again) → IsAgain a × All IsAgain again
behind_first a again h = (h 0 a (omega arith), λ k d within. h (suc k) d (omega (arith, within)))

lines_again : (k : ℕ) (again : List Again) → length again ≤ k → All IsAgain again → agains_in k (lines_text again) ≡ Some again
unfolding agains_in
lines_again zero [] fits h = refl
lines_again (suc k) [] fits h = refl
lines_again zero (a ∷ again) fits h = absurd (omega (arith, fits))
lines_again (suc k) (a ∷ again) fits h =
    let parts = behind_first a again h in
    let read = again_is.again a (lines_text again) parts.0 tt in
    rw read (rw (lines_again k again (omega (arith, fits)) parts.1) refl)

-- a line has a byte at least
not_more_lines : (again : List Again) → length again ≤ length (lines_text again)
not_more_lines [] = omega arith
not_more_lines (a ∷ again) = omega (arith, not_more_lines again, length-append (again_text a) (lines_text again))

abbrev began_if : Bool → List ℕ
began_if begun = cond begun began_text []

began_found : (bytes : List ℕ) (x : Bool × List ℕ) → began_at bytes ≡ Some x → bytes ≡ began_if x.0 ++ x.1
began_found bytes x e =
    ⊎_elim
    (λ r.
    let pair : Bool × List ℕ = (true, r.0) in
    let P : Bool × List ℕ → Type 0 = λ q. bytes ≡ began_if q.0 ++ q.1 in
    subst P {x = pair} (some_same pair x r.2) r.1)
    (λ h.
    let pair : Bool × List ℕ = (false, bytes) in
    let P : Bool × List ℕ → Type 0 = λ q. bytes ≡ began_if q.0 ++ q.1 in
    subst P {x = pair} (some_same pair x h) refl)
    (behind_found began_text (given true) (given false) bytes x e)

not_begun : (again : List Again) → after_word began_text (lines_text again) ≡ None
unfolding after_word
not_begun [] = refl
not_begun (a ∷ again) = refl

began_again : (begun : Bool) (again : List Again) → began_at (began_if begun ++ lines_text again) ≡ Some (begun, lines_text again)
began_again true again = behind_again began_text (given true) (given false) (lines_text again)
began_again false again = behind_other began_text (given true) (given false) (lines_text again) (not_begun again)

abbrev file : ℕ × List ℕ → Bool → List Again → ActorFile
file head begun again = record { actor = head.0; checksum = head.1; has_begun = begun; again = again }

pub file_is : IsRest actor_file_of IsActorFile text_of
unfolding actor_file_of text_of
file_is = record {
  found = λ bytes f e.
      let h = bind_some (head_at bytes) (λ head. began_at head.1 >>= λ begun. agains_of begun.1 >>= λ again. Some (file head.0 begun.0 again)) f e in
      let b = bind_some (began_at h.0.1) (λ begun. agains_of begun.1 >>= λ again. Some (file h.0.0 begun.0 again)) f h.2 in
      let a = bind_some (agains_of b.0.1) (λ again. Some (file h.0.0 b.0.0 again)) f b.2 in
      let head = head_is.found bytes h.0 h.1 in
      let begun = began_found h.0.1 b.0 b.1 in
      let lines = lines_found (length b.0.1) b.0.1 a.0 a.1 in
      subst (λ g. IsActorFile g × (bytes ≡ text_of g)) (some_same (file h.0.0 b.0.0 a.0) f a.2) (
        record { actor = head.0.0; checksum = head.0.1; again = lines.0 },
        head.1 ∙ ap (λ t. head_text h.0.0 ++ t) (begun ∙ ap (λ t. began_if b.0.0 ++ t) lines.1),
      );
  again = λ f fits.
      let rest = began_if f.has_begun ++ lines_text f.again in
      let read = head_is.again (f.actor, f.checksum) rest (fits.actor, fits.checksum) tt in
      let begun = began_again f.has_begun f.again in
      let lines = lines_again (length (lines_text f.again)) f.again (not_more_lines f.again) fits.again in
      rw read (rw begun (rw lines refl));
}
