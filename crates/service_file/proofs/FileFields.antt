-- The fields and lines of the file `actor` are read exactly where they are spelled.
use Rattle.std.proofs.Common.{lit<, ◌≡◌, ℕ, true, nat_le, ⊎_elim, List, ◌++◌, length, take, drop, Option, Some, None, Result, Ok, Err, refl, ap, sym, subst, ◌∙◌, arith}
use Rattle.std.specs.Prelude.{decimal, codes}
use Rattle.std.specs.Str.{bytes_eq}
use Rattle.std.proofs.lemmas.List.{append_assoc, drop_at, length-append, take-append-drop, take_at}
use Rattle.std.proofs.lemmas.Slice.Eq.{bytes_eq-Decides}
use Rattle.hex.specs.Hex.{IsBytes, decode_sized, encode_lower, lower_digits}
use Rattle.hex.specs.declared.error.FromHexError.{FromHexError}
use Rattle.hex.proofs.HexLemmas.{decode_of-ok, decode_sized-encode_lower, decode_sized-ok, decode_sized-twice, length-encode_with}
use Rattle.ring_points.specs.Limits.{most_counter}
use Rattle.fabric_terms.specs.Ranges.{IsActor}
use Rattle.text_fields.specs.Actors.{actor_at, actor_text}
use Rattle.text_fields.specs.Fields.{◌>>=◌, Field, after_word, word_of}
use Rattle.text_fields.specs.Inverses.{IsField, EndsAnyhow}
use Rattle.text_fields.proofs.ActorLaws.{actor_is, node_is}
use Rattle.text_fields.proofs.FieldLaws.{bind_some, made_at_is, pair_is, word_again, word_found, word_of_again, word_of_found}
use Rattle.text_fields.proofs.NumberLaws.{number_is}
use Rattle.text_fields.proofs.Numbers.{chosen, none_found, not_above, some_same}
use Rattle.service_file.specs.declared.settings.Again.{Again}
use Rattle.service_file.specs.ActorFiles.{IsAgain, IsChecksum, again_at, again_made, again_text, checksum_at, head_at, head_text, line_at, owner_at, spelled}

abbrev Bytes : Type 0
Bytes = List ℕ × List ℕ

found_sum : (digits sum : List ℕ) (r : Result (List ℕ) FromHexError) → spelled digits r ≡ Some sum → (r ≡ Ok sum) × (encode_lower sum ≡ digits)
found_sum digits sum (Err e) h = absurd (none_found sum h)
found_sum digits sum (Ok bytes) h =
    ⊎_elim
    (λ yes.
    let same : bytes ≡ sum = some_same bytes sum yes.1 in
    (ap Ok same, sym (ap encode_lower same) ∙ (bytes_eq-Decides (encode_lower bytes) digits).0 yes.0))
    (λ no. absurd (none_found sum no.1))
    (chosen (bytes_eq (encode_lower bytes) digits) (Some bytes) None (Some sum) h)

abbrev IsSum : List ℕ → Type 0
IsSum sum = (length sum ≡ 32) × IsBytes sum

sum_fits : (digits sum : List ℕ) → decode_sized digits 32 ≡ Ok sum → IsSum sum
sum_fits digits sum e =
    let long = decode_sized-ok digits 32 sum e in
    let ok = decode_of-ok digits sum (sym (decode_sized-twice digits 32 long) ∙ e) in
    (omega (arith, long, ok.2), ok.3)

pub checksum_is : IsField checksum_at IsChecksum encode_lower EndsAnyhow
unfolding checksum_at
checksum_is = record {
  found = λ bytes x e. ⊎_elim
      (λ yes.
      let s = bind_some (spelled (take 64 bytes) (decode_sized (take 64 bytes) 32)) (λ sum. Some (sum, drop 64 bytes)) x yes.1 in
      let sum = found_sum (take 64 bytes) s.0 (decode_sized (take 64 bytes) 32) s.1 in
      let pair : Bytes = (s.0, drop 64 bytes) in
      let P : Bytes → Type 0 = λ q. IsChecksum q.0 × (bytes ≡ encode_lower q.0 ++ q.1) in
      subst P {x = pair} (some_same pair x s.2)
      (sum_fits (take 64 bytes) s.0 sum.0, sym (take-append-drop 64 bytes) ∙ ap (λ t. t ++ drop 64 bytes) (sym sum.1)))
      (λ no. absurd (none_found x no.1))
      (chosen (nat_le 64 (length bytes)) (spelled (take 64 bytes) (decode_sized (take 64 bytes) 32) >>= λ sum. Some (sum, drop 64 bytes)) None (Some x) e);
  again = λ sum rest h ends.
      let size : length (encode_lower sum) ≡ 64 = omega (arith, length-encode_with lower_digits sum, h.0) in
      let long : nat_le 64 (length (encode_lower sum ++ rest)) ≡ true =
      not_above 64 (length (encode_lower sum ++ rest)) (omega (arith, size, length-append (encode_lower sum) rest)) in
      let same : bytes_eq (encode_lower sum) (encode_lower sum) ≡ true = (bytes_eq-Decides (encode_lower sum) (encode_lower sum)).1 refl in
      rw (
        long,
        take_at (encode_lower sum) rest 64 size,
        drop_at (encode_lower sum) rest 64 size,
        decode_sized-encode_lower sum 32 h.0 h.1,
        same,
      ) refl;
}

grouped : (a b c d : List ℕ) → a ++ (b ++ (c ++ d)) ≡ (a ++ (b ++ c)) ++ d
grouped a b c d = simp append_assoc

-- a field between a word and a line feed
line_is : {A : Type 0} {field : List ℕ → Field A} {Fits : A → Type 0} {text : A → List ℕ} {Ends : List ℕ → Type 0} → IsField field Fits text Ends
    → (word : List ℕ) → ((rest : List ℕ) → Ends (codes "\n" ++ rest))
    → IsField (line_at word field) Fits (λ x. word ++ (text x ++ codes "\n")) EndsAnyhow
line_is {A} {field} {Fits} {text} law word ends = record {
  found = λ bytes x e.
      let w = bind_some (after_word word bytes) (λ rest. field rest >>= λ x. after_word (codes "\n") x.1 >>= λ more. Some (x.0, more)) x e in
      let a = bind_some (field w.0) (λ x. after_word (codes "\n") x.1 >>= λ more. Some (x.0, more)) x w.2 in
      let n = bind_some (after_word (codes "\n") a.0.1) (λ more. Some (a.0.0, more)) x a.2 in
      let f = law.found w.0 a.0 a.1 in
      let pair : A × List ℕ = (a.0.0, n.0) in
      let P : A × List ℕ → Type 0 = λ q. Fits q.0 × (bytes ≡ (word ++ (text q.0 ++ codes "\n")) ++ q.1) in
      subst P {x = pair} (some_same pair x n.2) (
        f.0,
        word_found word bytes w.0 w.1
            ∙ (ap (λ t. word ++ t) (f.1 ∙ ap (λ t. text a.0.0 ++ t) (word_found (codes "\n") a.0.1 n.0 n.1)) ∙ grouped word (text a.0.0) (codes "\n") n.0),
      );
  again = λ x rest h end.
      ap (line_at word field) (sym (grouped word (text x) (codes "\n") rest))
      ∙ (ap (λ (o : Option (List ℕ)). o >>= λ rest. field rest >>= λ x. after_word (codes "\n") x.1 >>= λ more. Some (x.0, more)) (word_again word (text x ++ (codes "\n" ++ rest)))
      ∙ (ap (λ (o : Field A). o >>= λ x. after_word (codes "\n") x.1 >>= λ more. Some (x.0, more)) (law.again x (codes "\n" ++ rest) h (ends rest))
      ∙ ap (λ (o : Option (List ℕ)). o >>= λ more. Some (x, more)) (word_again (codes "\n") rest)));
}

abbrev Owner : Type 0
Owner = ℕ × List ℕ

abbrev IsOwner : Owner → Type 0
IsOwner o = IsActor o.0 × IsChecksum o.1

abbrev owner_text : Owner → List ℕ
owner_text o = actor_text o.0 ++ (codes " " ++ encode_lower o.1)

owner_is : IsField owner_at IsOwner owner_text EndsAnyhow
owner_is = record {
  found = λ bytes x e.
      let a = bind_some (word_of actor_at bytes) (λ actor. checksum_at actor.1 >>= λ sum. Some ((actor.0, sum.0), sum.1)) x e in
      let s = bind_some (checksum_at a.0.1) (λ sum. Some ((a.0.0, sum.0), sum.1)) x a.2 in
      let first = word_of_found actor_is bytes a.0 a.1 in
      let second = checksum_is.found a.0.1 s.0 s.1 in
      let pair : Owner × List ℕ = ((a.0.0, s.0.0), s.0.1) in
      let P : Owner × List ℕ → Type 0 = λ q. IsOwner q.0 × (bytes ≡ owner_text q.0 ++ q.1) in
      subst P {x = pair} (some_same pair x s.2) (
        (first.0, second.0),
        first.1 ∙ (ap (λ t. actor_text a.0.0 ++ (codes " " ++ t)) second.1 ∙ grouped (actor_text a.0.0) (codes " ") (encode_lower s.0.0) s.0.1),
      );
  again = λ o rest h end.
      ap owner_at (sym (grouped (actor_text o.0) (codes " ") (encode_lower o.1) rest))
      ∙ (ap (λ (f : Field ℕ). f >>= λ actor. checksum_at actor.1 >>= λ sum. Some ((actor.0, sum.0), sum.1)) (word_of_again actor_is o.0 (encode_lower o.1 ++ rest) h.0 refl)
      ∙ ap (λ (f : Field (List ℕ)). f >>= λ sum. Some ((o.0, sum.0), sum.1)) (checksum_is.again o.1 rest h.1 tt));
}

pub head_is : IsField head_at IsOwner head_text EndsAnyhow
unfolding head_at
head_is = line_is owner_is (codes "fabricd 1 ") (λ _. tt)

abbrev number_text : Again → List ℕ
number_text a = decimal a.node ++ (codes "." ++ decimal a.instance)

pub again_is : IsField again_at IsAgain again_text EndsAnyhow
unfolding again_at
again_is =
    line_is
    (made_at_is (pair_is node_is (codes ".") (number_is 2 most_counter (lit< tt)) (λ _. refl)) again_made IsAgain number_text
    (λ a h. ((h.0, h.1.0, h.1.1), refl))
    (λ a h. ((a.node, a.instance), (h.0, (h.1, h.2)), refl)))
    (codes "again ") (λ _. refl)
