-- Each line that is asked is read exactly where it is spelled.
use Rattle.std.proofs.Common.{lit<, ◌≡◌, ℕ, List, [], ◌++◌, Option, Some, refl, ap, subst, ◌∙◌}
use Rattle.std.specs.Prelude.{codes, decimal}
use Rattle.fabric_terms.specs.Ranges.{IsWord}
use Rattle.text_fields.specs.Fields.{◌>>=◌, Field, after_word, last, word_of, nothing}
use Rattle.text_fields.specs.Inverses.{IsRest}
use Rattle.text_fields.specs.Numbers.{IsIn, number_in, most_long}
use Rattle.text_fields.proofs.FieldLaws.{bind_some, last_is, word_found, word_again, word_of_found, word_of_again, behind_again}
use Rattle.text_fields.proofs.NumberLaws.{number_is, word_number_is}
use Rattle.text_fields.proofs.Numbers.{some_same}
use Rattle.text_fields.proofs.RestLaws.{found_behind, found_nothing}
use Rattle.line_format.specs.Readers.{short_at}
use Rattle.door_lines.specs.declared.asked.Asked.{Asked}
use Rattle.door_lines.specs.declared.asked.Request.{Request}
use Rattle.door_lines.specs.Requests.{tag_at, asked_made, request_of, done_of, request_text, asked_text, parent_done_text, FitsAsked, AskedReadIsSpelled, SpelledAskedIsRead}
use Rattle.door_lines.proofs.RequestLaws.{request_found, request_again}

tag_found : (bytes : List ℕ) (f : ℕ × List ℕ) → tag_at bytes ≡ Some f → IsWord f.0 × (bytes ≡ codes "@" ++ (decimal f.0 ++ (codes " " ++ f.1)))
unfolding tag_at
tag_found bytes f e =
    let w = bind_some (after_word (codes "@") bytes) (word_of short_at) f e in
    let n = word_of_found word_number_is w.0 f w.2 in
    (n.0, word_found (codes "@") bytes w.0 w.1 ∙ ap (λ t. codes "@" ++ t) n.1)

tag_again : (tag : ℕ) (rest : List ℕ) → IsWord tag → tag_at (codes "@" ++ (decimal tag ++ (codes " " ++ rest))) ≡ Some (tag, rest)
unfolding tag_at
tag_again tag rest fits =
    ap (λ (o : Option (List ℕ)). o >>= word_of short_at) (word_again (codes "@") (decimal tag ++ (codes " " ++ rest)))
    ∙ word_of_again word_number_is tag rest fits refl

pub asked_found : AskedReadIsSpelled
asked_found speaker line asked e =
    let t = bind_some (tag_at line) (λ x. request_of speaker x.1 >>= λ y. Some (asked_made x.0 y)) asked e in
    let r = bind_some (request_of speaker t.0.1) (λ y. Some (asked_made t.0.0 y)) asked t.2 in
    let tag = tag_found line t.0 t.1 in
    let request = request_found speaker t.0.1 r.0 r.1 in
    let P : Asked → Type 0 = λ a. FitsAsked speaker a × (line ≡ asked_text a) in
    subst P (some_same (asked_made t.0.0 r.0) asked r.2) (
      (tag.0, request.0.0, request.0.1),
      tag.1 ∙ ap (λ u. codes "@" ++ (decimal t.0.0 ++ (codes " " ++ u))) request.1,
    )

pub asked_again : SpelledAskedIsRead
asked_again speaker asked h =
    ap (λ (o : Field ℕ). o >>= λ x. request_of speaker x.1 >>= λ y. Some (asked_made x.0 y)) (tag_again asked.tag (request_text asked.request) h.0)
    ∙ ap (λ (o : Option Request). o >>= λ y. Some (asked_made asked.tag y)) (request_again speaker asked.request (h.1, h.2))

abbrev IsDone : ℕ → Type 0
IsDone = IsIn 1 most_long

number_last : IsRest (last (number_in 1 most_long)) IsDone decimal
number_last = last_is (number_is 1 most_long (lit< tt)) tt

pub done_is : IsRest done_of IsDone parent_done_text
unfolding done_of
done_is = record {
  found = found_behind IsDone parent_done_text [] (codes "done ") (last (number_in 1 most_long)) nothing
      (λ bytes n e. let f = number_last.found bytes n e in (f.0, ap (λ t. codes "done " ++ t) f.1)) (found_nothing IsDone parent_done_text []);
  again = λ n h. behind_again (codes "done ") (last (number_in 1 most_long)) nothing (decimal n) ∙ number_last.again n h;
}
