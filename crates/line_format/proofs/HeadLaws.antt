-- Heads are read exactly where they are spelled.
use Rattle.std.proofs.Common.{◌≡◌, ℕ, true, cond, not, ⊎_elim, List, ◌++◌, Option, Some, None, refl, ap, sym, subst, ◌∙◌}
use Rattle.std.specs.Prelude.{codes, decimal}
use Rattle.std.proofs.lemmas.Bool.{false≢true}
use Rattle.std.proofs.lemmas.List.{append_assoc}
use Rattle.fabric_terms.specs.declared.report.Head.{Head}
use Rattle.fabric_terms.specs.Ranges.{IsOptional, IsWho, FitsReading, FitsHead}
use Rattle.ring_points.specs.declared.who.Who.{Who}
use Rattle.text_fields.specs.Fields.{◌>>=◌, Field, word_of}
use Rattle.text_fields.specs.Instances.{who_at, who_text}
use Rattle.text_fields.specs.Numbers.{long_at, optional_at, optional_text}
use Rattle.text_fields.proofs.ActorLaws.{of_node, of_arbiter}
use Rattle.text_fields.proofs.FieldLaws.{bind_some, word_of_found, word_of_again}
use Rattle.text_fields.proofs.InstanceLaws.{who_is}
use Rattle.text_fields.proofs.NumberLaws.{long_is, optional_is}
use Rattle.text_fields.proofs.Numbers.{chosen, some_same, none_found}
use Rattle.line_format.specs.Heads.{has_its_reading, head_made, head_at, head_text}

-- what is read after each part of a head

abbrev after_reading : ℕ → Option ℕ → Who → Field (Option ℕ) → Field Head
after_reading line time who o =
    o >>= λ reading. cond (has_its_reading who reading.0) (Some (head_made line time who reading.0, reading.1)) None

abbrev after_who : ℕ → Option ℕ → Field Who → Field Head
after_who line time o = o >>= λ who. after_reading line time who.0 (word_of optional_at who.1)

abbrev after_time : ℕ → Field (Option ℕ) → Field Head
after_time line o = o >>= λ time. after_who line time.0 (word_of who_at time.1)

abbrev after_line : Field ℕ → Field Head
after_line o = o >>= λ line. after_time line.0 (word_of optional_at line.1)

-- four texts with a blank behind each
grouped : (a b c d s rest : List ℕ) → a ++ (s ++ (b ++ (s ++ (c ++ (s ++ (d ++ rest)))))) ≡ (a ++ (s ++ (b ++ (s ++ (c ++ (s ++ d)))))) ++ rest
grouped a b c d s rest = simp append_assoc

fits_reading : (w : Who) (reading : Option ℕ) → IsWho w → IsOptional reading → has_its_reading w reading ≡ true → FitsReading w reading
fits_reading w None h o e = ⊎_elim (λ node. absurd (false≢true (sym (of_node w.actor node.0) ∙ e))) (λ arbiter. arbiter.0) h
fits_reading w (Some reading) h o e =
    ⊎_elim (λ node. (node.0, o)) (λ arbiter. absurd (false≢true (sym (ap not (of_arbiter w.actor arbiter.0)) ∙ e))) h

reading_again : (w : Who) (reading : Option ℕ) → FitsReading w reading → (has_its_reading w reading ≡ true) × IsOptional reading
reading_again w None h = (of_arbiter w.actor h, tt)
reading_again w (Some reading) h = (ap not (of_node w.actor h.0), h.1)

pub head_found : (bytes : List ℕ) (f : Head × List ℕ) → head_at bytes ≡ Some f → FitsHead f.0 × (bytes ≡ head_text f.0 ++ (codes " " ++ f.1))
unfolding head_at
head_found bytes f e =
    let l = bind_some (word_of long_at bytes) (λ line. after_time line.0 (word_of optional_at line.1)) f e in
    let t = bind_some (word_of optional_at l.0.1) (λ time. after_who l.0.0 time.0 (word_of who_at time.1)) f l.2 in
    let w = bind_some (word_of who_at t.0.1) (λ who. after_reading l.0.0 t.0.0 who.0 (word_of optional_at who.1)) f t.2 in
    let r =
    bind_some (word_of optional_at w.0.1) (λ reading. cond (has_its_reading w.0.0 reading.0) (Some (head_made l.0.0 t.0.0 w.0.0 reading.0, reading.1)) None) f w.2 in
    let read : Head × List ℕ = (head_made l.0.0 t.0.0 w.0.0 r.0.0, r.0.1) in
    ⊎_elim
    (λ yes.
    let line = word_of_found long_is bytes l.0 l.1 in
    let time = word_of_found optional_is l.0.1 t.0 t.1 in
    let who = word_of_found who_is t.0.1 w.0 w.1 in
    let reading = word_of_found optional_is w.0.1 r.0 r.1 in
    let P : Head × List ℕ → Type 0 = λ q. FitsHead q.0 × (bytes ≡ head_text q.0 ++ (codes " " ++ q.1)) in
    let behind_who = who.1 ∙ ap (λ u. who_text w.0.0 ++ (codes " " ++ u)) reading.1 in
    let behind_time = time.1 ∙ ap (λ u. optional_text t.0.0 ++ (codes " " ++ u)) behind_who in
    let behind_line = line.1 ∙ ap (λ u. decimal l.0.0 ++ (codes " " ++ u)) behind_time in
    subst P {x = read} (some_same read f yes.1) (
      (line.0, time.0, who.0, fits_reading w.0.0 r.0.0 who.0 reading.0 yes.0),
      behind_line ∙ grouped (decimal l.0.0) (optional_text t.0.0) (who_text w.0.0) (optional_text r.0.0) (codes " ") (codes " " ++ r.0.1),
    ))
    (λ no. absurd (none_found f no.1))
    (chosen (has_its_reading w.0.0 r.0.0) (Some read) None (Some f) r.2)

pub head_again : (head : Head) (rest : List ℕ) → FitsHead head → head_at (head_text head ++ (codes " " ++ rest)) ≡ Some (head, rest)
unfolding head_at
head_again head rest h =
    let line = decimal head.line in
    let time = optional_text head.time in
    let who = who_text head.who in
    let reading = optional_text head.reading in
    let r = reading_again head.who head.reading h.3 in
    let end : List ℕ = codes " " ++ rest in
    let after_who_text : List ℕ = reading ++ end in
    let after_time_text : List ℕ = who ++ (codes " " ++ after_who_text) in
    let after_line_text : List ℕ = time ++ (codes " " ++ after_time_text) in
    let read : Head × List ℕ = (head, rest) in
    ap (λ t. after_line (word_of long_at t)) (sym (grouped line time who reading (codes " ") end))
    ∙ (ap after_line (word_of_again long_is head.line after_line_text h.0 refl)
    ∙ (ap (after_time head.line) (word_of_again optional_is head.time after_time_text h.1 refl)
    ∙ (ap (after_who head.line head.time) (word_of_again who_is head.who after_who_text h.2 refl)
    ∙ (ap (after_reading head.line head.time head.who) (word_of_again optional_is head.reading rest r.1 refl) ∙ ap (λ b. cond b (Some read) None) r.0))))
