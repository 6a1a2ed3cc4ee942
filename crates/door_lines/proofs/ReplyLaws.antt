-- Two equal lines are of equal replies.
use Rattle.std.proofs.Common.{◌≡◌, ◌≢◌, ℕ, List, ◌++◌, drop, get_or, Option, Some, arith, refl, ap, sym, ◌∙◌}
use Rattle.std.specs.Prelude.{codes, decimal}
use Rattle.std.proofs.lemmas.List.{append_assoc, append_cancel_right}
use Rattle.fabric_terms.specs.declared.report.Head.{Head}
use Rattle.fabric_terms.specs.declared.report.Report.{Report}
use Rattle.fabric_terms.specs.Ranges.{IsLong, IsOptional, FitsHead, FitsReport}
use Rattle.text_fields.specs.Fields.{Field, word_of}
use Rattle.text_fields.specs.Numbers.{long_at, optional_at, optional_text}
use Rattle.text_fields.proofs.FieldLaws.{word_of_again}
use Rattle.text_fields.proofs.NumberLaws.{long_is, optional_is}
use Rattle.text_fields.proofs.Numbers.{some_same}
use Rattle.line_format.specs.Readers.{line_of}
use Rattle.line_format.specs.Reports.{report_words}
use Rattle.line_format.proofs.ReportLaws.{line_again}
use Rattle.door_lines.specs.Replies.{Says, Done, GivesUp, RepliesHaveOneLine, reply_text}

-- a text, a blank and what follows, with a line feed at the end
ended : (a s b e : List ℕ) → (a ++ (s ++ b)) ++ e ≡ a ++ (s ++ (b ++ e))
ended a s b e = simp append_assoc

-- where two equal texts are read as a value and what follows, the values are equal, and what follows
parted : {A : Type 0} (field : List ℕ → Field A) (a b v w : List ℕ) (t u : A) → field a ≡ Some (t, v ++ codes "\n") → field b ≡ Some (u, w ++ codes "\n")
    → a ≡ b → (t ≡ u) × (v ≡ w)
parted {A} field a b v w t u first second same =
    let read : A × List ℕ = (t, v ++ codes "\n") in
    let other : A × List ℕ = (u, w ++ codes "\n") in
    let one : read ≡ other = some_same read other (sym first ∙ (ap field same ∙ second)) in
    (ap (λ (p : A × List ℕ). p.0) one, append_cancel_right v w (codes "\n") (ap (λ (p : A × List ℕ). p.1) one))

tag_read : (t : Option ℕ) (v : List ℕ) → IsOptional t → word_of optional_at ((optional_text t ++ (codes " " ++ v)) ++ codes "\n") ≡ Some (t, v ++ codes "\n")
tag_read t v fits =
    ap (word_of optional_at) (ended (optional_text t) (codes " ") v (codes "\n")) ∙ word_of_again optional_is t (v ++ codes "\n") fits refl

number_read : (n : ℕ) (v : List ℕ) → IsLong n → word_of long_at ((decimal n ++ (codes " " ++ v)) ++ codes "\n") ≡ Some (n, v ++ codes "\n")
number_read n v fits = ap (word_of long_at) (ended (decimal n) (codes " ") v (codes "\n")) ∙ word_of_again long_is n (v ++ codes "\n") fits refl

says_apart : (t u : Option ℕ) (v w : List ℕ) → IsOptional t → IsOptional u → reply_text (Says t v) ≡ reply_text (Says u w) → Says t v ≡ Says u w
says_apart t u v w h k e =
    let s = parted (word_of optional_at) _ _ v w t u (tag_read t v h) (tag_read u w k) (ap (drop 1) e) in
    ap (λ o. Says o v) s.0 ∙ ap (Says u) s.1

done_apart : (t u : Option ℕ) → IsOptional t → IsOptional u → reply_text (Done t) ≡ reply_text (Done u) → Done t ≡ Done u
done_apart t u h k e =
    let read : Option ℕ × List ℕ = (t, codes "\n") in
    let other : Option ℕ × List ℕ = (u, codes "\n") in
    let same : optional_text t ++ codes "\n" ≡ optional_text u ++ codes "\n" = ap (drop 5) e in
    let one : read ≡ other =
    some_same read other (sym (optional_is.again t (codes "\n") h refl) ∙ (ap optional_at same ∙ optional_is.again u (codes "\n") k refl)) in
    ap (λ (p : Option ℕ × List ℕ). Done p.0) one

abbrev Told : Type 0
Told = Head × Report

told_apart : (h i : Head) (r s : Report) → FitsHead h → FitsReport r → FitsHead i → FitsReport s → report_words h r ≡ report_words i s → ◌≡◌ {A = Told} (h, r) (i, s)
told_apart h i r s fits_h fits_r fits_i fits_s e =
    let told : Told = (h, r) in
    let other : Told = (i, s) in
    some_same told other (sym (line_again h r fits_h fits_r) ∙ (ap line_of e ∙ line_again i s fits_i fits_s))

-- lines of two kinds have two first bytes
apart_at_first : (a b : List ℕ) → get_or a 0 0 ≢ get_or b 0 0 → a ≢ b
apart_at_first a b differs same = differs (ap (λ t. get_or t 0 0) same)

pub replies_apart : RepliesHaveOneLine
replies_apart (Says t v) (Says u w) h k e = says_apart t u v w h k e
replies_apart (Done t) (Done u) h k e = done_apart t u h k e
replies_apart (GivesUp n i r) (GivesUp m j s) h k e =
    let p =
    parted (word_of long_at) _ _ (report_words i r) (report_words j s) n m (number_read n (report_words i r) h.0) (number_read m (report_words j s) k.0) (ap (drop 1) e) in
    let told = told_apart i j r s h.1 h.2 k.1 k.2 p.1 in
    ap (λ x. GivesUp x i r) p.0 ∙ ap (λ (q : Told). GivesUp m q.0 q.1) told
replies_apart (Says t v) (Done u) h k e = absurd (apart_at_first _ _ (λ (x : 64 ≡ 100). omega arith) e)
replies_apart (Says t v) (GivesUp m j s) h k e = absurd (apart_at_first _ _ (λ (x : 64 ≡ 35). omega arith) e)
replies_apart (Done t) (Says u w) h k e = absurd (apart_at_first _ _ (λ (x : 100 ≡ 64). omega arith) e)
replies_apart (Done t) (GivesUp m j s) h k e = absurd (apart_at_first _ _ (λ (x : 100 ≡ 35). omega arith) e)
replies_apart (GivesUp n i r) (Says u w) h k e = absurd (apart_at_first _ _ (λ (x : 35 ≡ 64). omega arith) e)
replies_apart (GivesUp n i r) (Done u) h k e = absurd (apart_at_first _ _ (λ (x : 35 ≡ 100). omega arith) e)
