-- What each line of a transcript says, as `trace` writes it.
use Rattle.std.proofs.Common.{lit<, ◌≡◌, ℕ, suc, zero, ◌≤◌, Bool, true, false, cond, List, [], ◌∷◌, ◌++◌, length, Option, Some, None, arith, refl, sym, ap, subst, ◌∙◌}
use Rattle.std.specs.Prelude.{◌==◌, codes, decimal}
use Rattle.std.proofs.lemmas.Bool.{eqb-true}
use Rattle.std.proofs.lemmas.List.{append_assoc, append-nil}
use Rattle.fabric_terms.specs.declared.report.Head.{Head}
use Rattle.fabric_terms.specs.declared.report.Report.{Report}
use Rattle.fabric_terms.specs.Ranges.{FitsHead, FitsReport, IsInstance, IsLong}
use Rattle.fabric_terms.specs.Runs.{Clocks}
use Rattle.ring_points.specs.declared.who.Who.{Who}
use Rattle.run_audit.specs.Breaches.{first_of}
use Rattle.run_audit.specs.Clocks.{comes_after}
use Rattle.schedule_rules.specs.Traces.{clock_word, clock_words}
use Rattle.line_format.specs.Heads.{has_its_reading, head_at, head_made, head_text}
use Rattle.line_format.specs.Readers.{entry_report_of, line_of, manager_report_of, move_of, peer_report_of, plain_report_of, report_of, ring_report_of, unit_report_of}
use Rattle.line_format.specs.Reports.{report_text, report_words}
use Rattle.line_format.proofs.HeadLaws.{head_again}
use Rattle.line_format.proofs.ReportLaws.{line_again}
use Rattle.source_lines.specs.Lines.{is_ignored}
use Rattle.text_fields.specs.Fields.{◌>>=◌, Field, after_word, last, made, pair_at, both, word_of}
use Rattle.text_fields.specs.Instances.{instance_at, instance_made, who_at, who_text}
use Rattle.text_fields.specs.Inverses.{EndsNumber, IsField}
use Rattle.text_fields.specs.Numbers.{long_at, number_in, optional_at, optional_text}
use Rattle.text_fields.specs.Texts.{spaced}
use Rattle.text_fields.proofs.ActorLaws.{node_is, of_node}
use Rattle.text_fields.proofs.FieldLaws.{last_is, made_at_is, pair_is, word_again, word_of_again}
use Rattle.text_fields.proofs.NumberLaws.{long_is, number_is}
use Rattle.text_fields.proofs.Numbers.{none_found}
use Rattle.transcript_audit.specs.Said.{Opens, Said, Shows, Tells, clock_at, clocks_on, said_of, section_at, sent_of, shown_of, span_of, told_of}
use Rattle.trace_audit.specs.Recordings.{ClocksRise}

-- A line that begins with a number is not ignored.

starts : (bs : List ℕ) (x : ℕ × List ℕ) → long_at bs ≡ Some x → is_ignored bs ≡ false
unfolding number_in
starts [] x e = absurd (none_found x e)
starts (b ∷ bs) x e = by_test (b == 35) refl
  where
    by_test : (t : Bool) → (b == 35) ≡ t → t ≡ false
    by_test false f = refl
    by_test true f =
        let hash : b ≡ 35 = eqb-true b 35 f in
        absurd (none_found x (subst (λ (c : ℕ). long_at (c ∷ bs) ≡ Some x) hash e))

pub number_starts : (n : ℕ) (rest : List ℕ) → IsLong n → EndsNumber rest → is_ignored (decimal n ++ rest) ≡ false
number_starts n rest h ends = starts (decimal n ++ rest) (n, rest) (long_is.again n rest h ends)

-- A line of clocks.

instance_text : Who → List ℕ
instance_text w = decimal w.actor ++ (codes "." ++ decimal w.instance)

instance_is : IsField instance_at IsInstance instance_text EndsNumber
unfolding instance_text
instance_is =
    made_at_is (pair_is node_is (codes ".") (number_is 1 4294967295 (lit< tt)) (λ _. refl)) instance_made IsInstance instance_text
    (λ w h. ((h.0, h.1.0, omega (arith, h.1.1)), refl))
    (λ w h. ((w.actor, w.instance), (h.0, (h.1, omega (arith, h.2))), refl))

instance_spelled : (w : Who) → IsInstance w → who_text w ≡ instance_text w
unfolding instance_text
instance_spelled w h = rw (of_node w.actor h.0) refl

pair_law : IsField (pair_at instance_at (codes ":") long_at) (λ (c : Who × ℕ). IsInstance c.0 × IsLong c.1) (λ c. instance_text c.0 ++ (codes ":" ++ decimal c.1)) EndsNumber
pair_law = pair_is instance_is (codes ":") long_is (λ _. refl)

clock_again : (c : Who × ℕ) (rest : List ℕ) → IsInstance c.0 → IsLong c.1 → EndsNumber rest → clock_at (clock_word c ++ rest) ≡ Some (c, rest)
unfolding clock_at
clock_again c rest h k ends =
    let spelled : clock_word c ++ rest ≡ codes " " ++ ((instance_text c.0 ++ (codes ":" ++ decimal c.1)) ++ rest) =
    ap (λ t. (codes " " ++ (t ++ (codes ":" ++ decimal c.1))) ++ rest) (instance_spelled c.0 h) in
    ap (λ t. after_word (codes " ") t >>= pair_at instance_at (codes ":") long_at) spelled
    ∙ (ap (λ (o : Option (List ℕ)). o >>= pair_at instance_at (codes ":") long_at) (word_again (codes " ") ((instance_text c.0 ++ (codes ":" ++ decimal c.1)) ++ rest))
    ∙ pair_law.again c rest (h, k) ends)

ends_words : (cs : Clocks) → EndsNumber (clock_words cs)
ends_words [] = tt
ends_words (c ∷ cs) = refl

clocks_again : (k : ℕ) (above : Option Who) (before cs : Clocks) → ClocksRise above cs → length cs ≤ k →
    clocks_on k above before (clock_words cs) ≡ Some (before ++ cs)
unfolding clocks_on
clocks_again k above before [] h few = ap (λ (x : Clocks). Some x) (sym (append-nil before))
clocks_again zero above before (c ∷ cs) h few = absurd (omega arith)
clocks_again (suc k) above before (c ∷ cs) h few =
    let next : Clocks = before ++ c ∷ [] in
    ap (λ (o : Field (Who × ℕ)). o >>= λ c. cond (comes_after above c.0.0) (clocks_on k (Some c.0.0) (before ++ c.0 ∷ []) c.1) None)
    (clock_again c (clock_words cs) h.1 h.2 (ends_words cs))
    ∙ (ap (λ b. cond b (clocks_on k (Some c.0) next (clock_words cs)) None) h.0
    ∙ (clocks_again k (Some c.0) next cs h.3 (omega arith)
    ∙ ap (λ (x : Clocks). Some x) (append_assoc before (c ∷ []) cs)))

-- the words of a line of clocks
abbrev pub clocks_text : ℕ → Clocks → List ℕ
clocks_text line clocks = decimal line ++ (codes " clocks" ++ clock_words clocks)

no_head : (line : ℕ) (rest : List ℕ) → IsLong line → head_at (decimal line ++ (codes " clocks" ++ rest)) ≡ None
unfolding head_at after_word number_in
no_head line rest h =
    ap
    (λ (o : Field ℕ). o >>= λ line. word_of optional_at line.1 >>= λ time. word_of who_at time.1 >>= λ who.
    word_of optional_at who.1 >>= λ reading.
    cond (has_its_reading who.0 reading.0) (Some (head_made line.0 time.0 who.0 reading.0, reading.1)) None)
    (word_of_again long_is line (codes "clocks" ++ rest) h refl)

shown_again : (line : ℕ) (clocks : Clocks) → IsLong line → ClocksRise None clocks → length clocks ≤ 64 → shown_of (clocks_text line clocks) ≡ Some (line, clocks)
unfolding shown_of
shown_again line clocks h rise few =
    ap (λ (o : Field ℕ). o >>= λ line. after_word (codes "clocks") line.1 >>= λ rest. clocks_on 64 None [] rest >>= λ clocks. Some (line.0, clocks))
    (word_of_again long_is line (codes "clocks" ++ clock_words clocks) h refl)
    ∙ (ap (λ (o : Option (List ℕ)). o >>= λ rest. clocks_on 64 None [] rest >>= λ clocks. Some (line, clocks)) (word_again (codes "clocks") (clock_words clocks))
    ∙ ap (λ (o : Option Clocks). o >>= λ clocks. Some (line, clocks)) (clocks_again 64 None [] clocks rise few))

pub clocks_said : (line : ℕ) (clocks : Clocks) → IsLong line → ClocksRise None clocks → length clocks ≤ 64 →
    said_of (clocks_text line clocks) ≡ Some (Shows line clocks)
unfolding said_of sent_of line_of
clocks_said line clocks h rise few =
    let text : List ℕ = clocks_text line clocks in
    let none : head_at text ≡ None = no_head line (clock_words clocks) h in
    let told : told_of text ≡ None =
    ap (λ (o : Field Head). (o >>= λ x. report_of x.1 >>= λ y. Some (both x.0 y)) >>= λ x. Some (Tells x.0.line x.0.who (Some x.1))) none in
    let sent : sent_of text ≡ None =
    ap (λ (o : Field Head). o >>= λ head. after_word (codes "sent ") head.1 >>= λ rest. span_of rest >>= λ n. Some (head.0.line, head.0.who)) none in
    let shown : shown_of text ≡ Some (line, clocks) = shown_again line clocks h rise few in
    ap (λ (o : Option Said). first_of o (first_of (made (λ x. Tells x.0 x.1 None) sent_of text) (first_of (made (λ x. Shows x.0 x.1) shown_of text) (made (λ n. Opens) section_at text)))) told
    ∙ (ap (λ (o : Option (ℕ × Who)). first_of (o >>= λ x. Some (Tells x.0 x.1 None)) (first_of (made (λ x. Shows x.0 x.1) shown_of text) (made (λ n. Opens) section_at text))) sent
    ∙ ap (λ (o : Option (ℕ × Clocks)). first_of (o >>= λ x. Some (Shows x.0 x.1)) (made (λ n. Opens) section_at text)) shown)

pub clocks_count : (line : ℕ) (clocks : Clocks) → IsLong line → is_ignored (clocks_text line clocks) ≡ false
clocks_count line clocks h = number_starts line (codes " clocks" ++ clock_words clocks) h refl

-- A line of a report.

pub report_said : (head : Head) (r : Report) → FitsHead head → FitsReport r → said_of (report_words head r) ≡ Some (Tells head.line head.who (Some r))
unfolding said_of
report_said head r h fits =
    let text : List ℕ = report_words head r in
    ap (λ (o : Option (Head × Report)). first_of (o >>= λ x. Some (Tells x.0.line x.0.who (Some x.1)))
    (first_of (made (λ x. Tells x.0 x.1 None) sent_of text) (first_of (made (λ x. Shows x.0 x.1) shown_of text) (made (λ n. Opens) section_at text))))
    (line_again head r h fits)

-- what follows a head
head_counts : (head : Head) (rest : List ℕ) → FitsHead head → is_ignored (head_text head ++ rest) ≡ false
head_counts head rest h =
    let more : List ℕ = optional_text head.time ++ (codes " " ++ (who_text head.who ++ (codes " " ++ optional_text head.reading))) in
    ap is_ignored (append_assoc (decimal head.line) (codes " " ++ more) rest) ∙ number_starts head.line ((codes " " ++ more) ++ rest) h.0 refl

pub report_counts : (head : Head) (r : Report) → FitsHead head → is_ignored (report_words head r) ≡ false
report_counts head r h = head_counts head (codes " " ++ report_text r) h

-- A line of frames that were sent.

-- its words
abbrev pub sent_words : Head → ℕ × ℕ → List ℕ
sent_words head sent = spaced (head_text head ∷ codes "sent" ∷ (decimal sent.0 ++ (codes "-" ++ decimal sent.1)) ∷ [])

no_report : (words : List ℕ) → report_of (codes "sent " ++ words) ≡ None
unfolding report_of plain_report_of unit_report_of manager_report_of entry_report_of ring_report_of peer_report_of move_of after_word
no_report words = refl

span_again : (first last_one : ℕ) → 1 ≤ first → first ≤ last_one → last_one ≤ 4294967295 → span_of (decimal first ++ (codes "-" ++ decimal last_one)) ≡ Some last_one
span_again first last_one h k m =
    ap (λ (o : Field ℕ). o >>= λ first. after_word (codes "-") first.1 >>= last (number_in first.0 4294967295))
    ((number_is 1 4294967295 (lit< tt)).again first (codes "-" ++ decimal last_one) (h, omega arith) refl)
    ∙ (ap (λ (o : Option (List ℕ)). o >>= last (number_in first 4294967295)) (word_again (codes "-") (decimal last_one))
    ∙ (last_is (number_is first 4294967295 (lit< tt)) tt).again last_one (k, m))

pub sent_said : (head : Head) (sent : ℕ × ℕ) → FitsHead head → 1 ≤ sent.0 → sent.0 ≤ sent.1 → sent.1 ≤ 4294967295 →
    said_of (sent_words head sent) ≡ Some (Tells head.line head.who None)
unfolding said_of sent_of line_of
sent_said head sent h k l m =
    let span : List ℕ = decimal sent.0 ++ (codes "-" ++ decimal sent.1) in
    let text : List ℕ = sent_words head sent in
    let read : head_at text ≡ Some (head, codes "sent " ++ span) = head_again head (codes "sent " ++ span) h in
    let told : told_of text ≡ None =
    ap (λ (o : Field Head). (o >>= λ x. report_of x.1 >>= λ y. Some (both x.0 y)) >>= λ x. Some (Tells x.0.line x.0.who (Some x.1))) read
    ∙ ap (λ (o : Option Report). (o >>= λ y. Some (both head y)) >>= λ x. Some (Tells x.0.line x.0.who (Some x.1))) (no_report span) in
    let says : sent_of text ≡ Some (head.line, head.who) =
    ap (λ (o : Field Head). o >>= λ head. after_word (codes "sent ") head.1 >>= λ rest. span_of rest >>= λ n. Some (head.0.line, head.0.who)) read
    ∙ (ap (λ (o : Option (List ℕ)). o >>= λ rest. span_of rest >>= λ n. Some (head.line, head.who)) (word_again (codes "sent ") span)
    ∙ ap (λ (o : Option ℕ). o >>= λ n. Some (head.line, head.who)) (span_again sent.0 sent.1 k l m)) in
    ap (λ (o : Option Said). first_of o (first_of (made (λ x. Tells x.0 x.1 None) sent_of text) (first_of (made (λ x. Shows x.0 x.1) shown_of text) (made (λ n. Opens) section_at text)))) told
    ∙ ap (λ (o : Option (ℕ × Who)). first_of (o >>= λ x. Some (Tells x.0 x.1 None)) (first_of (made (λ x. Shows x.0 x.1) shown_of text) (made (λ n. Opens) section_at text))) says

pub sent_counts : (head : Head) (sent : ℕ × ℕ) → FitsHead head → is_ignored (sent_words head sent) ≡ false
sent_counts head sent h = head_counts head (codes " sent " ++ (decimal sent.0 ++ (codes "-" ++ decimal sent.1))) h

-- The heading.

pub heading_said : said_of (codes "transcript 0") ≡ Some Opens
unfolding said_of shown_of sent_of line_of head_at after_word number_in
heading_said = refl
