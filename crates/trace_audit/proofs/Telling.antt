-- A group of a transcript, as `trace` writes it, is read as its moment.
use Rattle.std.proofs.Common.{◌≡◌, ℕ, ◌≤◌, ◌<◌, ◌^◌, Bool, true, false, not, ◌&&◌, cond, List, [], ◌∷◌, ◌++◌, map, Option, Some, None, arith, refl, sym, ap, ◌∙◌}
use Rattle.std.specs.Prelude.{All, is_some, nat_eq, nat_lt}
use Rattle.std.proofs.lemmas.Bool.{ltb-true, lt-ltb}
use Rattle.std.proofs.lemmas.Bool.Decides.{nat_tests}
use Rattle.std.proofs.lemmas.List.{append_assoc, append-nil}
use Rattle.std.proofs.lemmas.List.Elements.{All-head, All-tail}
use Rattle.fabric_terms.specs.declared.report.Head.{Head}
use Rattle.fabric_terms.specs.declared.report.Report.{Report}
use Rattle.fabric_terms.specs.declared.report.Report.TheVariants.{UnitList}
use Rattle.fabric_terms.specs.Ranges.{FitsHead, FitsReport}
use Rattle.fabric_terms.specs.Runs.{Clocks, Entry, Moment, Run}
use Rattle.frames_fit.specs.Formats.{ReportInRange}
use Rattle.ring_points.specs.declared.who.Who.{Who}
use Rattle.ring_points.proofs.Whos.{same_who-refl}
use Rattle.schedule_rules.specs.Output.{head_of}
use Rattle.line_format.specs.Reports.{report_words}
use Rattle.source_lines.specs.Lines.{is_ignored}
use Rattle.text_fields.specs.Fields.{◌>>=◌}
use Rattle.transcript_audit.specs.Groups.{Group, group_at, group_from, may_tell, with_report}
use Rattle.transcript_audit.specs.Said.{Said, Shows, Tells, said_of}
use Rattle.transcript_audit.specs.Transcript.{Reading, groups_of, may_begin, placed_if}
use Rattle.trace_audit.specs.Recordings.{HasLines, IsRecordable, group_of_moment, groups_of_run, reports_in, teller_of, who_in}
use Rattle.trace_audit.proofs.Saying.{clocks_count, clocks_said, clocks_text, report_counts, report_said, sent_counts, sent_said, sent_words}
use Rattle.trace_audit.proofs.Taking.{taken, taken_if, taken_more, taken_one}

-- The lines of a group.

abbrev pub sent_list : Head → ℕ × ℕ → List (List ℕ)
sent_list head sent = cond (nat_lt 0 sent.0) (sent_words head sent ∷ []) []

abbrev pub told_list : Head → Entry → List (List ℕ)
told_list head e = map (report_words head) e.reports ++ sent_list head e.sent

abbrev pub entry_list : ℕ → ℕ → Option Entry → List (List ℕ)
entry_list line time None = []
entry_list line time (Some e) = told_list (head_of line time e) e

abbrev pub group_list : Moment → List (List ℕ)
group_list m = clocks_text m.line m.clocks ∷ entry_list m.line m.time m.entry

-- What is read up to a moment.

abbrev pub reading_of : Run → Reading
reading_of [] = record { opened = true; now = None; before = [] }
reading_of (m ∷ ms) = record { opened = true; now = Some (group_of_moment m); before = groups_of_run ms }

-- a line that is in its place
pub one_taken : (line : List ℕ) (said : Said) (r s : Reading) → is_ignored line ≡ false → said_of line ≡ Some said → placed_if (Some said) r ≡ Some s →
    taken_one line r ≡ Some s
one_taken line said r s counts says e = ap (λ b. taken_if b line r) counts ∙ (ap (λ o. placed_if o r) says ∙ e)

-- The first line of a group.

absent : (line : ℕ) (run : Run) → All (λ n. n.line < line) run → group_at line (groups_of_run run) ≡ None
absent line [] h = refl
absent line (m ∷ ms) h = by_test (nat_eq line m.line) refl (absent line ms (All-tail (λ n. n.line < line) m ms h))
  where
    by_test : (b : Bool) → nat_eq line m.line ≡ b → group_at line (groups_of_run ms) ≡ None →
        cond b (Some (group_of_moment m)) (group_at line (groups_of_run ms)) ≡ None
    by_test true e rest = let less = All-head (λ n. n.line < line) m ms h in absurd (grind (arith, nat_tests))
    by_test false e rest = rest

begins_in : (m : Moment) (run : Run) → All (λ n. n.line < m.line) run → may_begin m.line (reading_of run) ≡ true
begins_in m [] h = refl
begins_in m (n ∷ ns) h =
    let over : nat_lt n.line m.line ≡ true = lt-ltb n.line m.line (All-head (λ n. n.line < m.line) n ns h) in
    let none : group_at m.line (groups_of_run (n ∷ ns)) ≡ None = absent m.line (n ∷ ns) h in
    ap (λ b. b && not (is_some (group_at m.line (groups_of_run (n ∷ ns))))) over ∙ ap (λ (o : Option Group). not (is_some o)) none

abbrev opening : ℕ → Clocks → Run → Reading
opening line clocks run = record { opened = true; now = Some (group_from line clocks); before = groups_of_run run }

pub groups_are : (run : Run) → groups_of (reading_of run) ≡ groups_of_run run
groups_are [] = refl
groups_are (m ∷ ms) = refl

first_taken : (m : Moment) (run : Run) → IsRecordable m → All (λ n. n.line < m.line) run →
    taken_one (clocks_text m.line m.clocks) (reading_of run) ≡ Some (opening m.line m.clocks run)
first_taken m run h later =
    one_taken (clocks_text m.line m.clocks) (Shows m.line m.clocks) (reading_of run) (opening m.line m.clocks run) (clocks_count m.line m.clocks h.line)
    (clocks_said m.line m.clocks h.line h.clocks h.few)
    (ap (λ b. cond b (Some (record { opened = true; now = Some (group_from m.line m.clocks); before = groups_of (reading_of run) })) None) (begins_in m run later)
    ∙ ap (λ gs. Some (record { opened = true; now = Some (group_from m.line m.clocks); before = gs })) (groups_are run))

-- The lines of an entry.

pub report_fits : (r : Report) → ReportInRange r → FitsReport r
report_fits (UnitList partitions) h = h.0
report_fits r h = h

module _ (line : ℕ) (clocks : Clocks) (gs : List Group) where
  -- so much was told
  abbrev at : Option Who → List Report → Reading
  at who reports = record { opened = true; now = Some (record { line = line; clocks = clocks; who = who; reports = reports }); before = gs }

  same_line : nat_eq line line ≡ true
  same_line = grind (arith, nat_tests)

  tells_on : (w : Who) (report : Option Report) (who : Option Who) (reports : List Report) → may_tell w who ≡ true →
      placed_if (Some (Tells line w report)) (at who reports) ≡ Some (at (Some w) (with_report report reports))
  tells_on w report who reports h = rw same_line (rw h refl)

  module _ (head : Head) (fits : FitsHead head) (here : head.line ≡ line) where
    report_taken : (r : Report) (who : Option Who) (before : List Report) → ReportInRange r → may_tell head.who who ≡ true →
        taken_one (report_words head r) (at who before) ≡ Some (at (Some head.who) (before ++ r ∷ []))
    report_taken r who before k may =
        one_taken (report_words head r) (Tells line head.who (Some r)) (at who before) (at (Some head.who) (before ++ r ∷ [])) (report_counts head r fits)
        (report_said head r fits (report_fits r k) ∙ ap (λ n. Some (Tells n head.who (Some r))) here) (tells_on head.who (Some r) who before may)

    again : may_tell head.who (Some head.who) ≡ true
    again = same_who-refl head.who

    more_taken : (rs before : List Report) → All ReportInRange rs →
        taken (map (report_words head) rs) (at (Some head.who) before) ≡ Some (at (Some head.who) (before ++ rs))
    more_taken [] before k = ap (λ reports. Some (at (Some head.who) reports)) (sym (append-nil before))
    more_taken (r ∷ rs) before k =
        ap (λ o. o >>= λ s. taken (map (report_words head) rs) s) (report_taken r (Some head.who) before (All-head ReportInRange r rs k) again)
        ∙ (more_taken rs (before ++ r ∷ []) (All-tail ReportInRange r rs k)
        ∙ ap (λ reports. Some (at (Some head.who) reports)) (append_assoc before (r ∷ []) rs))

    -- who tells reports
    abbrev who_told : List Report → Option Who
    who_told rs = teller_of head.who rs false

    reports_taken : (rs : List Report) → All ReportInRange rs → taken (map (report_words head) rs) (at None []) ≡ Some (at (who_told rs) rs)
    reports_taken [] k = refl
    reports_taken (r ∷ rs) k =
        ap (λ o. o >>= λ s. taken (map (report_words head) rs) s) (report_taken r None [] (All-head ReportInRange r rs k) refl)
        ∙ more_taken rs (r ∷ []) (All-tail ReportInRange r rs k)

    may_told : (rs : List Report) → may_tell head.who (who_told rs) ≡ true
    may_told [] = refl
    may_told (r ∷ rs) = again

    last_teller : (rs : List Report) → Some head.who ≡ teller_of head.who rs true
    last_teller [] = refl
    last_teller (r ∷ rs) = refl

    sent_taken : (sent : ℕ × ℕ) (rs : List Report) → sent.0 ≤ sent.1 → sent.1 < 2 ^ 32 →
        taken (sent_list head sent) (at (who_told rs) rs) ≡ Some (at (teller_of head.who rs (nat_lt 0 sent.0)) rs)
    sent_taken sent rs k l = by_test (nat_lt 0 sent.0) refl
      where
        by_test : (b : Bool) → nat_lt 0 sent.0 ≡ b → taken (cond b (sent_words head sent ∷ []) []) (at (who_told rs) rs) ≡ Some (at (teller_of head.who rs b) rs)
        by_test false e = refl
        by_test true e =
            let some : 1 ≤ sent.0 = (let less = ltb-true 0 sent.0 e in omega arith) in
            let one = one_taken (sent_words head sent) (Tells line head.who None) (at (who_told rs) rs) (at (Some head.who) rs) (sent_counts head sent fits)
            (sent_said head sent fits some k (omega arith) ∙ ap (λ n. Some (Tells n head.who None)) here) (tells_on head.who None (who_told rs) rs (may_told rs)) in
            ap (λ o. o >>= λ s. taken [] s) one ∙ ap (λ who. Some (at who rs)) (last_teller rs)

entry_taken : (m : Moment) (gs : List Group) → IsRecordable m → (o : Option Entry) → HasLines o →
    taken (entry_list m.line m.time o) (record { opened = true; now = Some (group_from m.line m.clocks); before = gs })
    ≡ Some (record { opened = true; now = Some (record { line = m.line; clocks = m.clocks; who = who_in o; reports = reports_in o }); before = gs })
entry_taken m gs h None k = refl
entry_taken m gs h (Some e) k =
    let head : Head = head_of m.line m.time e in
    let fits : FitsHead head = (h.line, h.time, k.who, k.reading) in
    taken_more (map (report_words head) e.reports) (sent_list head e.sent) _ _ (reports_taken m.line m.clocks gs head fits refl e.reports k.reports)
    ∙ sent_taken m.line m.clocks gs head fits refl e.sent e.reports k.sent.0 k.sent.1

-- A group, behind those before.
pub group_taken : (m : Moment) (run : Run) → IsRecordable m → All (λ n. n.line < m.line) run → taken (group_list m) (reading_of run) ≡ Some (reading_of (m ∷ run))
group_taken m run h later =
    ap (λ o. o >>= λ s. taken (entry_list m.line m.time m.entry) s) (first_taken m run h later) ∙ entry_taken m (groups_of_run run) h m.entry h.entry
