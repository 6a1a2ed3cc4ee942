-- The transcript of a run is read back as its groups.
use Rattle.std.proofs.Common.{◌≡◌, ℕ, ◌≤◌, Bool, true, false, cond, List, [], ◌∷◌, ◌++◌, length, map, Option, Some, None, Ok, arith, refl, ap, subst, ◌∙◌}
use Rattle.std.specs.Prelude.{All, codes, decimal, nat_lt}
use Rattle.std.proofs.lemmas.List.{append_assoc}
use Rattle.std.proofs.lemmas.List.Elements.{All-append, All-cons, All-head, All-nil, All-tail}
use Rattle.fabric_terms.specs.declared.report.Head.{Head}
use Rattle.fabric_terms.specs.declared.report.Report.{Report}
use Rattle.fabric_terms.specs.Ranges.{FitsHead}
use Rattle.fabric_terms.specs.Runs.{Clocks, Entry, Moment, Run}
use Rattle.frames_fit.specs.Formats.{ReportInRange}
use Rattle.schedule_rules.specs.Output.{entry_lines, head_of, sent_lines}
use Rattle.schedule_rules.specs.Traces.{clock_words, clocks_line, group}
use Rattle.line_format.specs.Lines.{lines_of}
use Rattle.line_format.specs.Reports.{lines_of_reports, report_line, report_words, sent_line}
use Rattle.source_lines.specs.Lines.{most_lines}
use Rattle.text_fields.specs.Fields.{◌>>=◌}
use Rattle.transcript_audit.specs.Groups.{Group}
use Rattle.transcript_audit.specs.Said.{Opens}
use Rattle.transcript_audit.specs.Transcript.{groups_if, most_line, nothing_read, read_from, transcript_of}
use Rattle.trace_audit.specs.Laws.{RecordingsAreRead}
use Rattle.trace_audit.specs.Recordings.{HasLines, IsRecordable, LinesRise, SentFits, trace_of}
use Rattle.trace_audit.proofs.Lines.{IsLines, all_lines, more_lines, no_lines, one_line}
use Rattle.trace_audit.proofs.Pieces.{Piece}
use Rattle.trace_audit.proofs.ReportPieces.{clocks_line_piece, report_line_piece, sent_line_piece}
use Rattle.trace_audit.proofs.Saying.{clocks_text, heading_said, sent_words}
use Rattle.trace_audit.proofs.Taking.{read_taken, taken, taken_more}
use Rattle.trace_audit.proofs.Telling.{entry_list, group_list, group_taken, groups_are, one_taken, reading_of, sent_list}

-- The lines of a text.

abbrev run_list : Run → List (List ℕ)
run_list [] = codes "transcript 0" ∷ []
run_list (m ∷ ms) = run_list ms ++ group_list m

Short : List ℕ → Type 0
Short line = length line ≤ 65536

-- the text is these lines, and none is too long
record AreLines (text : List ℕ) (ls : List (List ℕ)) : Type 0 where
  pub lines : IsLines text ls
  pub short : All (λ l. length l ≤ most_line) ls

none : AreLines [] []
none = record { lines = no_lines; short = All-nil (λ l. length l ≤ most_line) }

more : (a b : List ℕ) (ls ms : List (List ℕ)) → AreLines a ls → AreLines b ms → AreLines (a ++ b) (ls ++ ms)
more a b ls ms h k = record { lines = more_lines a b ls ms h.lines k.lines; short = All-append (λ l. length l ≤ most_line) ls ms h.short k.short }

one : (line : List ℕ) → Piece 65536 line → AreLines (line ++ codes "\n") (line ∷ [])
one line h = record {
  lines = one_line line h.ink;
  short = All-cons (λ l. length l ≤ most_line) line [] h.few (All-nil (λ l. length l ≤ most_line));
}

reports : (head : Head) → FitsHead head → (rs : List Report) → All ReportInRange rs → AreLines (lines_of_reports head rs) (map (report_words head) rs)
reports head h [] k = none
reports head h (r ∷ rs) k =
    more (report_line head r) (lines_of_reports head rs) (report_words head r ∷ []) (map (report_words head) rs)
    (one (report_words head r) (report_line_piece head r h (All-head ReportInRange r rs k))) (reports head h rs (All-tail ReportInRange r rs k))

sent_frames : (head : Head) → FitsHead head → (sent : ℕ × ℕ) → SentFits sent → AreLines (sent_lines head sent) (sent_list head sent)
sent_frames head h sent k = by_test (nat_lt 0 sent.0)
  where
    by_test : (b : Bool) → AreLines (cond b (sent_line head sent) []) (cond b (sent_words head sent ∷ []) [])
    by_test true = one (sent_words head sent) (sent_line_piece head sent h k.0 k.1)
    by_test false = none

entries : (m : Moment) → IsRecordable m → (o : Option Entry) → HasLines o → AreLines (entry_lines m.line m.time o) (entry_list m.line m.time o)
entries m h None k = none
entries m h (Some e) k =
    let head : Head = head_of m.line m.time e in
    let fits : FitsHead head = (h.line, h.time, k.who, k.reading) in
    more (lines_of_reports head e.reports) (sent_lines head e.sent) (map (report_words head) e.reports) (sent_list head e.sent) (reports head fits e.reports k.reports)
    (sent_frames head fits e.sent k.sent)

clocks_are : (line : ℕ) (clocks : Clocks) → clocks_text line clocks ++ codes "\n" ≡ clocks_line line clocks
clocks_are line clocks =
    append_assoc (decimal line) (codes " clocks" ++ clock_words clocks) (codes "\n")
    ∙ ap (λ t. decimal line ++ t) (append_assoc (codes " clocks") (clock_words clocks) (codes "\n"))

groups : (m : Moment) → IsRecordable m → AreLines (group m) (group_list m)
groups m h =
    more (clocks_line m.line m.clocks) (entry_lines m.line m.time m.entry) (clocks_text m.line m.clocks ∷ []) (entry_list m.line m.time m.entry)
    (subst (λ t. AreLines t (clocks_text m.line m.clocks ∷ [])) (clocks_are m.line m.clocks)
    (one (clocks_text m.line m.clocks) (clocks_line_piece m.line m.clocks h.line h.clocks h.few)))
    (entries m h m.entry h.entry)

runs : (run : Run) → All IsRecordable run → AreLines (trace_of run) (run_list run)
runs [] h = one (codes "transcript 0") (record { few = omega arith; ink = refl })
runs (m ∷ ms) h = more (trace_of ms) (group m) (run_list ms) (group_list m) (runs ms (All-tail IsRecordable m ms h)) (groups m (All-head IsRecordable m ms h))

-- What is read of them.

run_taken : (run : Run) → All IsRecordable run → LinesRise run → taken (run_list run) nothing_read ≡ Some (reading_of run)
run_taken [] h rise = ap (λ o. o >>= λ s. taken [] s) (one_taken (codes "transcript 0") Opens nothing_read (reading_of []) refl heading_said refl)
run_taken (m ∷ ms) h rise =
    taken_more (run_list ms) (group_list m) nothing_read (reading_of ms) (run_taken ms (All-tail IsRecordable m ms h) rise.1)
    ∙ group_taken m ms (All-head IsRecordable m ms h) rise.0

pub recordings_are_read : RecordingsAreRead
unfolding transcript_of
recordings_are_read run h limits =
    let text : List ℕ = trace_of run in
    let are = runs run h.each in
    let lines : lines_of text ≡ run_list run = all_lines text (run_list run) are.lines in
    let few : length (run_list run) ≤ most_lines = subst (λ ls. length ls ≤ most_lines) lines limits.lines in
    ap (λ ls. groups_if (read_from (length text) 1 0 nothing_read ls)) lines
    ∙ (ap groups_if (read_taken (length text) 1 0 (run_list run) nothing_read (reading_of run) limits.bytes (omega arith) are.short (run_taken run h.each h.rise))
    ∙ ap (λ (gs : List Group). Ok gs) (groups_are run))
