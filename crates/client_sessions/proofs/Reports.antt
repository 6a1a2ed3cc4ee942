-- What is said of the reports of a step, one more at a time.
use Rattle.std.proofs.Common.{◌≡◌, ℕ, ◌+◌, ◌<◌, Bool, List, [], ◌∷◌, ◌++◌, append_assoc, ap, get_or, length, refl, subst, sym, take, ◌∙◌}
use Rattle.std.proofs.lemmas.List.{append-nil, flat_map_more, take_more}
use Rattle.fabric_terms.specs.declared.report.Head.{Head}
use Rattle.fabric_terms.specs.declared.report.Report.{Report}
use Rattle.line_format.specs.Reports.{report_line}
use Rattle.log_lines.specs.Reports.{Choice}
use Rattle.door_io.specs.Clients.{ClientsTold}
use Rattle.client_sessions.specs.declared.watchers.Watcher.{Watcher}
use Rattle.client_sessions.specs.Utterances.{Uttered}
use Rattle.client_sessions.specs.Sessions.{choice_after, choice_next, is_logged, of_report, of_reports}
use Rattle.client_sessions.specs.Answers.{own_line, own_lines}
use Rattle.client_sessions.proofs.Chains.{uttered_on}

choice_after-append : (choice : Choice) (xs ys : List Report) → choice_after choice (xs ++ ys) ≡ choice_after (choice_after choice xs) ys
choice_after-append choice [] ys = refl
choice_after-append choice (r ∷ xs) ys = choice_after-append (choice_next choice r) xs ys

of_reports-append : (choice : Choice) (ws : List Watcher) (asked : ℕ → Bool) (head : Head) (xs ys : List Report)
    → of_reports choice ws asked head (xs ++ ys) ≡ of_reports choice ws asked head xs ++ of_reports (choice_after choice xs) ws asked head ys
of_reports-append choice ws asked head [] ys = refl
of_reports-append choice ws asked head (r ∷ xs) ys =
    let first = of_report (is_logged choice asked r) (report_line head r) ws in
    ap (λ us. first ++ us) (of_reports-append (choice_next choice r) ws asked head xs ys)
    ∙ sym (append_assoc first (of_reports (choice_next choice r) ws asked head xs) (of_reports (choice_after (choice_next choice r) xs) ws asked head ys))

-- One report more. It is an item of the list, and the choice before it is that after the reports before.

-- the choice after it
pub choice_more : (choice now next : Choice) (rs : List Report) (i : ℕ) (r : Report) → i < length rs → r ≡ get_or rs i r → now ≡ choice_after choice (take i rs) → next ≡ choice_next now r → next ≡ choice_after choice (take (i + 1) rs)
choice_more choice now next rs i r within item before is =
    is
    ∙ ap (λ n. choice_next n r) before
    ∙ ap (choice_next (choice_after choice (take i rs))) item
    ∙ sym (choice_after-append choice (take i rs) (get_or rs i r ∷ []))
    ∙ sym (ap (choice_after choice) (take_more rs i r within))

-- what is said of the reports up to it
said_up_to : (choice : Choice) (ws : List Watcher) (asked : ℕ → Bool) (head : Head) (rs : List Report) (i : ℕ) (r : Report) → i < length rs → r ≡ get_or rs i r
    → of_reports choice ws asked head (take (i + 1) rs) ≡ of_reports choice ws asked head (take i rs) ++ of_report (is_logged (choice_after choice (take i rs)) asked r) (report_line head r) ws
said_up_to choice ws asked head rs i r within item =
    let here = λ (q : Report). of_report (is_logged (choice_after choice (take i rs)) asked q) (report_line head q) ws in
    ap (of_reports choice ws asked head) (take_more rs i r within)
    ∙ of_reports-append choice ws asked head (take i rs) (get_or rs i r ∷ [])
    ∙ ap (λ us. of_reports choice ws asked head (take i rs) ++ us) (append-nil (here (get_or rs i r)))
    ∙ ap (λ q. of_reports choice ws asked head (take i rs) ++ here q) (sym item)

pub reports_more : (choice now : Choice) (ws : List Watcher) (asked : ℕ → Bool) (head : Head) (rs : List Report) (i : ℕ) (r : Report) (logged : Bool) (a m b : ClientsTold)
    → i < length rs → r ≡ get_or rs i r → now ≡ choice_after choice (take i rs) → logged ≡ is_logged now asked r
    → Uttered (of_reports choice ws asked head (take i rs)) a m
    → Uttered (of_report logged (report_line head r) ws) m b
    → Uttered (of_reports choice ws asked head (take (i + 1) rs)) a b
reports_more choice now ws asked head rs i r logged a m b within item before is so_far here =
    let same : logged ≡ is_logged (choice_after choice (take i rs)) asked r = is ∙ ap (λ n. is_logged n asked r) before in
    subst (λ us. Uttered us a b) (sym (said_up_to choice ws asked head rs i r within item))
    (uttered_on so_far (subst (λ l. Uttered (of_report l (report_line head r) ws) m b) same here))

-- the lines of a command's own step, up to one more report
pub own_more : (text now next : List ℕ) (tag : ℕ) (head : Head) (rs : List Report) (i : ℕ) (r : Report) → i < length rs → r ≡ get_or rs i r
    → now ≡ text ++ own_lines tag head (take i rs) → next ≡ now ++ own_line tag head r → next ≡ text ++ own_lines tag head (take (i + 1) rs)
own_more text now next tag head rs i r within item before is =
    is
    ∙ ap (λ n. n ++ own_line tag head r) before
    ∙ ap (λ q. (text ++ own_lines tag head (take i rs)) ++ own_line tag head q) item
    ∙ flat_map_more (own_line tag head) text (take i rs) (get_or rs i r)
    ∙ ap (λ all. text ++ own_lines tag head all) (sym (take_more rs i r within))
