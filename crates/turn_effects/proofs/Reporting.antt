-- Lines of reports, one after another.
use Rattle.std.proofs.Common.{◌≡◌, ◌<◌, ◌+◌, ℕ, List, [], ◌∷◌, ◌++◌, length, take, refl, ap, sym, ◌∙◌, append_assoc}
use Rattle.std.specs.Prelude.{slice_index_or}
use Rattle.std.proofs.lemmas.List.{append-nil}
use Rattle.fabric_terms.specs.declared.report.Head.{Head}
use Rattle.fabric_terms.specs.declared.report.Report.{Report}
use Rattle.line_format.specs.Reports.{report_line}
use Rattle.turn_effects.proofs.Growing.{made_next}
use Rattle.line_format.specs.Reports.{lines_of_reports}

lines-append : (head : Head) (rs ss : List Report) → lines_of_reports head (rs ++ ss) ≡ lines_of_reports head rs ++ lines_of_reports head ss
lines-append head [] ss = refl
lines-append head (r ∷ rs) ss = ap (λ (t : List ℕ). report_line head r ++ t) (lines-append head rs ss) ∙ sym (append_assoc (report_line head r) (lines_of_reports head rs) (lines_of_reports head ss))

-- one more
pub lines_next : (head : Head) (rs : List Report) (i : ℕ) (r : Report) (old new : List ℕ) → i < length rs → r ≡ slice_index_or rs i r → old ≡ lines_of_reports head (take i rs) → new ≡ old ++ report_line head r → new ≡ lines_of_reports head (take (i + 1) rs)
lines_next head rs i r old new h e before more =
    more
    ∙ ap (λ (t : List ℕ). t ++ report_line head r) before
    ∙ ap (λ (t : List ℕ). lines_of_reports head (take i rs) ++ t) (sym (append-nil (report_line head r)))
    ∙ sym (made_next (lines_of_reports head) (lines-append head) rs i r h e)
