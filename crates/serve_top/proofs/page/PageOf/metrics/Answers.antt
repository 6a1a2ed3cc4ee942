use Rattle.std.proofs.lemmas.Result.{IfOk-weaker}
use Rattle.serve_top.proofs.page.PageOf.metrics.Goals as goal

-- the numbers that were read are those that the page is of
pub returns : goal.returns
returns c =
    IfOk-weaker c.metrics_answer.result _ _ (λ text is. (c.in_ok-counts.counts, c.in_ok-counts.ensures, is)) c.metrics_answer.ensures
