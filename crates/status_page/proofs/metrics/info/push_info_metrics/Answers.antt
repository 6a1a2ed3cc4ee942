use Rattle.status_page.specs.Metrics.{info_metrics}
use Rattle.status_page.specs.Samples.{sample_text}
use Rattle.status_page.proofs.Joins.{behind, on_ok}
use Rattle.status_page.proofs.metrics.info.push_info_metrics.Goals as goal

pub returns : goal.returns
unfolding info_metrics sample_text
returns c =
    let t0 = c.args.into.now.items in
    let t1 = c.push_head.new.into.items in
    let t2 = c.push_bytes.new.into.items in
    let t3 = c.push_labels.new.into.items in
    on_ok c.push_end.result _ _
    (λ last.
    behind t0 t1 _ _ _ c.in_ok-push_head.ensures
    (behind t1 t2 _ _ _ c.in_ok-push_bytes.ensures.ok
    (behind t2 t3 _ _ _ c.in_ok-push_labels.ensures last)))
    c.push_end.ensures
