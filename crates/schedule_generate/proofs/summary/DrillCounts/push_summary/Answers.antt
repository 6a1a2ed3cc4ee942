use Rattle.std.proofs.Common.{◌++◌, ap, ◌∙◌}
use Rattle.std.specs.Prelude.{codes}
use Rattle.std.proofs.lemmas.Result.{on_ok_weaker}
use Rattle.schedule_generate.specs.Settings.{generated_config}
use Rattle.schedule_generate.specs.Texts.{number_line}
use Rattle.schedule_generate.proofs.Summing.{five_lines}
use Rattle.schedule_generate.proofs.summary.DrillCounts.push_summary.Goals as goal

pub returns : goal.returns
returns c n h counts stands =
    let world = c.counts-events.ensures (generated_config n) h stands in
    let held = c.held.ensures (generated_config n) h stands in
    let text = c.args.text.now.items in
    let a = c.push_numbered.new.text.items in
    let b = c.push_numbered-2.new.text.items in
    let d = c.push_numbered-3.new.text.items in
    let e = c.push_numbered-4.new.text.items in
    on_ok_weaker c.push_numbered-5.result
    (λ last. five_lines text a b d e c.push_numbered-5.new.text.items _ _ _ _ _
    (c.in_ok-push_numbered.ensures.ok ∙ ap (λ k. text ++ number_line (codes "events ") k) world.0)
    (c.in_ok-push_numbered-2.ensures.ok ∙ ap (λ k. a ++ number_line (codes "frames ") k) (c.from.ensures ∙ world.1))
    (c.in_ok-push_numbered-3.ensures.ok ∙ ap (λ k. b ++ number_line (codes "tookover ") k) counts.took_over)
    (c.in_ok-push_numbered-4.ensures.ok ∙ ap (λ k. d ++ number_line (codes "left ") k) counts.left)
    (last ∙ ap (λ k. e ++ number_line (codes "held ") k) (c.from-2.ensures ∙ held)))
    c.push_numbered-5.ensures.ok
