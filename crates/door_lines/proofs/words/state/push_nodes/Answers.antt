use Rattle.std.proofs.Common.{◌-◌, ◌++◌, length, take, drop, ap, ◌∙◌}
use Rattle.std.specs.Prelude.{codes, decimal}
use Rattle.text_fields.proofs.Lists.{keeps_on, listed_first, written_on}
use Rattle.report_lines.proofs.Appending.{none_left, one_more}
use Rattle.door_lines.proofs.words.state.push_nodes.Goals as goal

pub loop-n-init : goal.loop-n-init
loop-n-init c =
    let before = c.args.into.now.items in
    let ensured = c.in_ok-push_number-in-len1-up.ensures in (
      written_on before c.push_number.new.into.items _ _ _ (ensured.ok
          ∙ ap (λ n. before ++ decimal n) c.from.ensures) (listed_first decimal c.args.nodes.now _ c.in-len1-up.len_at_least),
      ensured.kept,
    )

pub loop-n-preserved : goal.loop-n-preserved
loop-n-preserved c =
    let nodes = c.args.nodes.now in
    let old = c.loop-n.into.items in
    let now = c.push_number_behind.new.into.items in
    let ensured = c.in_ok-push_number_behind-in-len1-up.ensures in (
      one_more (λ n. codes "," ++ decimal n) (take (length nodes - 1) (drop 1 nodes)) c.loop-n.n-index 0 old now _ c.loop-n-test.true (ensured.ok
          ∙ ap (λ n. old ++ (codes "," ++ decimal n)) c.from-in-loop-n.ensures) c.loop-n.invariant.0,
      keeps_on c.args.into.now.items old now c.loop-n.invariant.1 ensured.kept,
    )

pub returns-after-loop-n-clause-ok : goal.returns-after-loop-n-clause-ok
returns-after-loop-n-clause-ok c = none_left (λ n. codes "," ++ decimal n) _ c.loop-n.n-index c.loop-n.into.items _ c.loop-n-test.false c.loop-n.invariant.0
