use Rattle.std.proofs.Common.{◌-◌, ◌++◌, length, take, drop, ap, ◌∙◌}
use Rattle.std.specs.Prelude.{codes}
use Rattle.text_fields.proofs.Lists.{keeps_on}
use Rattle.report_lines.proofs.Appending.{names_begun, none_left, one_more}
use Rattle.report_lines.proofs.report.list.push_names.Goals as goal

pub loop-name-init : goal.loop-name-init
loop-name-init c =
    let ensured = c.in_ok-push_behind-in-len1-up.ensures in (
      names_begun c.args.into.now.items c.push_behind.new.into.items c.as_slice.result.now c.args.names.now _ c.in-len1-up.len_at_least ensured.ok (c.as_slice.ensures.bytes ∙ c.first-item.is),
      ensured.kept,
    )

pub loop-name-preserved : goal.loop-name-preserved
loop-name-preserved c =
    let names = c.args.names.now in
    let old = c.loop-name.into.items in
    let ensured = c.in_ok-push_behind-in-len1-up-2.ensures in (
      one_more (λ n. codes "," ++ n) (take (length names - 1) (drop 1 names)) c.loop-name.name-index _ old c.push_behind-in-loop-name.new.into.items _ c.loop-name-test.true (ensured.ok
          ∙ ap (λ t. old ++ (codes "," ++ t)) (c.as_slice-in-loop-name.ensures.bytes ∙ c.name-item.is)) c.loop-name.invariant.0,
      keeps_on c.args.into.now.items old c.push_behind-in-loop-name.new.into.items c.loop-name.invariant.1 ensured.kept,
    )

pub returns-after-loop-name-clause-ok : goal.returns-after-loop-name-clause-ok
returns-after-loop-name-clause-ok c = none_left (λ n. codes "," ++ n) _ c.loop-name.name-index c.loop-name.into.items _ c.loop-name-test.false c.loop-name.invariant.0
