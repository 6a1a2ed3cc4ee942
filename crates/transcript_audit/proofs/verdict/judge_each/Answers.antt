use Rattle.std.proofs.Common.{◌<◌, length, sym, ◌∙◌, arith}
use Rattle.transcript_audit.proofs.Judging.{judged_one, judged_breach, judged_safe, none_at_first, none_yet, entry_there}
use Rattle.transcript_audit.proofs.verdict.judge_each.Goals as goal

pub loop-index-init : goal.loop-index-init
loop-index-init c = λ groups fresh finds. (fresh, none_at_first c.args.auditor.now fresh)

pub returns-in_default : goal.returns-in_default
returns-in_default c = λ groups fresh finds rise.
    let within : c.loop-index.index < length c.args.places.now.table.entries = omega (arith, c.loop-index-test.true, c.count-index-end.ensures) in
    absurd (entry_there c.args.places.now.table.entries c.loop-index.index c.in_default.ensures.entry within)

pub returns-then-is_some : goal.returns-then-is_some
returns-then-is_some c = λ groups fresh finds rise.
    let one = judged_one c.args.bytes.now c.args.places.now groups c.loop-index.index c.in-Some.field-0-0 c.in-Some.at c.loop-index.auditor c.moment.new.self c.read_group.new.moment c.in_ok-breach.breach finds
    (sym c.in-Some.ensures.entry) c.in-Some.ensures.found c.in_ok-read_group.ensures c.in_ok-breach.ensures.judges (c.loop-index.invariant groups fresh finds).0 in
    judged_breach c.args.bytes.now c.args.places.now groups _ c.in_ok-breach.breach finds rise (sym c.if-is_some.ensures) one.0

pub loop-index-preserved : goal.loop-index-preserved
loop-index-preserved c = λ groups fresh finds.
    let one = judged_one c.args.bytes.now c.args.places.now groups c.loop-index.index c.in-Some.field-0-0 c.in-Some.at c.loop-index.auditor c.moment.new.self c.read_group.new.moment c.in_ok-breach.breach finds
    (sym c.in-Some.ensures.entry) c.in-Some.ensures.found c.in_ok-read_group.ensures c.in_ok-breach.ensures.judges (c.loop-index.invariant groups fresh finds).0 in
    (one.1, one.2 ∙ none_yet c.in_ok-breach.breach (sym c.if-is_some.ensures))

pub returns : goal.returns
returns c = λ groups fresh finds rise.
    judged_safe c.args.bytes.now c.args.places.now groups c.loop-index.index c.loop-index.auditor finds rise (omega (arith, c.loop-index-test.false, c.count-index-end.ensures)) (c.loop-index.invariant groups fresh finds).1
    (c.loop-index.invariant groups fresh finds).0
