use Rattle.std.proofs.Common.{refl, sym, ap, ◌∙◌, subst}
use Rattle.std.specs.Prelude.{All}
use Rattle.run_audit.specs.Overlaps.{Rises}
use Rattle.run_audit.proofs.Standing.{stands-still, rows_rise, none_yet, judged, stands-on}
use Rattle.run_audit.proofs.auditor.Auditor.moment.Goals as goal

pub returns-then-is_some-clause-judges : goal.returns-then-is_some-clause-judges
returns-then-is_some-clause-judges c = λ run stands.
    let both = stands-still c.args.self.now _ run (sym c.if-is_some.ensures) stands in
    (both.0, both.1, refl)

pub breach_at-breach-requires : goal.breach_at-breach-requires
breach_at-breach-requires c =
    subst (λ l. All Rises l) (sym c.as_slice-3.ensures.value)
    (rows_rise c.hear-findings.new.self.owners c.as_slice.result.now c.as_slice.result.now c.as_slice-2.result.now c.actor_of.result c.holders_of-rows.result.items c.holders_of-rows.ensures.rows)

pub returns-clause-judges : goal.returns-clause-judges
returns-clause-judges c = λ run stands.
    let yet = none_yet c.args.self.now.breach (sym c.if-is_some.ensures) in (
      judged c.args.self.now c.reserve.new.self c.hear-findings.new.self (record c.hear-findings.new.self { live = c.keep.new.live; breach = c.breach_at-breach.result }) c.args.moment.now c.hear-findings.result c.as_slice.result.now c.as_slice-2.result.now c.actor_of.result
          c.holders_of-rows.result.items c.as_slice-3.result.now c.as_slice-4.result.now c.breach_at-breach.result yet c.in_ok-reserve.ensures.same c.hear-findings.ensures.heard
          c.as_slice.ensures.value (c.as_slice-2.ensures.value ∙ ap (λ v. v.items) c.hear-findings.ensures.live) c.actor_of.ensures c.holders_of-rows.ensures.rows
          c.as_slice-3.ensures.value c.as_slice-4.ensures.value c.breach_at-breach.ensures refl refl refl refl c.keep.ensures refl run stands,
      stands-on c.args.self.now c.reserve.new.self c.hear-findings.new.self (record c.hear-findings.new.self { live = c.keep.new.live; breach = c.breach_at-breach.result }) c.args.moment.now c.hear-findings.result c.as_slice.result.now c.as_slice-2.result.now c.actor_of.result
          c.holders_of-rows.result.items c.as_slice-3.result.now c.as_slice-4.result.now c.breach_at-breach.result yet c.in_ok-reserve.ensures.same c.hear-findings.ensures.heard
          c.as_slice.ensures.value (c.as_slice-2.ensures.value ∙ ap (λ v. v.items) c.hear-findings.ensures.live) c.actor_of.ensures c.holders_of-rows.ensures.rows
          c.as_slice-3.ensures.value c.as_slice-4.ensures.value c.breach_at-breach.ensures refl refl refl refl c.keep.ensures refl run stands,
      refl,
    )
