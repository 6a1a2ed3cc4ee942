use Rattle.std.proofs.Common.{◌≡◌, ◌++◌, drop}
use Rattle.parent_hold.specs.Lines.{after_step, step_owed, step_text}
use Rattle.parent_hold.proofs.step_lines.tell_step.Given as goal

-- what was told so far, and what the reports that follow add
abbrev pub invariant-loop-report : goal.invariant-loop-report
invariant-loop-report g l = record {
  text : l.text.items ++ step_text l.step.before.now l.step.told.now l.step.head.now l.telling (drop l.report-index l.step.told.now) ≡
      l.fn.text.items ++ step_text l.step.before.now l.step.told.now l.step.head.now l.fn.telling l.step.told.now;
  owed : l.links.holding ++ step_owed l.step.before.now l.step.told.now l.step.reading l.telling (drop l.report-index l.step.told.now) ≡
      l.fn.links.holding ++ step_owed l.step.before.now l.step.told.now l.step.reading l.fn.telling l.step.told.now;
  telling : after_step l.step.before.now l.step.told.now l.telling (drop l.report-index l.step.told.now) ≡
      after_step l.step.before.now l.step.told.now l.fn.telling l.step.told.now;
  below : l.links.inner.now ≡ l.fn.links.inner.now;
  held : l.links.held ≡ l.fn.links.held;
}
