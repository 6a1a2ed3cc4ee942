use Rattle.std.proofs.Common.{◌≡◌, Some, None, refl, ap}
use Rattle.run_audit.specs.Auditing.{entry_of}
use Rattle.run_audit.proofs.Heard.{heard_none, heard_some}
use Rattle.run_audit.proofs.auditor.Auditor.hear.Goals as goal

pub returns-in-None-clause-heard : goal.returns-in-None-clause-heard
returns-in-None-clause-heard c = λ run safe up. heard_none c.args.self.now _ _ _ _ run (ap entry_of c.in-None.is) safe up

pub returns-in-Some-clause-heard : goal.returns-in-Some-clause-heard
returns-in-Some-clause-heard c = λ run safe up.
    let is : entry_of c.args.moment.now.entry ≡ Some (record { who = c.in-Some.entry.0; reading = None; sent = (0, 0); reports = c.as_slice-reports.result.now }) = rw (c.in-Some.is, c.as_slice-reports.ensures.value) refl in
    heard_some c.args.self.now _ _ _ _ _ _ run _ _ is safe up c.hear.ensures c.hear-in-Some.ensures c.hear-rivals.ensures c.hear-lapse.ensures
