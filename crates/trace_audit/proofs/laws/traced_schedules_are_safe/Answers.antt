use Rattle.trace_audit.proofs.Traced.{traced_schedules_are_safe}
use Rattle.trace_audit.proofs.laws.traced_schedules_are_safe.Goals as goal

pub returns : goal.returns
returns c = traced_schedules_are_safe
