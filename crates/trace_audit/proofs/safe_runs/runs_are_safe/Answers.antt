use Rattle.trace_audit.proofs.SafeRuns.{runs_are_safe_lem}
use Rattle.trace_audit.proofs.safe_runs.runs_are_safe.Goals as goal

pub returns : goal.returns
returns c = runs_are_safe_lem
