use Rattle.trace_audit.proofs.Reading.{recordings_are_read}
use Rattle.trace_audit.proofs.Verdicts.{safe_recordings_are_safe}
use Rattle.trace_audit.proofs.laws.recorded_runs_are_read_back.Goals as goal

pub returns-clause-read : goal.returns-clause-read
returns-clause-read c = recordings_are_read

pub returns-clause-safe : goal.returns-clause-safe
returns-clause-safe c = safe_recordings_are_safe
