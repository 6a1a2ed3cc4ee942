-- The laws of the ring and of partitions, together.
use Rattle.unit_rules.specs.Stays.{units_stay}
use Rattle.unit_rules.specs.Units.{units}
use Rattle.ring_safety.proofs.Safe.{ring_is_safe_lem, leaves_before_take_over_lem}
use Rattle.epoch_safety.proofs.Primaries.{one_primary_lem, no_older_lem}
use Rattle.trace_audit.specs.SafeRuns.{RunsAreSafe}

pub runs_are_safe_lem : RunsAreSafe
runs_are_safe_lem is_frame c h sound valid = record {
  ring = ring_is_safe_lem units units_stay is_frame c h sound valid;
  take_overs = leaves_before_take_over_lem units units_stay is_frame c h sound valid;
  primaries = one_primary_lem is_frame c h sound valid;
  epochs = no_older_lem is_frame c h sound valid;
}
