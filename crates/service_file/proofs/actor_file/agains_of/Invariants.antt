use Rattle.std.proofs.Common.{◌≡◌, ◌+◌, ◌-◌, ◌≤◌, length}
use Rattle.service_file.specs.ActorFiles.{agains_in}
use Rattle.service_file.proofs.AgainLines.{after}
use Rattle.service_file.proofs.actor_file.agains_of.Given as goal

abbrev pub invariant-loop-rest : goal.invariant-loop-rest
invariant-loop-rest l = record {
  so_far : after l.entries.items (agains_in (length l.bytes - length l.entries.items) l.rest) ≡ agains_in (length l.bytes) l.bytes;
  room : length l.rest + length l.entries.items ≤ length l.bytes;
}

abbrev pub decreases-loop-rest : goal.decreases-loop-rest
decreases-loop-rest l = length l.rest
