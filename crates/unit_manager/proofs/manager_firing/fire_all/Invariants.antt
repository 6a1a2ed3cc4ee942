use Rattle.std.proofs.Common.{◌≡◌, ◌≤◌, ◌+◌, ◌*◌, ◌++◌, [], length, vec_capacity}
use Rattle.ring_points.specs.Limits.{most_arbiters}
use Rattle.unit_manager.proofs.Firing.{fired_to}
use Rattle.unit_manager.proofs.manager_firing.fire_all.Given as goal

-- what the first so many sent stands behind what was there
abbrev pub invariant-loop-entry : goal.invariant-loop-entry
invariant-loop-entry l = record {
  so_far : l.frames.items ≡ l.initial.frames.items ++ fired_to l.me l.reconfigs l.entry-index;
  few : length l.frames.items ≤ length l.initial.frames.items + most_arbiters * l.entry-index;
  room : vec_capacity l.frames ≡ vec_capacity l.initial.frames;
  clear : l.out ≡ [];
}
