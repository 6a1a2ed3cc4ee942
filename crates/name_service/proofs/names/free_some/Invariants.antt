use Rattle.std.specs.Prelude.{◌≤◌, ◌+◌}
use Rattle.std.specs.BTreeMap.{btree_map_len}
use Rattle.name_service.proofs.names.free_some.Given as goal

-- each name that was freed is counted
abbrev pub invariant-loop : goal.invariant-loop
invariant-loop l = btree_map_len l.initial.released ≤ btree_map_len l.released + l.counter
