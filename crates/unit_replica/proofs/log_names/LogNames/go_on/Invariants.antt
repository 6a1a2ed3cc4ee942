use Rattle.std.proofs.Common.{◌≡◌, ◌≤◌, take}
use Rattle.name_rules.specs.Names.{names_of}
use Rattle.unit_replica.proofs.log_names.LogNames.go_on.Given as goal

-- so many entries are applied
abbrev pub invariant-loop-i : goal.invariant-loop-i
invariant-loop-i l = record {
  so_far : l.self.count ≡ l.i;
  within : l.i ≤ l.end;
  same : l.self.names ≡ names_of (take l.i l.log);
}
