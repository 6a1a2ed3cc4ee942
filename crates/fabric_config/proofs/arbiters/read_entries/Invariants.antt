use Rattle.std.proofs.Common.{◌≡◌, ◌+◌, drop, map}
use Rattle.serde_json.specs.View.{view}
use Rattle.fabric_config.specs.Arbiters.{entries_of}
use Rattle.fabric_config.proofs.Lists.{after}
use Rattle.fabric_config.proofs.arbiters.read_entries.Given as goal

abbrev pub invariant-loop-i : goal.invariant-loop-i
invariant-loop-i l =
    after l.entries.items (entries_of (l.i + 1) (map view (drop l.i l.values)))
    ≡ entries_of 1 (map view l.values)
