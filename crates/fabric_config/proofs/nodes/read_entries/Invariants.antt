use Rattle.std.proofs.Common.{◌≡◌, drop, map}
use Rattle.serde_json.specs.View.{view}
use Rattle.fabric_config.specs.Nodes.{entries_of}
use Rattle.fabric_config.proofs.Lists.{after}
use Rattle.fabric_config.proofs.nodes.read_entries.Given as goal

abbrev pub invariant-loop-value : goal.invariant-loop-value
invariant-loop-value l =
    after l.entries.items (entries_of l.lease (map view (drop l.value-index l.values)))
    ≡ entries_of l.lease (map view l.values)
