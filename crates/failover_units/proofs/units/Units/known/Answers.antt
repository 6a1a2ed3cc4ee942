use Rattle.std.proofs.Common.{is_some, ap, ◌∙◌}
use Rattle.failover_units.specs.Units.{known_partitions}
use Rattle.fabric_lemmas.proofs.SortedNumbers.{sorted_numbers}
use Rattle.failover_units.proofs.units.Units.known.Goals as goal

pub returns : goal.returns
returns c =
    let moved = rw c.in_ok-known.ensures.known at c.sort_unstable.ensures.permutation in
    sorted_numbers (λ e. is_some e.1.config) c.self.inside.table.entries c.sort_unstable.new.self.items
    c.known_in.ensures.unique moved c.sort_unstable.ensures.sorted
    ∙ ap known_partitions c.self.view_is
