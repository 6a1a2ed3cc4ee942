use Rattle.std.proofs.Common.{◌≡◌, map, vec_items, take}
use Rattle.edge_io.proofs.mem_keeper.copy_of.Given as goal

-- the records so far are copied
abbrev pub invariant-loop-one : goal.invariant-loop-one
invariant-loop-one l = map vec_items l.copy.items ≡ map vec_items (take l.one-index l.records)
