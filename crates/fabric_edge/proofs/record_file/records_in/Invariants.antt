use Rattle.std.proofs.Common.{◌≡◌, ◌++◌, length, map, vec_items}
use Rattle.std.specs.List.{flat_map}
use Rattle.fabric_edge.specs.RecordFile.{framed}
use Rattle.fabric_edge.proofs.record_file.records_in.Given as goal

-- the records so far, and what is left
abbrev pub invariant-loop-first : goal.invariant-loop-first
invariant-loop-first l = l.bytes ≡ flat_map framed (map vec_items l.records.items) ++ l.rest

abbrev pub decreases-loop-first : goal.decreases-loop-first
decreases-loop-first l = length l.rest
