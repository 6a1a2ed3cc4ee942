use Rattle.std.proofs.Common.{◌≡◌, take}
use Rattle.std.specs.Prelude.{map, vec_capacity}
use Rattle.unit_manager.specs.Managers.{reconfigs_of}
use Rattle.state_lines.specs.Changes.{seen_now}
use Rattle.state_lines.proofs.change_times.put_seen.Given as goal

-- what is seen so far, in the room that was there
abbrev pub invariant-loop-partition : goal.invariant-loop-partition
invariant-loop-partition l =
    (l.seen.items ≡ map (seen_now l.now l.before) (reconfigs_of (take l.partition-index l.reconfigs)))
    × (vec_capacity l.seen ≡ vec_capacity l.fn.seen)
