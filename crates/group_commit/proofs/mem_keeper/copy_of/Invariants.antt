use Rattle.std.proofs.Common.{◌≡◌, map, vec_items, take}
use Rattle.group_commit.specs.Memory.{of_actor, told_entry}
use Rattle.group_commit.proofs.mem_keeper.copy_of.Given as goal

-- the actor's records so far are copied
abbrev pub invariant-loop-entry : goal.invariant-loop-entry
invariant-loop-entry l = map vec_items l.copy.items ≡ of_actor l.actor (map told_entry (take l.entry-index l.entries))
