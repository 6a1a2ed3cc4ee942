use Rattle.std.proofs.Common.{◌≡◌, ◌≤◌, ◌+◌, length, drop}
use Rattle.ring_world.specs.Commits.{posted_all}
use Rattle.ring_world.proofs.commit.post_all.Given as goal

-- with the rest all are posted, and there is room for the rest
abbrev pub invariant-loop-m : goal.invariant-loop-m
invariant-loop-m l =
    (posted_all (drop l.m-index l.messages) l.bag.frames ≡ posted_all l.messages l.initial.bag.frames)
    × (length l.messages ≤ l.m-index + l.bag.room)
