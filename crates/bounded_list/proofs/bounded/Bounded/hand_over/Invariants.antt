use Rattle.std.proofs.Common.{◌≡◌, ◌+◌, ◌≤◌, ◌++◌, drop, length, vec_capacity, vec_len}
use Rattle.bounded_list.proofs.bounded.Bounded.hand_over.Given as goal

-- what was moved, and what is still to be moved
abbrev pub invariant-loop-i : goal.invariant-loop-i
invariant-loop-i g l =
    (length l.items ≡ length l.initial.items)
    × (l.to.items ++ drop l.i l.items ≡ l.initial.to.items ++ l.initial.items)
    × (vec_len l.to + length l.items ≤ vec_capacity l.to + l.i)
    × (vec_capacity l.to ≡ vec_capacity l.initial.to)
