use Rattle.std.proofs.Common.{◌≡◌, ◌+◌, ◌≤◌, ◌++◌, drop, length, vec_capacity, vec_len}
use Rattle.fabric_terms.specs.Sent.{from_all}
use Rattle.fabric_terms.proofs.outbox.Outbox.hand_over.Given as goal

-- what was moved, and what is still to be moved
abbrev pub invariant-loop-i : goal.invariant-loop-i
invariant-loop-i l =
    (length l.sent ≡ length l.initial.sent)
    × (l.frames.items ++ from_all l.from (drop l.i l.sent) ≡ l.initial.frames.items ++ from_all l.from l.initial.sent)
    × (vec_len l.frames + length l.sent ≤ vec_capacity l.frames + l.i)
    × (vec_capacity l.frames ≡ vec_capacity l.initial.frames)
