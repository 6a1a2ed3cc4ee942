use Rattle.std.proofs.Common.{◌≡◌, ◌≤◌, ◌↔◌, take}
use Rattle.frame_seal.proofs.same.is_same.Given as goal

abbrev pub invariant-loop-i : goal.invariant-loop-i
invariant-loop-i l = ((l.differing ≡ 0) ↔ (take l.i l.a ≡ take l.i l.b)) × (l.differing ≤ l.i)
