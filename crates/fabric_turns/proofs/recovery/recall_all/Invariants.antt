use Rattle.fabric_turns.proofs.Recalling.{SoFar}
use Rattle.fabric_turns.proofs.recovery.recall_all.Given as goal

-- the lists so far are read
abbrev pub invariant-loop-place : goal.invariant-loop-place
invariant-loop-place g l = SoFar l.plan (g.O.Outside.told l.fn.outside) l.place l.all.items (g.O.Outside.told l.outside)
