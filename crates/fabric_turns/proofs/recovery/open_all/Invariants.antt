use Rattle.turn_rules.specs.Whole.{OpenedOnly}
use Rattle.fabric_turns.proofs.recovery.open_all.Given as goal

abbrev pub invariant-loop-place : goal.invariant-loop-place
invariant-loop-place g l = OpenedOnly l.plan l.place (g.O.Outside.told l.fn.outside) (g.O.Outside.told l.outside)
