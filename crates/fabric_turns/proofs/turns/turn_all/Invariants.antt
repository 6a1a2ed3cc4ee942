use Rattle.fabric_terms.specs.declared.record.Record.{Record}
use Rattle.std.proofs.Common.{◌≡◌, List, length}
use Rattle.fabric_turns.specs.Moves.{Leads}
use Rattle.turn_rules.specs.Order.{arrive, coming}
use Rattle.fabric_turns.specs.Runs.{IsReady}
use Rattle.turn_rules.specs.Whole.{setting}
use Rattle.fabric_turns.proofs.turns.turn_all.Given as goal

abbrev pub invariant-loop-place : goal.invariant-loop-place
invariant-loop-place g l = record {
  done : (kept : List (List Record)) → Leads (setting l.plan kept) (g.O.Outside.told l.fn.outside) l.fn.run (arrive l.plan l.turn.number 0) (g.O.Outside.told l.outside) l.run (coming l.plan l.turn.number l.place);
  ready : IsReady l.plan l.run (g.O.Outside.told l.outside);
  same : length l.run.members ≡ length l.fn.run.members;
}
