use Rattle.fabric_terms.specs.declared.record.Record.{Record}
use Rattle.std.proofs.Common.{◌≡◌, ◌+◌, List, length}
use Rattle.fabric_turns.specs.Moves.{Leads}
use Rattle.turn_rules.specs.Order.{arrive}
use Rattle.fabric_turns.specs.Runs.{IsReady}
use Rattle.fabric_turns.specs.Windows.{IsFirstOf}
use Rattle.turn_rules.specs.Whole.{setting}
use Rattle.fabric_turns.proofs.turns.take_turns.Given as goal

abbrev pub invariant-loop-number : goal.invariant-loop-number
invariant-loop-number g l = record {
  done : (kept : List (List Record)) → Leads (setting l.plan kept) (g.O.Outside.told l.fn.outside) l.fn.run (arrive l.plan 1 0) (g.O.Outside.told l.outside) l.run (arrive l.plan (l.number + 1) 0);
  ready : IsReady l.plan l.run (g.O.Outside.told l.outside);
  first : IsFirstOf l.plan.orders (l.number + 1) l.first;
  same : length l.run.members ≡ length l.fn.run.members;
}
