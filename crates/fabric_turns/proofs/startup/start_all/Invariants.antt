use Rattle.std.proofs.Common.{◌≡◌, List, length}
use Rattle.fabric_terms.specs.declared.record.Record.{Record}
use Rattle.fabric_turns.specs.Moves.{Leads}
use Rattle.fabric_turns.specs.Runs.{AreKept, IsReady}
use Rattle.fabric_turns.proofs.startup.start_all.Given as goal
use Rattle.turn_rules.specs.Order.{arrive, coming}
use Rattle.turn_rules.specs.Whole.{setting}

abbrev pub invariant-loop-place : goal.invariant-loop-place
invariant-loop-place g l = record {
  done : (list : List (List Record)) → AreKept l.plan 0 list l.fn.kept.items → Leads (setting l.plan list) (g.O.Outside.told l.fn.outside) l.fn.run (arrive l.plan 0 0) (g.O.Outside.told l.outside) l.run (coming l.plan 0 l.place);
  kept : (list : List (List Record)) → AreKept l.plan 0 list l.fn.kept.items → AreKept l.plan l.place list l.kept.items;
  ready : IsReady l.plan l.run (g.O.Outside.told l.outside);
  next : length l.run.members ≡ l.place;
}
