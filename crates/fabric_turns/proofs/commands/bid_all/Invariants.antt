use Rattle.fabric_terms.specs.declared.record.Record.{Record}
use Rattle.std.proofs.Common.{◌≡◌, List, length, drop}
use Rattle.fabric_turns.specs.Moves.{Leads, at_place}
use Rattle.turn_rules.specs.Order.{Busy}
use Rattle.turn_rules.specs.Plans.{orders_at, commands_in}
use Rattle.fabric_turns.specs.Runs.{IsReady}
use Rattle.turn_rules.specs.Whole.{setting}
use Rattle.fabric_turns.proofs.commands.bid_all.Given as goal

abbrev pub invariant-loop-index : goal.invariant-loop-index
invariant-loop-index g l = record {
  done : (kept : List (List Record)) → Leads (setting l.plan kept) (g.O.Outside.told l.fn.outside) l.fn.run (at_place l.at.turn.number l.at.place (Busy (orders_at l.plan l.at.turn.number l.at.place) 0)) (g.O.Outside.told l.outside) l.run (at_place l.at.turn.number l.at.place (Busy (commands_in l.at.turn.number l.at.place (drop l.index l.plan.orders)) 0));
  ready : IsReady l.plan l.run (g.O.Outside.told l.outside);
  same : length l.run.members ≡ length l.fn.run.members;
}
