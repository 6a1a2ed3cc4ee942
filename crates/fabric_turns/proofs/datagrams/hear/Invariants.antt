use Rattle.fabric_terms.specs.declared.record.Record.{Record}
use Rattle.std.proofs.Common.{◌≡◌, List, [], length}
use Rattle.fabric_turns.specs.Moves.{Leads, at_place}
use Rattle.turn_rules.specs.Order.{Busy, hearing}
use Rattle.fabric_turns.specs.Runs.{IsReady}
use Rattle.turn_rules.specs.Whole.{setting}
use Rattle.fabric_turns.proofs.datagrams.hear.Given as goal

abbrev pub invariant-loop-heard : goal.invariant-loop-heard
invariant-loop-heard g l = record {
  done : (kept : List (List Record)) → Leads (setting l.plan kept) (g.O.Outside.told l.fn.outside) l.fn.run (at_place l.at.turn.number l.at.place (Busy [] 0)) (g.O.Outside.told l.outside) l.run (hearing l.plan l.at.turn.number l.at.place l._heard);
  ready : IsReady l.plan l.run (g.O.Outside.told l.outside);
  same : length l.run.members ≡ length l.fn.run.members;
}
