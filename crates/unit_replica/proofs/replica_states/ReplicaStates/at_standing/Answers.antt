use Rattle.std.proofs.Common.{◌∙◌, Some, [], ap, sym}
use Rattle.std.specs.Option.{option_copied_mut}
use Rattle.unit_rules.specs.Deeds.{still}
use Rattle.unit_replica.specs.Tables.{row_of}
use Rattle.unit_replica.proofs.Places.{Written, does_nowhere, does_there, fits, if_ok, left_nothing, on_err, stays_there}
use Rattle.unit_replica.proofs.Stored.{grows_there}
use Rattle.unit_replica.proofs.replica_states.ReplicaStates.at_standing.Goals as goal
use Rattle.unit_replica.proofs.replica_states.ReplicaStates.at_standing.Goals.{After-row_of}

written : (c : After-row_of) → Written c.args.partition c.self.inside.map.entries c.args.self.now (c.get_mut.follows.lender c.row_of.new.state).entries c.free_released.new.self c.row_of.new.state
written c = record {
  view = c.self.view_is;
  table = c.self.invariant;
  found = sym c.get_mut.ensures.value ∙ (ap option_copied_mut c.in-Some.is ∙ ap (λ s. Some s) (sym c.free_released.ensures));
  set = (c.get_mut.follows.holds c.row_of.new.state).0;
}

pub invariant_of-self-2 : goal.invariant_of-self-2
invariant_of-self-2 c = fits (written (goal.at.invariant_of-self-2 c).After-row_of)

pub returns-clause-does : goal.returns-clause-does
returns-clause-does c =
    let it = written (goal.at.returns-clause-does c).After-row_of in
    if_ok c.row_of.result (does_there it (row_of c.args.me c.args.from c.args.body.now) (still c.args.self.now) c.args.effects.now c.row_of.new.effects) c.row_of.ensures.does

pub returns-clause-refused : goal.returns-clause-refused
returns-clause-refused c =
    let it = written (goal.at.returns-clause-refused c).After-row_of in
    on_err c.row_of.result (λ d. (stays_there it d.0, d.1)) c.row_of.ensures.refused

pub returns-clause-memory : goal.returns-clause-memory
returns-clause-memory c =
    let it = written (goal.at.returns-clause-memory c).After-row_of in
    on_err c.row_of.result (grows_there it (row_of c.args.me c.args.from c.args.body.now) (still c.args.self.now)) c.row_of.ensures.memory

pub returns-in_default-clause-does : goal.returns-in_default-clause-does
returns-in_default-clause-does c =
    does_nowhere c.args.partition (row_of c.args.me c.args.from c.args.body.now) [] c.self.inside.map.entries c.args.self.now c.get_mut.follows.lender-at-none.entries
    c.args.effects.now c.args.effects.now c.self.view_is (sym c.get_mut.ensures.value ∙ ap option_copied_mut c.in_default.is)
    (ap (λ m. m.entries) c.get_mut.follows.holds-at-none) (left_nothing c.args.effects.now)
