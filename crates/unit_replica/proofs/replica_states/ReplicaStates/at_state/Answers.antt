use Rattle.std.proofs.Common.{◌≡◌, ◌∙◌, true, false, sym}
use Rattle.std.specs.Prelude.{is_some}
use Rattle.fabric_lemmas.specs.Maps.{at}
use Rattle.unit_rules.specs.Deeds.{still}
use Rattle.unit_replica.specs.Tables.{row_of}
use Rattle.unit_replica.proofs.Places.{does_standing, if_ok, none_of, on_err, stands_if}
use Rattle.unit_replica.proofs.Stored.{grows-standing}
use Rattle.unit_replica.proofs.replica_states.ReplicaStates.at_state.Goals as goal
use Rattle.unit_replica.proofs.replica_states.ReplicaStates.at_state.Goals.{Then-contains_key}

pub at_first-requires-clause-none : goal.at_first-requires-clause-none
at_first-requires-clause-none c =
    none_of (at c.args.partition c.args.self.now)
    (stands_if c.args.partition c.self.inside.map.entries c.args.self.now false c.self.view_is (sym c.contains_key.ensures ∙ c.if-contains_key.false))

stands : (c : Then-contains_key) → is_some (at c.args.partition c.args.self.now) ≡ true
stands c = stands_if c.args.partition c.self.inside.map.entries c.args.self.now true c.self.view_is (sym c.contains_key.ensures ∙ c.if-contains_key.true)

pub returns-then-contains_key-clause-does : goal.returns-then-contains_key-clause-does
returns-then-contains_key-clause-does c =
    let row = row_of c.args.me c.args.from c.args.body.now in
    let some : is_some (at c.args.partition c.args.self.now) ≡ true = stands (goal.at.returns-then-contains_key-clause-does c).Then-contains_key in
    if_ok c.at_standing.result
    (λ d. does_standing c.args.partition row (still c.args.self.now) c.args.self.now c.at_standing.new.self c.args.effects.now c.at_standing.new.effects some d)
    c.at_standing.ensures.does

pub returns-then-contains_key-clause-memory : goal.returns-then-contains_key-clause-memory
returns-then-contains_key-clause-memory c =
    let row = row_of c.args.me c.args.from c.args.body.now in
    let some : is_some (at c.args.partition c.args.self.now) ≡ true = stands (goal.at.returns-then-contains_key-clause-memory c).Then-contains_key in
    on_err c.at_standing.result (λ h. grows-standing c.args.partition row (still c.args.self.now) c.args.self.now some h) c.at_standing.ensures.memory
