use Rattle.std.proofs.Common.{rules, ◌≡◌, ◌&&◌, ◌∙◌, true, sym, subst}
use Rattle.std.specs.Prelude.{not}
use Rattle.ring_points.specs.Epochs.{is_older, same_epoch}
use Rattle.unit_rules.specs.Progress.{is_primary}
use Rattle.unit_rules.specs.ReplicaStates.{ReplicaState}
use Rattle.unit_rules.specs.Writes.{appended_received}
use Rattle.unit_desk.specs.UnitEffects.{Does}
use Rattle.unit_replica.proofs.Appends.{does_appended}
use Rattle.unit_replica.proofs.write.appended_received.Goals as goal

pub returns-clause-does : goal.returns-clause-does
returns-clause-does c =
    let before : ReplicaState = record { replica = c.state.inside.replica; catch_up = c.state.inside.catch_up; progress = c.state.inside.progress } in
    let yes : c.takes_writes.result ≡ true = search rules in
    let takes : (is_primary before.replica.role && not (is_older before.replica.at before.replica.promised)) ≡ true = sym c.takes_writes.ensures ∙ yes in
    let same : same_epoch c.state.inside.replica.at c.args.epoch ≡ true = search rules in
    subst (λ (s : ReplicaState). Does (appended_received c.args.node c.args.epoch c.args.last s) c.commit.new.state c.args.effects.now c.commit.new.effects) c.state.view_is
    (does_appended c.args.node c.args.epoch c.args.last c.last_of-own.result before c.in-Some.progress c.confirm.new.self c.commit.new.state c.args.effects.now c.commit.new.effects
    takes c.in-Some.is same c.last_of-own.ensures.last c.confirm.ensures c.commit.ensures.does)
