use Rattle.std.proofs.Common.{◌≡◌, Some, subst, sym}
use Rattle.unit_rules.specs.ReplicaStates.{ReplicationProgress, ReplicaState}
use Rattle.unit_rules.specs.Writes.{committed}
use Rattle.unit_desk.specs.UnitEffects.{Does}
use Rattle.unit_replica.specs.Rows.{spread}
use Rattle.unit_replica.proofs.Appends.{does_spread}
use Rattle.unit_replica.proofs.write.spread.Goals as goal

pub returns-clause-does : goal.returns-clause-does
returns-clause-does c =
    let before : ReplicaState = record { replica = c.state.inside.replica; catch_up = c.state.inside.catch_up; progress = c.state.inside.progress } in
    let more : (m : ReplicationProgress) → before.progress ≡ Some m → Does (committed m before) c.commit.new.state c.tell_written.new.effects c.commit.new.effects =
    subst (λ (s : ReplicaState). (m : ReplicationProgress) → s.progress ≡ Some m → Does (committed m s) c.commit.new.state c.tell_written.new.effects c.commit.new.effects)
    (sym c.state.view_is) c.commit.ensures.does in
    subst (λ (s : ReplicaState). Does (spread c.args.text.now s.progress s) c.commit.new.state c.args.effects.now c.commit.new.effects) c.state.view_is
    (does_spread c.args.text.now before c.in-Some.progress c.commit.new.state c.args.effects.now c.tell_written.new.effects c.commit.new.effects
    c.in-Some.is c.tell_written.ensures.left more)
