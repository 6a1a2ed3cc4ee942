use Rattle.std.proofs.Common.{rules, ◌≡◌, ◌∙◌, ap, sym, subst, Result, Ok, Err}
use Rattle.replica_core.specs.Calls.{Outcome, activate_call}
use Rattle.replica_core.specs.declared.role.Role.{Role}
use Rattle.replica_core.specs.declared.refusal.ReplicaRefusal.{ReplicaRefusal}
use Rattle.unit_rules.specs.ReplicaStates.{ReplicaState, replica_put}
use Rattle.unit_rules.specs.Activations.{activate_received}
use Rattle.unit_desk.specs.UnitEffects.{Does}
use Rattle.unit_replica.proofs.Activated.{does_again, does_refused}
use Rattle.unit_replica.proofs.activate.activate_received.Goals as goal

pub returns-then-eq-clause-does : goal.returns-then-eq-clause-does
returns-then-eq-clause-does c =
    let before : ReplicaState = record { replica = c.state.inside.replica; catch_up = c.state.inside.catch_up; progress = c.state.inside.progress } in
    let called : ◌≡◌ {A = Outcome Role} (Ok c.in-Ok.role, c.activate.new.self) (activate_call c.args.me c.args.config.now c.state.inside.replica) =
    ap (λ (r : Result Role ReplicaRefusal). (r, c.activate.new.self)) (sym c.in-Ok.is) ∙ c.activate.ensures in
    let again : c.in-Ok.role ≡ c.state.inside.replica.role = search rules in
    subst (λ (s : ReplicaState). Does (activate_received c.args.me c.args.asker c.args.config.now s) (replica_put before c.activate.new.self) c.args.effects.now c.say_activated.new.effects) c.state.view_is
    (does_again c.args.me c.args.asker c.args.config.now before c.activate.new.self c.in-Ok.role _ _ c.last_of-last.ensures.sound called again c.say_activated.ensures.left)

pub returns-in-Err-clause-does : goal.returns-in-Err-clause-does
returns-in-Err-clause-does c =
    let before : ReplicaState = record { replica = c.state.inside.replica; catch_up = c.state.inside.catch_up; progress = c.state.inside.progress } in
    let called : ◌≡◌ {A = Outcome Role} (Err c.in-Err.refusal, c.activate.new.self) (activate_call c.args.me c.args.config.now c.state.inside.replica) =
    ap (λ (r : Result Role ReplicaRefusal). (r, c.activate.new.self)) (sym c.in-Err.is) ∙ c.activate.ensures in
    subst (λ (s : ReplicaState). Does (activate_received c.args.me c.args.asker c.args.config.now s) (replica_put before c.activate.new.self) c.args.effects.now c.say_older.new.effects) c.state.view_is
    (does_refused c.args.me c.args.asker c.args.config.now before c.activate.new.self c.in-Err.refusal _ _ called c.say_older.ensures.left)
