use Rattle.std.proofs.Common.{rules, ◌≡◌, ◌+◌, ◌&&◌, ◌∙◌, Bool, true, false, Result, Ok, ap, sym, subst}
use Rattle.std.specs.Prelude.{is_some, not}
use Rattle.ring_points.specs.Epochs.{is_older}
use Rattle.replica_core.specs.declared.refusal.Done.{Done}
use Rattle.replica_core.specs.declared.refusal.ReplicaRefusal.{ReplicaRefusal}
use Rattle.replica_core.specs.Calls.{Answers, Outcome, append_call}
use Rattle.unit_rules.specs.Progress.{is_primary}
use Rattle.unit_rules.specs.ReplicaStates.{ReplicaState}
use Rattle.unit_rules.specs.Writes.{write_commanded}
use Rattle.unit_desk.specs.UnitEffects.{Does}
use Rattle.unit_replica.proofs.Appends.{does_commanded}
use Rattle.unit_replica.proofs.write.write_commanded.Goals as goal

pub returns-in-Ok-clause-does : goal.returns-in-Ok-clause-does
returns-in-Ok-clause-does c =
    let before : ReplicaState = record { replica = c.state.inside.replica; catch_up = c.state.inside.catch_up; progress = c.state.inside.progress } in
    let yes : c.takes_writes.result ≡ true = search rules in
    let takes : (is_primary before.replica.role && not (is_older before.replica.at before.replica.promised)) ≡ true = sym c.takes_writes.ensures ∙ yes in
    let no : c.is_none.result ≡ false = search rules in
    let some : is_some before.progress ≡ true = c.is_none.ensures ∙ ap (λ (b : Bool). not b) no in
    let called : ◌≡◌ {A = Outcome Done} (append_call c.at-epoch.result (c.last_of-lsn.result + 1) c.as_slice.result.now before.replica) (Ok c.in-Ok.field-0, c.append.new.self) =
    subst (λ (r : Result Done ReplicaRefusal). Answers (append_call c.at-epoch.result (c.last_of-lsn.result + 1) c.as_slice.result.now before.replica) before.replica c.append.new.self r)
    c.in-Ok.is c.append.ensures.answers in
    subst (λ (s : ReplicaState). Does (write_commanded c.args.text.now s) c.spread.new.state c.args.effects.now c.spread.new.effects) c.state.view_is
    (does_commanded c.args.text.now c.as_slice.result.now c.at-epoch.result c.last_of-lsn.result before c.append.new.self c.in-Ok.field-0 c.spread.new.state c.args.effects.now
    c.spread.new.effects takes some c.at-epoch.ensures c.last_of-lsn.ensures.last c.as_slice.ensures.bytes called c.spread.ensures.does)
