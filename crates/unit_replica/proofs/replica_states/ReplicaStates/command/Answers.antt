use Rattle.std.proofs.Common.{◌∙◌, Some, ap, sym, subst, ◌∷◌, []}
use Rattle.std.specs.Option.{option_copied_mut}
use Rattle.fabric_terms.specs.declared.report.Reason.TheVariants as reason
use Rattle.fabric_terms.specs.declared.report.Report.TheVariants.{Refused}
use Rattle.fabric_terms.specs.declared.report.Verb.{Verb}
use Rattle.unit_rules.specs.Deeds.{Tell, refuse}
use Rattle.unit_desk.specs.UnitEffects.{Left}
use Rattle.unit_replica.specs.PrimaryCommands.{commanded, verb_of}
use Rattle.unit_replica.proofs.Places.{Written, does_nowhere, does_there, fits, if_ok, on_err, stays_there}
use Rattle.unit_replica.proofs.Stored.{wants_there}
use Rattle.unit_replica.proofs.replica_states.ReplicaStates.command.Goals as goal
use Rattle.unit_replica.proofs.replica_states.ReplicaStates.command.Goals.{After-commanded}

written : (c : After-commanded) → Written c.args.partition c.self.inside.map.entries c.args.self.now (c.get_mut.follows.lender c.commanded.new.state).entries c.free_released.new.self c.commanded.new.state
written c = record {
  view = c.self.view_is;
  table = c.self.invariant;
  found = sym c.get_mut.ensures.value ∙ (ap option_copied_mut c.in-Some.is ∙ ap (λ s. Some s) (sym c.free_released.ensures));
  set = (c.get_mut.follows.holds c.commanded.new.state).0;
}

pub invariant_of-self-2 : goal.invariant_of-self-2
invariant_of-self-2 c = fits (written (goal.at.invariant_of-self-2 c).After-commanded)

pub returns-clause-does : goal.returns-clause-does
returns-clause-does c =
    let it = written (goal.at.returns-clause-does c).After-commanded in
    if_ok c.commanded.result (does_there it (commanded c.args.command) (refuse (verb_of c.args.command) reason.NotPrimary c.args.self.now) c.args.effects.now c.commanded.new.effects) c.commanded.ensures.does

pub returns-clause-refused : goal.returns-clause-refused
returns-clause-refused c =
    let it = written (goal.at.returns-clause-refused c).After-commanded in
    on_err c.commanded.result (λ d. (stays_there it d.0, d.1)) c.commanded.ensures.refused

pub returns-clause-memory : goal.returns-clause-memory
returns-clause-memory c =
    let it = written (goal.at.returns-clause-memory c).After-commanded in
    on_err c.commanded.result (wants_there it c.args.command) c.commanded.ensures.memory

pub returns-in_default-clause-does : goal.returns-in_default-clause-does
returns-in_default-clause-does c =
    does_nowhere c.args.partition (commanded c.args.command) (Tell (Refused (verb_of c.args.command) reason.NotPrimary) ∷ []) c.self.inside.map.entries c.args.self.now c.get_mut.follows.lender-at-none.entries
    c.args.effects.now c.refuse.new.effects c.self.view_is (sym c.get_mut.ensures.value ∙ ap option_copied_mut c.in_default.is)
    (ap (λ m. m.entries) c.get_mut.follows.holds-at-none)
    (subst (λ (v : Verb). Left (Tell (Refused v reason.NotPrimary) ∷ []) c.args.effects.now c.refuse.new.effects) c.verb_of.ensures c.refuse.ensures.left)
