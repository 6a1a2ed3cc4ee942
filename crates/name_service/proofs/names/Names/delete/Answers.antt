use Rattle.std.proofs.Common.{sym, ap, rules, ◌∙◌}
use Rattle.std.specs.FinMap as finite
use Rattle.name_service.proofs.Changed.{is_deleted, is_left}
use Rattle.name_service.proofs.names.Names.delete.Goals as goal

pub invariant_of-self : goal.invariant_of-self
invariant_of-self c =
    (is_deleted c.args.name.now c.in-Some.place c.self.inside.rows.entries c.remove.new.self.entries c.self.invariant c.in-Some.ensures.some.0 c.remove.ensures.entries).store

pub returns-in-Some : goal.returns-in-Some
returns-in-Some c =
    let gone =
    (is_deleted c.args.name.now c.in-Some.place c.self.inside.rows.entries c.remove.new.self.entries c.self.invariant c.in-Some.ensures.some.0 c.remove.ensures.entries).map
    ∙ ap (λ m. finite.remove m c.args.name.now) c.self.view_is in
    search (rules, gone)

pub returns-in_default : goal.returns-in_default
returns-in_default c =
    sym c.self.view_is ∙ is_left c.args.name.now c.self.inside.rows.entries c.self.invariant c.in_default.ensures.none ∙ ap (λ m. finite.remove m c.args.name.now) c.self.view_is
