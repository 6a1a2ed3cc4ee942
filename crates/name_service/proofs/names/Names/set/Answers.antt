use Rattle.std.proofs.Common.{ap, ◌∙◌}
use Rattle.std.specs.FinMap as finite
use Rattle.name_rules.specs.Rows.{map_of}
use Rattle.name_service.specs.Stores.{rows_of}
use Rattle.name_service.proofs.Changed.{Becomes, is_set}
use Rattle.name_service.proofs.names.Names.set.Goals as goal

becomes : (c : goal.Joined-branch-3) → Becomes c.insert.new.self.entries (finite.insert (map_of (rows_of c.self.inside.rows.entries)) c.args.name.now c.in_ok-value.value.items)
becomes c = is_set c.args.name.now c.of.result c.in_ok-value.value c.self.inside.rows.entries c.insert.new.self.entries c.self.invariant c.of.ensures c.requires c.in_ok-insert.ensures.entries

pub invariant_of-self-2 : goal.invariant_of-self-2
invariant_of-self-2 c = (becomes c).store

pub returns-clause-ok : goal.returns-clause-ok
returns-clause-ok c =
    (becomes c).map ∙ ap (finite.insert (map_of (rows_of c.self.inside.rows.entries)) c.args.name.now) c.in_ok-value.ensures ∙ ap (λ m. finite.insert m c.args.name.now c.args.value.now) c.self.view_is
