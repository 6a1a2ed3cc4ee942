use Rattle.std.proofs.Common.{◌≡◌, IfOk, take, subst, sym, ap, ◌∙◌}
use Rattle.ring_points.specs.Limits.{most_listed_names}
use Rattle.name_rules.specs.Names.{name_list}
use Rattle.name_service.specs.Stores.{points_in}
use Rattle.name_service.proofs.Window.{listed}
use Rattle.name_service.proofs.names.Names.select.Goals as goal

pub returns : goal.returns
returns c =
    let same = listed c.args.range.now c.first_at-first.result c.self.inside.rows.entries c.range-2.result c.as_slice.result.now c.mask_of-mask.result c.self.invariant c.first_at-first.ensures.point c.first_at-first.ensures.name
    (c.range-2.ensures.between tt)
    (c.as_slice.ensures.value ∙ c.points_of-points.ensures ∙ ap (λ es. take most_listed_names (points_in es)) (c.range.ensures.between tt ∙ sym (c.range-2.ensures.between tt))) c.mask_of-mask.ensures in
    subst (λ ns. IfOk c.names_marked.result (λ names. names.items ≡ ns)) (same ∙ ap (λ m. name_list m c.args.range.now) c.self.view_is) c.names_marked.ensures
