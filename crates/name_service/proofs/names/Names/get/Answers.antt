use Rattle.std.proofs.Common.{◌≡◌, Some, List, ℕ, option_map, sym, ap, ◌∙◌}
use Rattle.std.specs.FinMap as finite
use Rattle.std.specs.FinMap.{find}
use Rattle.name_rules.specs.Names.{name_cmp}
use Rattle.name_rules.specs.Rows.{map_of}
use Rattle.name_service.specs.Stores.{IsStore, Stored, rows_of}
use Rattle.name_service.proofs.Keys.{found, not_found}
use Rattle.name_rules.proofs.Ordered.{get_is}
use Rattle.name_service.proofs.names.Names.get.Goals as goal

looked_up : (name : List ℕ) (stored : Stored) (m : finite.FinMap name_cmp (List ℕ)) → IsStore stored → map_of (rows_of stored) ≡ m → find name_cmp name (rows_of stored) ≡ finite.get m name
looked_up name stored m s is = sym (get_is name (rows_of stored) s.rises) ∙ ap (λ m. finite.get m name) is

pub returns-in_err-place : goal.returns-in_err-place
returns-in_err-place c =
    let name = c.args.name.now in
    let stored = c.self.inside.rows.entries in
    ap (option_map (λ v. v.now)) c.from_residual.ensures
    ∙ sym (not_found name stored c.in_err-place.ensures.none c.self.invariant.placed)
    ∙ looked_up name stored c.args.self.now c.self.invariant c.self.view_is

pub returns-in_err-value : goal.returns-in_err-value
returns-in_err-value c =
    let name = c.args.name.now in
    let stored = c.self.inside.rows.entries in
    ap (option_map (λ v. v.now)) c.from_residual-in_err-value.ensures
    ∙ ap (option_map (λ v. v.items)) c.in_err-value.ensures.value
    ∙ found name c.in_ok-place.place stored c.in_ok-place.ensures.some.0 c.self.invariant.placed
    ∙ looked_up name stored c.args.self.now c.self.invariant c.self.view_is

pub returns : goal.returns
returns c =
    let name = c.args.name.now in
    let stored = c.self.inside.rows.entries in
    ap Some c.as_slice.ensures.value
    ∙ ap (option_map (λ v. v.items)) c.in_ok-value.ensures.value
    ∙ found name c.in_ok-place.place stored c.in_ok-place.ensures.some.0 c.self.invariant.placed
    ∙ looked_up name stored c.args.self.now c.self.invariant c.self.view_is
