use Rattle.std.proofs.Common.{Some, ap, sym, ◌∙◌}
use Rattle.name_service.specs.Changes.{seen}
use Rattle.name_rules.proofs.Spelling.{sets_a_name}
use Rattle.name_service.proofs.names.Names.apply_bytes.Goals as goal

pub set-requires : goal.set-requires
set-requires c = sets_a_name c.args.bytes.now c.in-Some-Sets.name.now c.in-Some-Sets.value.now (sym c.in-Some-Sets.ensures ∙ ap (λ x. Some (seen x)) c.in-Some-Sets.field-0-is)
