use Rattle.std.proofs.Common.{ap, ◌∙◌}
use Rattle.name_rules.specs.Rows.{map_of}
use Rattle.name_service.specs.Stores.{rows_of}
use Rattle.name_rules.proofs.Ordered.{nothing_stored}
use Rattle.name_service.proofs.names.Names.clear.Goals as goal

pub returns-then-len-le-MAX_FREED_NAMES : goal.returns-then-len-le-MAX_FREED_NAMES
returns-then-len-le-MAX_FREED_NAMES c = ap (λ es. map_of (rows_of es)) c.clear.ensures.empty ∙ nothing_stored

pub returns-else-len-le-MAX_FREED_NAMES : goal.returns-else-len-le-MAX_FREED_NAMES
returns-else-len-le-MAX_FREED_NAMES c =
    ap (λ m. map_of (rows_of m.entries)) c.replace.ensures.after ∙ (ap (λ es. map_of (rows_of es)) c.new-nothing.ensures.empty ∙ nothing_stored)
