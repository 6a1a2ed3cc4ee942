-- The changes of the code, as the definitions have them.
use Rattle.std.specs.Prelude.{Bool, true, false, Option, Some}
use Rattle.name_rules.specs.Grammar.{Change, Sets, Deletes}
use Rattle.name_service.specs.declared.change.Change.{Change as CodeChange}
use Rattle.name_service.specs.declared.change.Change.TheVariants as code

abbrev pub seen : CodeChange → Change
seen (code.Sets name value) = Sets name.now value.now
seen (code.Deletes name) = Deletes name.now

-- a name gets a value: no other entry needs memory
abbrev pub is_set : Option Change → Bool
is_set (Some (Sets name value)) = true
is_set _ = false
