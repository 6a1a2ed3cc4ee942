-- When a call on an arbitrator may want memory.
use Rattle.std.specs.Prelude.{◌≡◌, Bool, true, false, List, Some, Result, Ok, Err}
use Rattle.fabric_terms.specs.declared.record.Record.{Record}
use Rattle.arbiter_core.specs.declared.answer.Answer.{Answer}
use Rattle.arbiter_core.specs.declared.answer.Answer.TheVariants.{Reply}
use Rattle.arbiter_core.specs.declared.answer.ArbiterError.{ArbiterError}
use Rattle.arbiter_core.specs.declared.answer.ArbiterError.TheVariants.{OutOfMemory}
use Rattle.arbiter_core.specs.Arbiters.{Arbiter, Outcome, is_full_for}

-- something is kept before this is answered
abbrev pub keeps : Result Answer ArbiterError → Bool
keeps (Ok (Reply (Some kept) to said)) = true
keeps _ = false

-- memory is wanted only where the call would keep something
abbrev pub KeepsIfShort : Outcome Answer → Result Answer ArbiterError → Type 0
KeepsIfShort defined result = result ≡ Err OutOfMemory → keeps defined.0 ≡ true

-- memory is wanted only where there is a place for the records
abbrev pub FitsIfShort : List Record → Arbiter → Result Record ArbiterError → Type 0
FitsIfShort records a result = result ≡ Err OutOfMemory → is_full_for records a ≡ false
