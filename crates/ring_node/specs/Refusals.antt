-- Why a command is refused.
use Rattle.std.specs.Prelude.{Bool, not, List, [], ◌∷◌, Option, Some, None, is_some}
use Rattle.fabric_terms.specs.declared.report.Reason.{Reason}
use Rattle.fabric_terms.specs.declared.report.Reason.TheVariants as reason
use Rattle.fabric_terms.specs.declared.report.Report.{Report}
use Rattle.fabric_terms.specs.declared.report.Report.TheVariants.{Refused}
use Rattle.fabric_terms.specs.declared.report.Verb.{Verb}
use Rattle.link_core.specs.declared.refusal.LinkRefusal.{LinkRefusal}
use Rattle.link_core.specs.declared.refusal.LinkRefusal.TheVariants as refusal
use Rattle.token_core.specs.declared.refusal.TokenRefusal.{TokenRefusal}
use Rattle.token_core.specs.declared.refusal.TokenRefusal.TheVariants as token

-- what is told of a refused call on the links; for want of a number nothing is
abbrev pub reason_for : LinkRefusal → Option Reason
reason_for refusal.AlreadyLinked = Some reason.Linked
reason_for refusal.Full = Some reason.Full
reason_for refusal.NotLinked = Some reason.NotLinked
reason_for refusal.Busy = Some reason.Busy
reason_for refusal.Counters = None

abbrev pub refusals : Verb → Option Reason → List Report
refusals verb None = []
refusals verb (Some why) = Refused verb why ∷ []

abbrev pub needs_number : LinkRefusal → Bool
needs_number why = not (is_some (reason_for why))

-- why a gift is not frozen
abbrev pub reason_of : TokenRefusal → Option Reason
reason_of token.Empty = Some reason.Empty
reason_of token.TooMany = Some reason.TooMany
reason_of token.NotReady = Some reason.NotRouting
reason_of token.Busy = Some reason.Busy
reason_of token.NoFreeze = Some reason.Busy
reason_of token.Counters = None
