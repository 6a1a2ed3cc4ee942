-- Which statuses a command does not end with.
use Rattle.std.proofs.Common.{◌≡◌, ◌≢◌, Bool, true, false, IsTrue, ap, sym, ◌∙◌}
use Rattle.fabric_status.specs.declared.status.Status.{Status}
use Rattle.fabric_status.specs.declared.status.Status.TheVariants as status

-- one that may not end as words of no form do ends otherwise
pub never_usage : (may : Status → Bool) (ended : Status) → IsTrue (may ended) → may status.Usage ≡ false → ended ≢ status.Usage
never_usage may ended can cannot e = let no : true ≡ false = sym can ∙ (ap may e ∙ cannot) in cc
