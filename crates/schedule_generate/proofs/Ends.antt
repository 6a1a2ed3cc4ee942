-- With which status the making of a schedule ends.
use Rattle.std.proofs.Common.{◌≡◌, ℕ, true, List, Option, Some, None, inl, inr, refl, ap, ◌∙◌}
use Rattle.fabric_status.specs.Writes.{Wrote}
use Rattle.fabric_status.specs.declared.status.Status.{Status}
use Rattle.fabric_terms.specs.declared.event.Event.{Event}
use Rattle.schedule_generate.specs.Course.{Course}
use Rattle.schedule_generate.specs.Statuses.{may_end_generate}
use Rattle.schedule_generate.specs.Texts.{ended, ended_at}
use Rattle.world_rules.specs.Runs.{History}

defined : (h : History) (o : Option Event) → may_end_generate (ended_at h o) ≡ true
defined h None = refl
defined h (Some event) = refl

pub may_end : (g : Course) (text : List ℕ) (so : Status) (old new : Option (List ℕ)) (before now : ℕ) → Wrote (ended g) text so old new before now → may_end_generate so ≡ true
may_end g text so old new before now (inl wrote) = ap may_end_generate wrote.0 ∙ defined g.history g.refused
may_end g text so old new before now (inr (inl short)) = ap may_end_generate short.0
may_end g text so old new before now (inr (inr failed)) = ap may_end_generate failed.0
