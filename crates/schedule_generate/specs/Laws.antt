-- How the text of a generated schedule is judged.
use Rattle.std.specs.Prelude.{ℕ, Option, Some, None}
use Rattle.fabric_terms.specs.declared.event.Event.{Event}
use Rattle.fabric_status.specs.declared.status.Refusal.{Refusal}
use Rattle.fabric_status.specs.declared.status.Refusal.TheVariants.{TooLarge}
use Rattle.schedule_rules.specs.Schedule.{Judged, judged_at}
use Rattle.world_rules.specs.Runs.{History}
use Rattle.schedule_generate.specs.Course.{Course, next_line}
use Rattle.schedule_generate.specs.Settings.{generated_config}

-- what is refused is too large
abbrev pub refusal_of : History → Option Event → Option Refusal
refusal_of h None = None
refusal_of h (Some e) = Some (TooLarge (next_line h))

-- the events that were taken are those that are accepted of the text, and its last line is refused where one was refused
abbrev pub judged_of : ℕ → Course → Judged
judged_of n g = judged_at (generated_config n) g.history (refusal_of g.history g.refused)
