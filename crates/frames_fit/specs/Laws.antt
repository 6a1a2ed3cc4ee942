-- What the laws of this crate say.
use Rattle.std.specs.Prelude.{ℕ, Bool, List, Option, Some, None, IsTrue, All}
use Rattle.fabric_terms.specs.declared.config.FabricConfig.{FabricConfig}
use Rattle.fabric_terms.specs.Sound.{IsSound}
use Rattle.fabric_terms.specs.Messages.{is_sound}
use Rattle.fabric_terms.specs.Ranges.{Fits}
use Rattle.fabric_terms.specs.Runs.{Entry}
use Rattle.world_rules.specs.Runs.{History, run_of, world_after}
use Rattle.world_rules.specs.Schedules.{Valid}
use Rattle.world_rules.specs.Uppers.{Upper}
use Rattle.frames_fit.specs.Formats.{ReportInRange}

-- every frame of a valid schedule, whose events are in their ranges, is in the ranges of frames
abbrev pub FramesAreInFormat : Upper → Type 0
FramesAreInFormat a =
    (is_frame : List ℕ → Bool) (c : FabricConfig) (h : History) → IsSound c → All (λ e. Fits e.1) h → Valid a is_frame c h →
    All (λ m. IsTrue (is_sound m)) (world_after a c h).frames

-- what an actor tells is in the ranges of reports
abbrev pub EntryFits : Option Entry → Type 0
EntryFits None = Unit {0}
EntryFits (Some e) = All ReportInRange e.reports

-- every report of the run of such a schedule is in the ranges of reports
abbrev pub ReportsAreInRange : Upper → Type 0
ReportsAreInRange a =
    (is_frame : List ℕ → Bool) (c : FabricConfig) (h : History) → IsSound c → All (λ e. Fits e.1) h → Valid a is_frame c h →
    All (λ m. EntryFits m.entry) (run_of a c h)
