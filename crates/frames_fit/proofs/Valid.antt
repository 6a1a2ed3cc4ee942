-- Every valid schedule keeps the world to the ranges of frames.
use Rattle.std.proofs.Common.{ℕ, Bool, List, [], ◌∷◌}
use Rattle.std.specs.Prelude.{All}
use Rattle.std.proofs.lemmas.List.Elements.{All-cons, All-head, All-nil, All-tail}
use Rattle.fabric_terms.specs.declared.config.FabricConfig.{FabricConfig}
use Rattle.fabric_terms.specs.Sound.{IsSound}
use Rattle.fabric_terms.specs.Ranges.{Fits}
use Rattle.world_rules.specs.Events.{world_step}
use Rattle.world_rules.specs.Runs.{History, moment_of, run_of, world_after}
use Rattle.world_rules.specs.Schedules.{Valid}
use Rattle.world_rules.specs.Uppers.{Upper}
use Rattle.frames_fit.specs.Above.{SendsInFormat}
use Rattle.frames_fit.specs.Laws.{EntryFits, FramesAreInFormat, ReportsAreInRange}
use Rattle.frames_fit.proofs.Entries.{entry_in_range}
use Rattle.frames_fit.proofs.Worlds.{WorldInRange, empty_in_range, event_in_range}

pub world_in_range : (a : Upper) (p : SendsInFormat a) (is_frame : List ℕ → Bool) (c : FabricConfig) (h : History) → IsSound c → All (λ e. Fits e.1) h →
    Valid a is_frame c h → WorldInRange a p c (world_after a c h)
world_in_range a p is_frame c [] sound fits valid = empty_in_range a p c
world_in_range a p is_frame c (e ∷ es) sound fits valid =
    event_in_range a p c sound (world_after a c es) (world_in_range a p is_frame c es sound (All-tail (λ e. Fits e.1) e es fits) valid.0) is_frame e.1
    (All-head (λ e. Fits e.1) e es fits) valid.1

-- whatever runs above and keeps to the ranges of frames
pub frames_in_format : (a : Upper) → SendsInFormat a → FramesAreInFormat a
frames_in_format a p is_frame c h sound fits valid = (world_in_range a p is_frame c h sound fits valid).frames

pub reports_in_range : (a : Upper) → SendsInFormat a → ReportsAreInRange a
reports_in_range a p is_frame c [] sound fits valid = All-nil (λ m. EntryFits m.entry)
reports_in_range a p is_frame c (e ∷ es) sound fits valid =
    let earlier = All-tail (λ e. Fits e.1) e es fits in
    All-cons (λ m. EntryFits m.entry) (moment_of {a = a} e.0 (world_step a c (world_after a c es) e.1)) (run_of a c es)
    (entry_in_range a p c sound (world_after a c es) (world_in_range a p is_frame c es sound earlier valid.0) is_frame e.1
    (All-head (λ e. Fits e.1) e es fits) valid.1)
    (reports_in_range a p is_frame c es sound earlier valid.0)
