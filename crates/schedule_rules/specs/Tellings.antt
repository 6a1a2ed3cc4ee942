-- The words that run a schedule, by what they write.
use Rattle.std.specs.Prelude.{◌≡◌, ℕ, List, [], ◌∷◌, ◌++◌, length}
use Rattle.fabric_terms.specs.Runs.{Moment, Run}
use Rattle.fabric_terms.specs.declared.config.FabricConfig.{FabricConfig}
use Rattle.unit_rules.specs.Fabric.{fabric}
use Rattle.fabric_terms.specs.Ranges.{IsWord}
use Rattle.unit_rules.specs.Ruled.{ruled}
use Rattle.world_rules.specs.Runs.{History, run_of}
use Rattle.schedule_rules.specs.Output.{IsPlaces, end_line, entry_lines}
use Rattle.schedule_rules.specs.Telling.{Telling}
use Rattle.schedule_rules.specs.Traces.{transcript, group}

abbrev pub moment_lines : Moment → List ℕ
moment_lines m = entry_lines m.line m.time m.entry

-- the lines of the newest moment of a run
abbrev pub newest : (Moment → List ℕ) → Run → List ℕ
newest lines [] = []
newest lines (m ∷ ms) = lines m

-- the places, and the end
abbrev pub IsEnding : FabricConfig → History → List ℕ → Type 0
IsEnding c h text = (places : List ℕ) × IsPlaces c (run_of fabric c h) places × (text ≡ places ++ end_line (length h) (ruled c h).count)

-- `replay`: the reports of each event, and last the places and the end
abbrev pub replay_telling : Telling
replay_telling = record {
  heading = [];
  told = λ c h. newest moment_lines (run_of fabric c h);
  ends = IsEnding;
}

-- nothing more is told; and the number of each frame that was sent has four bytes
pub record IsTraceEnding (c : FabricConfig) (h : History) (text : List ℕ) : Type 0 where
  pub nothing : text ≡ []
  pub few : IsWord (ruled c h).count

-- `trace`: the clocks and the reports of each event
abbrev pub trace_telling : Telling
trace_telling = record {
  heading = transcript;
  told = λ c h. newest group (run_of fabric c h);
  ends = IsTraceEnding;
}
