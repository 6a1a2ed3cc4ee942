-- The laws of primaries, epochs and writes, over every valid run.
use Rattle.std.specs.Prelude.{ℕ, Bool, List}
use Rattle.fabric_terms.specs.declared.config.FabricConfig.{FabricConfig}
use Rattle.fabric_terms.specs.Primaries.{OnePrimary, NoOlder}
use Rattle.fabric_terms.specs.Sound.{IsSound}
use Rattle.run_promises.specs.Answers.{AnswersOfCommitted}
use Rattle.run_promises.specs.Covered.{AnswersCovered, NamesCovered}
use Rattle.run_promises.specs.Writes.{WritesKept}
use Rattle.unit_rules.specs.Units.{units}
use Rattle.world_rules.specs.Runs.{History, run_of}
use Rattle.world_rules.specs.Schedules.{Valid}

-- it holds of every valid history of every sound configuration
abbrev pub OverValidRuns : (FabricConfig → History → Type 0) → Type 0
OverValidRuns Holds = (is_frame : List ℕ → Bool) (c : FabricConfig) (h : History) → IsSound c → Valid units is_frame c h → Holds c h

-- a partition has one primary at most in an epoch
abbrev pub RunsHaveOnePrimary : Type 0
RunsHaveOnePrimary = OverValidRuns (λ c h. OnePrimary (run_of units c h))

-- no node accepts a write of an older epoch than one that it promised or accepted before, whatever its instances
abbrev pub RunsHaveNoOlder : Type 0
RunsHaveNoOlder = OverValidRuns (λ c h. NoOlder (run_of units c h))

-- what was reported committed stands in the log of each later primary
abbrev pub WritesAreKept : Type 0
WritesAreKept = OverValidRuns WritesKept

-- what a primary reports committed covers what was committed before
abbrev pub AnswersAreCovered : Type 0
AnswersAreCovered = OverValidRuns AnswersCovered

-- so do the entries by which a node may answer about names
abbrev pub NamesAreCovered : Type 0
NamesAreCovered = OverValidRuns NamesCovered

-- and each answer about names rests on such entries
abbrev pub AnswersAreOfCommitted : Type 0
AnswersAreOfCommitted = OverValidRuns AnswersOfCommitted
