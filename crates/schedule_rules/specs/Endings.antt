-- What a sink has more at each status of a word that runs a schedule.
use Rattle.std.specs.Prelude.{◌≡◌, ℕ, List, ◌++◌, Option, Some, None}
use Rattle.edge_io.specs.Edge.{Grew, GrewByFront}
use Rattle.fabric_terms.specs.declared.config.FabricConfig.{FabricConfig}
use Rattle.fabric_status.specs.declared.status.Refusal.{Refusal}
use Rattle.fabric_status.specs.declared.status.Refusal.TheVariants.{BadConfig, BadLine, DriftBroken, NoSuch, TooLarge}
use Rattle.fabric_status.specs.declared.status.Status.{Status}
use Rattle.fabric_status.specs.declared.status.Status.TheVariants as status
use Rattle.fabric_status.specs.Faults.{fault_line}
use Rattle.line_format.specs.Lines.{lines_of}
use Rattle.source_lines.specs.Feeds.{HasNoFeed}
use Rattle.world_rules.specs.Runs.{History}
use Rattle.schedule_rules.specs.Schedule.{Judged, judge, judge_from}

-- behind the lines of these events these bytes lead to this judgement; without a configuration no line was taken yet
abbrev pub LeadsOn : Judged → List ℕ → Option FabricConfig → History → Type 0
LeadsOn j behind None h = judge behind ≡ j
LeadsOn j behind (Some c) h = (number : ℕ) × (judge_from c h number (lines_of behind) ≡ j)

-- A source stopped behind the lines of these events: no whole line is left of what it gave, and the part of a line that is,
-- with what the source has left, leads on to the judgement of all bytes.
pub record Stopped (j : Judged) (left : Option (List ℕ)) (config : Option FabricConfig) (history : History) : Type 0 where
  pub part : List ℕ
  pub rest : List ℕ
  pub unfinished : HasNoFeed part
  pub is_left : left ≡ Some rest
  pub leads : LeadsOn j (part ++ rest) config history

-- The lines of the events of all whole lines that a source gave, and then that it failed. `lines` is what is told of a
-- history.
abbrev pub StoppedText : (Option FabricConfig → History → List ℕ) → Judged → Option (List ℕ) → List ℕ → Type 0
StoppedText lines j left text = (config : Option FabricConfig) × (history : History) × Stopped j left config history × (text ≡ lines config history ++ fault_line status.ReadFault)

-- A front of what would have been written: of the lines of what is accepted; of the whole text; or, where the source failed,
-- of the text that says so. `Text` says which text is written of a judgement.
pub data WritesFront (Text : Judged → List ℕ → Type 0) (lines : Option FabricConfig → History → List ℕ) (j : Judged) (left : Option (List ℕ)) (source_failed : Type 0) (old new : Option (List ℕ)) : Type 0 where
  accepted : GrewByFront old new (lines j.config j.history) → WritesFront Text lines j left source_failed old new
  whole : (text : List ℕ) → Text j text → GrewByFront old new text → WritesFront Text lines j left source_failed old new
  stopped : (text : List ℕ) → source_failed → StoppedText lines j left text → GrewByFront old new text → WritesFront Text lines j left source_failed old new

-- the schedule is refused so, or is not, and the sink has its text
pub record WritesText (Text : Judged → List ℕ → Type 0) (j : Judged) (refusal : Option Refusal) (old new : Option (List ℕ)) : Type 0 where
  pub refused : j.refused ≡ refusal
  pub text : List ℕ
  pub output : Text j text
  pub grew : Grew old new text

-- the source failed, and the sink has the lines of all whole lines before and the fault
pub record WritesStopped (lines : Option FabricConfig → History → List ℕ) (j : Judged) (left : Option (List ℕ)) (old new : Option (List ℕ)) : Type 0 where
  pub text : List ℕ
  pub output : StoppedText lines j left text
  pub grew : Grew old new text

-- what a sink has more at each status, where it tells; by what the source has left, and whether it failed
abbrev pub EndsSo : (Judged → List ℕ → Type 0) → (Option FabricConfig → History → List ℕ) → Status → Judged → Option (List ℕ) → Type 0 → Option (List ℕ) → Option (List ℕ) → Type 0
EndsSo Text lines status.Ok j left failed old new = WritesText Text j None old new
EndsSo Text lines status.OutOfMemory j left failed old new = WritesFront Text lines j left failed old new
EndsSo Text lines status.ReadFault j left failed old new = WritesStopped lines j left old new
EndsSo Text lines status.WriteFault j left failed old new = WritesFront Text lines j left failed old new
EndsSo Text lines (status.BadConfig e) j left failed old new = WritesText Text j (Some (BadConfig e)) old new
EndsSo Text lines (status.BadLine n) j left failed old new = WritesText Text j (Some (BadLine n)) old new
EndsSo Text lines (status.DriftBroken n) j left failed old new = WritesText Text j (Some (DriftBroken n)) old new
EndsSo Text lines (status.NoSuch n) j left failed old new = WritesText Text j (Some (NoSuch n)) old new
EndsSo Text lines (status.TooLarge n) j left failed old new = WritesText Text j (Some (TooLarge n)) old new
EndsSo Text lines status.Usage j left failed old new = ⊥
EndsSo Text lines status.KeepFault j left failed old new = ⊥
EndsSo Text lines status.LinkFault j left failed old new = ⊥
EndsSo Text lines (status.ClockBack former latter) j left failed old new = ⊥
EndsSo Text lines (status.Left why) j left failed old new = ⊥
EndsSo Text lines (status.BadKeep i) j left failed old new = ⊥
EndsSo Text lines status.TableFull j left failed old new = ⊥
