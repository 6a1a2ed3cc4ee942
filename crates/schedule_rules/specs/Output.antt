-- What is written of a schedule.
use Rattle.std.specs.Prelude.{◌≡◌, ℕ, List, [], ◌∷◌, ◌++◌, length, Option, Some, None, codes, decimal, nat_lt, if◌then◌else◌}
use Rattle.fabric_terms.specs.Places.{place_of}
use Rattle.fabric_terms.specs.Reports.{told}
use Rattle.fabric_terms.specs.Runs.{Entry, Run}
use Rattle.fabric_terms.specs.declared.config.FabricConfig.{FabricConfig}
use Rattle.fabric_terms.specs.declared.report.Head.{Head}
use Rattle.point_places.specs.Lines.{IsText}
use Rattle.ring_points.specs.Whos.{node_instance}
use Rattle.unit_rules.specs.Ruled.{ruled}
use Rattle.point_places.specs.Holders.{holds_in}
use Rattle.line_format.specs.Reports.{lines_of_reports, sent_line}
use Rattle.text_fields.specs.Texts.{spaced}
use Rattle.unit_rules.specs.Fabric.{fabric}
use Rattle.world_rules.specs.Runs.{History, run_of}
use Rattle.fabric_status.specs.Codes.{status_of}
use Rattle.fabric_status.specs.Faults.{fault_line}
use Rattle.fabric_status.specs.declared.status.Refusal.{Refusal}
use Rattle.schedule_rules.specs.Schedule.{Judged}

-- the head of the lines of an entry
abbrev pub head_of : ℕ → ℕ → Entry → Head
head_of line time e = record { line = line; time = Some time; who = e.who; reading = e.reading }

-- which frames were sent, if any: they are counted from 1
abbrev pub sent_lines : Head → ℕ × ℕ → List ℕ
sent_lines head sent = if nat_lt 0 sent.0 then sent_line head sent else []

-- what was told, and last what was sent
abbrev pub lines_under : Head → Entry → List ℕ
lines_under head e = lines_of_reports head e.reports ++ sent_lines head e.sent

abbrev pub entry_lines : ℕ → ℕ → Option Entry → List ℕ
entry_lines line time None = []
entry_lines line time (Some e) = lines_under (head_of line time e) e

-- the lines of a run, the oldest first
abbrev pub lines_of_run : Run → List ℕ
lines_of_run [] = []
lines_of_run (m ∷ ms) = lines_of_run ms ++ entry_lines m.line m.time m.entry

-- how many events there were, and how many frames were sent
abbrev pub end_line : ℕ → ℕ → List ℕ
end_line events frames = spaced (codes "end" ∷ decimal events ∷ decimal frames ∷ []) ++ codes "\n"

-- The lines of the places: all points begin with the first node's first instance, reports move them, and each point that
-- is with an instance which does not hold it, or in flight, is told.
abbrev pub IsPlaces : FabricConfig → Run → List ℕ → Type 0
IsPlaces c run text = IsText (place_of (node_instance c.first 1) (told run)) (holds_in run) text

-- the report of a whole schedule: the lines of its run, then the places, then the end
pub record IsReport (c : FabricConfig) (h : History) (text : List ℕ) : Type 0 where
  pub places : List ℕ
  pub placed : IsPlaces c (run_of fabric c h) places
  pub written : text ≡ lines_of_run (run_of fabric c h) ++ (places ++ end_line (length h) (ruled c h).count)

-- the run of the events that are accepted
abbrev pub run_judged : Option FabricConfig → History → Run
run_judged None h = []
run_judged (Some c) h = run_of fabric c h

abbrev pub accepted_run : Judged → Run
accepted_run j = run_judged j.config j.history

-- the report of what is good; there is none without a configuration
abbrev pub IsWhole : Option FabricConfig → History → List ℕ → Type 0
IsWhole None h text = ⊥
IsWhole (Some c) h text = IsReport c h text

-- the lines of what was accepted, and the fault
abbrev pub cut_short : Judged → Refusal → List ℕ
cut_short j refusal = lines_of_run (accepted_run j) ++ fault_line (status_of refusal)

abbrev pub IsOutputAt : Judged → Option Refusal → List ℕ → Type 0
IsOutputAt j None text = IsWhole j.config j.history text
IsOutputAt j (Some refusal) text = text ≡ cut_short j refusal

-- what is written of a schedule: its report, or the lines of what was accepted and the fault
abbrev pub IsOutput : Judged → List ℕ → Type 0
IsOutput j text = IsOutputAt j j.refused text

-- an answer to what was judged: how it is refused, if it is, and what is written
pub record IsAnswer (j : Judged) (refusal : Option Refusal) (text : List ℕ) : Type 0 where
  pub refused : j.refused ≡ refusal
  pub written : IsOutput j text
