-- The text of a generated schedule, the summary of its run, and what the words write.
use Rattle.std.specs.Prelude.{ℕ, Bool, true, false, List, [], ◌∷◌, ◌++◌, length, Option, Some, None, codes, count_by, decimal}
use Rattle.std.specs.List.{flat_map}
use Rattle.fabric_terms.specs.declared.config.FabricConfig.{FabricConfig}
use Rattle.fabric_terms.specs.declared.event.Event.{Event}
use Rattle.fabric_terms.specs.declared.report.Report.{Report}
use Rattle.fabric_terms.specs.declared.report.Report.TheVariants.{TookOver}
use Rattle.fabric_terms.specs.Places.{tells_leave}
use Rattle.fabric_terms.specs.Reports.{told}
use Rattle.unit_rules.specs.Fabric.{fabric}
use Rattle.fabric_status.specs.Faults.{fault_line}
use Rattle.fabric_status.specs.declared.status.Status.{Status}
use Rattle.fabric_status.specs.declared.status.Status.TheVariants as status
use Rattle.unit_rules.specs.Ruled.{ruled}
use Rattle.point_places.specs.Holders.{holders_in}
use Rattle.line_format.specs.Lines.{event_text, reading_text}
use Rattle.world_rules.specs.Runs.{History, run_of}
use Rattle.schedule_generate.specs.Course.{Course, course_of, next_line}
use Rattle.schedule_generate.specs.Settings.{config_line, generated_config}

-- what is written of a schedule as it is made: before all events, of each event, and behind all
pub record Writing : Type 0 where
  pub heading : List ℕ
  pub line : Event → List ℕ
  pub ending : History → List ℕ

-- what is written of a history, the oldest event first
abbrev pub lines_written : Writing → History → List ℕ
lines_written w [] = w.heading
lines_written w (e ∷ h) = lines_written w h ++ w.line e.1

-- all is done, or the first line that is refused is too large
abbrev pub ended_at : History → Option Event → Status
ended_at h None = status.Ok
ended_at h (Some e) = status.TooLarge (next_line h)

abbrev pub ended : Course → Status
ended g = ended_at g.history g.refused

-- the ending, or the fault
abbrev pub last_written : Writing → History → Option Event → List ℕ
last_written w h None = w.ending h
last_written w h (Some e) = fault_line (ended_at h (Some e))

abbrev pub all_written : Writing → Course → List ℕ
all_written w g = lines_written w g.history ++ last_written w g.history g.refused

-- The text.

-- a reading of a tick, behind a blank
abbrev pub reading_word : ℕ × ℕ → List ℕ
reading_word r = codes " " ++ reading_text r

abbrev pub readings_text : List (ℕ × ℕ) → List ℕ
readings_text readings = flat_map reading_word readings

abbrev pub event_line : Event → List ℕ
event_line e = event_text e ++ codes "\n"

-- `generate`: the configuration, and the line of each event
abbrev pub generate_writing : ℕ → Writing
generate_writing n = record { heading = config_line n ++ codes "\n"; line = event_line; ending = λ h. [] }

abbrev pub generated : (seed n count : ℕ) → Course
generated seed n count = course_of (generated_config n) seed n count

abbrev pub refused_line : Option Event → List ℕ
refused_line None = []
refused_line (Some e) = event_line e

-- the text of a generated schedule ends with the first line that is refused, if one is
abbrev pub gen_text : (seed n count : ℕ) → List ℕ
gen_text seed n count =
    let g = generated seed n count in lines_written (generate_writing n) g.history ++ refused_line g.refused

-- The summary.

abbrev pub is_take_over : Report → Bool
is_take_over (TookOver victim ranges) = true
is_take_over _ = false

-- how many of such reports are told in the run
abbrev pub told_of : (Report → Bool) → FabricConfig → History → ℕ
told_of test c h = count_by (λ t. test t.1) (told (run_of fabric c h))

abbrev pub number_line : List ℕ → ℕ → List ℕ
number_line words number = words ++ (decimal number ++ codes "\n")

-- how many events there were, how many frames were sent, how many take-overs and leaves were reported, and how many
-- instances hold a point at the end
abbrev pub summary : FabricConfig → History → List ℕ
summary c h =
    number_line (codes "events ") (length h)
    ++ (number_line (codes "frames ") (ruled c h).count
    ++ (number_line (codes "tookover ") (told_of is_take_over c h)
    ++ (number_line (codes "left ") (told_of tells_leave c h) ++ number_line (codes "held ") (holders_in (run_of fabric c h)))))

-- `drill`: the summary alone
abbrev pub drill_writing : ℕ → Writing
drill_writing n = record { heading = []; line = λ e. []; ending = summary (generated_config n) }
