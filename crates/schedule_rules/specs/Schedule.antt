-- Which lines of a schedule are accepted, and what is accepted of a schedule.
use Rattle.std.specs.Prelude.{ℕ, ◌+◌, Bool, true, false, ◌||◌, List, [], ◌∷◌, length, Option, Some, None, Result, Ok, Err, nat_lt}
use Rattle.fabric_config.specs.Config.{config_of_line}
use Rattle.fabric_config.specs.declared.error.ConfigError.{ConfigError}
use Rattle.fabric_config.specs.declared.error.ConfigError.TheVariants.{NotJson}
use Rattle.fabric_terms.specs.declared.config.FabricConfig.{FabricConfig}
use Rattle.fabric_terms.specs.declared.event.Event.{Event}
use Rattle.frame_format.specs.Kinds.{is_frame}
use Rattle.unit_rules.specs.Ruled.{ruled}
use Rattle.world_rules.specs.EventLimits.{has_room}
use Rattle.line_format.specs.Lines.{lines_of, event_of}
use Rattle.source_lines.specs.Lines.{is_ignored, most_line, most_first_line, most_lines}
use Rattle.unit_rules.specs.Fabric.{fabric}
use Rattle.world_rules.specs.Runs.{History}
use Rattle.world_rules.specs.Schedules.{is_there, keeps_bound}
use Rattle.world_rules.specs.Worlds.{World}
use Rattle.fabric_status.specs.declared.status.Refusal.{Refusal}
use Rattle.fabric_status.specs.declared.status.Refusal.TheVariants.{BadConfig, BadLine, DriftBroken, NoSuch, TooLarge}

pub data LineVerdict : Type 0 where
  Ignored : LineVerdict
  Accepted : (event : Event) → LineVerdict
  Refused : (refusal : Refusal) → LineVerdict

-- the first of these refusals whose test fails, and else the event
abbrev pub unless_room : ℕ → Event → Bool → LineVerdict
unless_room n e true = Accepted e
unless_room n e false = Refused (TooLarge n)

abbrev pub unless_within : ℕ → Event → Bool → Bool → LineVerdict
unless_within n e true room = unless_room n e room
unless_within n e false room = Refused (DriftBroken n)

abbrev pub unless_there : ℕ → Event → Bool → Bool → Bool → LineVerdict
unless_there n e true within room = unless_within n e within room
unless_there n e false within room = Refused (NoSuch n)

-- an event at line n
abbrev pub run_verdict : FabricConfig → World fabric → ℕ → ℕ → Event → LineVerdict
run_verdict c w events n e = unless_there n e (is_there is_frame c w e) (keeps_bound c w e) (has_room w events e)

abbrev pub event_verdict : FabricConfig → World fabric → ℕ → ℕ → Option Event → LineVerdict
event_verdict c w events n None = Refused (BadLine n)
event_verdict c w events n (Some e) = run_verdict c w events n e

abbrev pub unless_ignored : FabricConfig → World fabric → ℕ → ℕ → List ℕ → Bool → LineVerdict
unless_ignored c w events n line true = Ignored
unless_ignored c w events n line false = event_verdict c w events n (event_of line)

abbrev pub unless_large : FabricConfig → World fabric → ℕ → ℕ → List ℕ → Bool → LineVerdict
unless_large c w events n line true = Refused (TooLarge n)
unless_large c w events n line false = unless_ignored c w events n line (is_ignored line)

-- line n, after so many events that made this world
unfoldable pub line_verdict : FabricConfig → World fabric → ℕ → ℕ → List ℕ → LineVerdict
line_verdict c w events n line = unless_large c w events n line (nat_lt most_line (length line) || nat_lt most_lines n)

-- what is accepted of a schedule, and how it is refused, if it is
pub record Judged : Type 0 where
  pub config : Option FabricConfig
  pub history : History
  pub refused : Option Refusal

abbrev pub judged_at : FabricConfig → History → Option Refusal → Judged
judged_at c h refused = record { config = Some c; history = h; refused = refused }

abbrev pub refused_at_once : Refusal → Judged
refused_at_once refusal = record { config = None; history = []; refused = Some refusal }

-- the lines from number n on, after a history that was accepted
abbrev pub judge_from : FabricConfig → History → ℕ → List (List ℕ) → Judged
judge_from c h n [] = judged_at c h None
judge_from c h n (l ∷ ls) =
    elim (line_verdict c (ruled c h) (length h) n l) [
      | Ignored ↦ judge_from c h (n + 1) ls
      | Accepted e ↦ judge_from c ((n, e) ∷ h) (n + 1) ls
      | Refused refusal ↦ judged_at c h (Some refusal)
    ]

abbrev pub judge_rest : List (List ℕ) → Result FabricConfig ConfigError → Judged
judge_rest ls (Ok c) = judge_from c [] 2 ls
judge_rest ls (Err e) = refused_at_once (BadConfig e)

abbrev pub judge_first : List ℕ → List (List ℕ) → Bool → Judged
judge_first l ls true = refused_at_once (TooLarge 1)
judge_first l ls false = judge_rest ls (config_of_line l)

abbrev pub judge_lines : List (List ℕ) → Judged
judge_lines [] = refused_at_once (BadConfig NotJson)
judge_lines (l ∷ ls) = judge_first l ls (nat_lt most_first_line (length l))

-- what is accepted of the bytes of a schedule
unfoldable pub judge : List ℕ → Judged
judge bytes = judge_lines (lines_of bytes)
