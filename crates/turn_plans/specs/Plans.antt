-- The plan that the bytes of a source define.
use Rattle.std.specs.Prelude.{◌≡◌, ℕ, ◌+◌, Bool, true, false, List, [], ◌∷◌, ◌++◌, length, Result, Ok, Err, nat_lt, if◌then◌else◌}
use Rattle.world_rules.specs.Starts.{first_whole}
use Rattle.edge_io.specs.declared.endpoint.Endpoint.{Endpoint}
use Rattle.fabric_config.specs.Config.{config_of_line, lacks_address}
use Rattle.fabric_config.specs.declared.error.ConfigError.{ConfigError}
use Rattle.fabric_config.specs.declared.error.ConfigError.TheVariants.{NotJson, Missing}
use Rattle.fabric_config.specs.declared.field.Field.{Field}
use Rattle.fabric_status.specs.declared.status.Refusal.{Refusal}
use Rattle.fabric_status.specs.declared.status.Refusal.TheVariants.{BadConfig, NoSuch, TooLarge}
use Rattle.fabric_terms.specs.declared.config.FabricConfig.{FabricConfig}
use Rattle.line_format.specs.Lines.{lines_of}
use Rattle.source_lines.specs.Lines.{most_first_line}
use Rattle.turn_rules.specs.Plans.{Plan}
use Rattle.turn_rules.specs.declared.order.Order.{Order}
use Rattle.turn_plans.specs.Crews.{endpoints_of, is_crew}
use Rattle.turn_plans.specs.PlanVerdicts.{Ignored, Ordered, Refused, line_verdict}
use Rattle.turn_plans.specs.declared.crew.Crew.{Crew}
use Rattle.turn_plans.specs.declared.error.PlanError.{PlanError}
use Rattle.turn_plans.specs.declared.error.PlanError.TheVariants as error

-- The commands of the lines from number n on, behind those of the lines before. No turn is below that of an earlier line.
abbrev pub judge_from : Crew → FabricConfig → List Endpoint → ℕ → List Order → ℕ → ℕ → List (List ℕ) → Result (List Order) Refusal
judge_from crew c actors turns orders least n [] = Ok orders
judge_from crew c actors turns orders least n (l ∷ ls) =
    elim (line_verdict crew c actors turns least n l) [
      | Ignored ↦ judge_from crew c actors turns orders least (n + 1) ls
      | Ordered o ↦ judge_from crew c actors turns (orders ++ o ∷ []) o.turn (n + 1) ls
      | Refused refusal ↦ Err refusal
    ]

abbrev pub plan_with : FabricConfig → List Endpoint → ℕ → Result (List Order) Refusal → Result Plan Refusal
plan_with c actors turns (Ok orders) = Ok (record { config = c; whole = first_whole c; actors = actors; orders = orders; turns = turns })
plan_with c actors turns (Err refusal) = Err refusal

-- the plan of a configuration and the lines behind it; the first turn that may come is turn 1
abbrev pub plan_of : Crew → ℕ → FabricConfig → List (List ℕ) → Result Plan Refusal
plan_of crew turns c ls = plan_with c (endpoints_of c crew) turns (judge_from crew c (endpoints_of c crew) turns [] 1 2 ls)

-- the first of these tests that fails
abbrev pub unless_missing : Crew → FabricConfig → Result FabricConfig Refusal
unless_missing crew c =
    if lacks_address c then Err (BadConfig (Missing Field.At))
    else (if is_crew c crew then Ok c else Err (NoSuch 1))

abbrev pub config_from : Crew → Result FabricConfig ConfigError → Result FabricConfig Refusal
config_from crew (Ok c) = unless_missing crew c
config_from crew (Err e) = Err (BadConfig e)

-- the configuration that a line is read as, where it says where each actor listens, and has whom the words name
unfoldable pub config_for : Crew → List ℕ → Result FabricConfig Refusal
config_for crew line = config_from crew (config_of_line line)

abbrev pub judge_rest : Crew → ℕ → List (List ℕ) → Result FabricConfig Refusal → Result Plan Refusal
judge_rest crew turns ls (Ok c) = plan_of crew turns c ls
judge_rest crew turns ls (Err refusal) = Err refusal

abbrev pub judge_first : Crew → ℕ → List ℕ → List (List ℕ) → Bool → Result Plan Refusal
judge_first crew turns l ls true = Err (TooLarge 1)
judge_first crew turns l ls false = judge_rest crew turns ls (config_for crew l)

abbrev pub judge_lines : Crew → ℕ → List (List ℕ) → Result Plan Refusal
judge_lines crew turns [] = Err (BadConfig NotJson)
judge_lines crew turns (l ∷ ls) = judge_first crew turns l ls (nat_lt most_first_line (length l))

-- the plan that the bytes define, or how they are refused
unfoldable pub judge_plan : Crew → ℕ → List ℕ → Result Plan Refusal
judge_plan crew turns bytes = judge_lines crew turns (lines_of bytes)

-- what is read, seen so, is what is defined, but for want of memory
abbrev pub Judges : {A B : Type 0} → (B → A) → Result A Refusal → Result B PlanError → Type 0
Judges seen judged (Ok x) = judged ≡ Ok (seen x)
Judges seen judged (Err (error.Refused refusal)) = judged ≡ Err refusal
Judges seen judged (Err error.SourceFailed) = ⊥
Judges seen judged (Err error.OutOfMemory) = Unit {0}
