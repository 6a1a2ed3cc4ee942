-- A schedule that halts at line 1.
use Rattle.std.proofs.Common.{◌≡◌, ◌≢◌, ℕ, List, Option, Result, Err, IsTrue, refl, ap, sym, subst, ◌∙◌}
use Rattle.fabric_config.specs.Config.{config_of_line}
use Rattle.fabric_config.specs.declared.error.ConfigError.{ConfigError}
use Rattle.fabric_config.specs.declared.error.ConfigError.TheVariants as config_error
use Rattle.fabric_terms.specs.declared.config.FabricConfig.{FabricConfig}
use Rattle.line_format.specs.Lines.{lines_of}
use Rattle.schedule_rules.specs.Halts.{HaltsAt}
use Rattle.schedule_rules.specs.Schedule.{judge, judge_rest, refused_at_once}
use Rattle.schedule_rules.specs.Telling.{Telling}
use Rattle.schedule_rules.specs.declared.halt.Halt.{Halt}
use Rattle.schedule_rules.specs.declared.halt.Halt.TheVariants as halt
use Rattle.schedule_rules.proofs.First.{first_refusal, first_config}
use Rattle.schedule_rules.proofs.Fronts.{grew_none}
use Rattle.schedule_replay.specs.Begins.{Begins}
use Rattle.schedule_replay.specs.Statuses.{is_of_line}

-- no world was made
pub first_halts : (t : Telling) (bytes line rest : List ℕ) (stop : Halt) (left held : Option (List ℕ)) (text : List ℕ) → judge bytes ≡ judge_rest (lines_of rest) (config_of_line line) → text ≡ t.heading → Begins (config_of_line line) (Err stop) → HaltsAt t (Err stop) (judge bytes) left held held text
first_halts t bytes line rest (halt.Refused refusal) left held text judged is begins =
    first_refusal t bytes refusal left held text (first_config bytes line rest begins.0 judged begins.1 ∙ ap refused_at_once (sym begins.2)) is
first_halts t bytes line rest halt.SourceFailed left held text judged is begins = absurd begins
first_halts t bytes line rest halt.OutOfMemory left held text judged is begins = (0, grew_none held)
first_halts t bytes line rest halt.SinkFailed left held text judged is begins = absurd begins

-- the devices have not failed then
pub begins_as : (read : Result FabricConfig ConfigError) (stop other : Halt) → Begins read (Err stop) → stop ≡ other → Begins read (Err other)
begins_as read stop other begins is = subst (λ (s : Halt). Begins read (Err s)) is begins

-- an error that is not want of memory is one of the line
pub not_memory : (e : ConfigError) → e ≢ config_error.OutOfMemory → IsTrue (is_of_line e)
not_memory config_error.NotJson other = refl
not_memory (config_error.Missing field) other = refl
not_memory (config_error.OutOfRange field value) other = refl
not_memory (config_error.Repeated node) other = refl
not_memory config_error.OutOfMemory other = absurd (other refl)
