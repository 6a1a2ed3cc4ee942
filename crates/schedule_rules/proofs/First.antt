-- Line 1 of a schedule.
use Rattle.std.proofs.Common.{◌≡◌, ℕ, ◌≤◌, true, false, List, [], ◌∷◌, ◌++◌, length, Option, Some, None, Ok, Err, arith, refl, ap, sym, subst, ◌∙◌, nat_lt}
use Rattle.std.proofs.lemmas.Bool.Decides.{nat_tests}
use Rattle.fabric_config.specs.Config.{config_of_line}
use Rattle.fabric_config.specs.declared.error.ConfigError.TheVariants.{NotJson}
use Rattle.fabric_config.specs.declared.error.ConfigError.{ConfigError}
use Rattle.fabric_status.specs.declared.status.Refusal.{Refusal}
use Rattle.fabric_status.specs.declared.status.Refusal.TheVariants.{BadConfig, TooLarge}
use Rattle.fabric_terms.specs.declared.config.FabricConfig.{FabricConfig}
use Rattle.line_format.specs.Lines.{lines_of}
use Rattle.source_lines.specs.Feeds.{HasNoFeed}
use Rattle.source_lines.specs.Reading.{BeginsLonger}
use Rattle.schedule_rules.specs.Halts.{HaltsAt}
use Rattle.schedule_rules.specs.Telling.{Telling}
use Rattle.schedule_rules.specs.declared.halt.Halt.TheVariants as halt
use Rattle.schedule_rules.proofs.Fronts.{grew_none}
use Rattle.schedule_rules.specs.Schedule.{judge, judge_lines, judge_first, judge_rest, judge_from, refused_at_once}

pub first_none : (bytes : List ℕ) → bytes ≡ [] → judge bytes ≡ refused_at_once (BadConfig NotJson)
unfolding judge
first_none bytes none = ap (λ b. judge_lines (lines_of b)) none

pub first_long : (bytes : List ℕ) → BeginsLonger 65536 bytes → judge bytes ≡ refused_at_once (TooLarge 1)
unfolding judge
first_long bytes begins =
    let long : nat_lt 65536 (length begins.line) ≡ true = let l = begins.longer in grind (arith, nat_tests) in
    ap judge_lines begins.cut ∙ ap (judge_first begins.line begins.others) long

pub first_read : (bytes line rest : List ℕ) → lines_of bytes ≡ line ∷ lines_of rest → length line ≤ 65536 → judge bytes ≡ judge_rest (lines_of rest) (config_of_line line)
unfolding judge
first_read bytes line rest cut short =
    let fits : nat_lt 65536 (length line) ≡ false = grind (arith, nat_tests) in
    ap judge_lines cut ∙ ap (judge_first line (lines_of rest)) fits

-- a schedule that is refused before any event
pub first_refusal : (t : Telling) (bytes : List ℕ) (refusal : Refusal) (left held : Option (List ℕ)) (text : List ℕ) → judge bytes ≡ refused_at_once refusal → text ≡ t.heading → HaltsAt t (Err (halt.Refused refusal)) (judge bytes) left held held text
first_refusal t bytes refusal left held text judged is =
    subst (λ j. HaltsAt t (Err (halt.Refused refusal)) j left held held text) (sym judged) (refl, ([], grew_none held, is))

-- a source that failed before line 1 was whole
pub first_failure : (t : Telling) (bytes waits rest : List ℕ) (left held : Option (List ℕ)) (text : List ℕ) → HasNoFeed waits → left ≡ Some rest → waits ++ rest ≡ bytes → text ≡ t.heading → HaltsAt t (Err halt.SourceFailed) (judge bytes) left held held text
first_failure t bytes waits rest left held text unfinished is_left same is = (
  None,
  [],
  record { part = waits; rest = rest; unfinished = unfinished; is_left = is_left; leads = ap judge same },
  ([], grew_none held, is),
)

-- a configuration that is refused
pub first_config : (bytes line rest : List ℕ) (error : ConfigError) → judge bytes ≡ judge_rest (lines_of rest) (config_of_line line) → config_of_line line ≡ Err error → judge bytes ≡ refused_at_once (BadConfig error)
first_config bytes line rest error judged read = judged ∙ ap (judge_rest (lines_of rest)) read

pub first_good : (bytes line rest : List ℕ) (config : FabricConfig) → judge bytes ≡ judge_rest (lines_of rest) (config_of_line line) → config_of_line line ≡ Ok config → judge_from config [] 2 (lines_of rest) ≡ judge bytes
first_good bytes line rest config judged read = sym (judged ∙ ap (judge_rest (lines_of rest)) read)
