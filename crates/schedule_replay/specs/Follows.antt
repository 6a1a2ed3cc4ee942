-- What was done of a schedule at one of its lines.
use Rattle.std.specs.Prelude.{◌≡◌, ℕ, ◌+◌, Bool, true, false, List, [], ◌∷◌, ◌++◌, Option, Some, None, Result, Ok, Err}
use Rattle.fabric_terms.specs.declared.config.FabricConfig.{FabricConfig}
use Rattle.ring_world.specs.Answers.{StandsFor}
use Rattle.ring_world.specs.declared.world.World.{World}
use Rattle.line_format.specs.Lines.{lines_of}
use Rattle.source_lines.specs.Feeds.{HasNoFeed}
use Rattle.world_rules.specs.Runs.{History}
use Rattle.fabric_status.specs.declared.status.Refusal.{Refusal}
use Rattle.schedule_rules.specs.Schedule.{LineVerdict, Ignored, Accepted, Refused, judge_from, judged_at}
use Rattle.schedule_rules.specs.Telling.{Telling, lines_told}
use Rattle.schedule_rules.specs.declared.halt.Halt.{Halt}
use Rattle.schedule_rules.specs.declared.halt.Halt.TheVariants as halt

-- what a teller knows of a history
abbrev pub Known : Type 1
Known = FabricConfig → History → Type 0

-- the world stands for the history, and the teller knows it
abbrev pub At : World → Known → FabricConfig → History → Type 0
At a knows c h = StandsFor a c h × knows c h

-- a line of this verdict was done, and the text has what is told of it; one that is refused changes nothing
abbrev pub Follows : Telling → FabricConfig → History → ℕ → LineVerdict → Option Refusal → World → Known → List ℕ → List ℕ → Type 0
Follows t c h n Ignored refused a knows old new = (refused ≡ None) × At a knows c h × (new ≡ old)
Follows t c h n (Accepted e) refused a knows old new = (refused ≡ None) × At a knows c ((n, e) ∷ h) × (new ≡ old ++ t.told c ((n, e) ∷ h))
Follows t c h n (Refused refusal) refused a knows old new = (refused ≡ Some refusal) × At a knows c h × (new ≡ old)

-- Where the source tells: the lines from number n on behind the history h lead to the same judgement as those from number m
-- on behind k. What stands in the reader comes before what the source has left.
abbrev pub LeadsTo : FabricConfig → History → ℕ → List ℕ → Option (List ℕ) → History → ℕ → List ℕ → Option (List ℕ) → Type 0
LeadsTo c h n waiting left k m waits after =
    (bytes : List ℕ) → left ≡ Some bytes → (rest : List ℕ) × (after ≡ Some rest) × (judge_from c k m (lines_of (waits ++ rest)) ≡ judge_from c h n (lines_of (waiting ++ bytes)))

-- a line was taken that is not refused
pub record TookLine (t : Telling) (c : FabricConfig) (h : History) (n : ℕ) (a : World) (knows : Known) (old new waiting : List ℕ) (left : Option (List ℕ)) (waits : List ℕ) (after : Option (List ℕ)) : Type 0 where
  pub history : History
  pub at : At a knows c history
  pub more : List ℕ
  pub text : new ≡ old ++ more
  pub lines : lines_told t c history ≡ lines_told t c h ++ more
  pub leads : LeadsTo c h n waiting left history (n + 1) waits after

-- no line was left
pub record TookNone (c : FabricConfig) (h : History) (a : World) (knows : Known) (old new waiting : List ℕ) (left after : Option (List ℕ)) : Type 0 where
  pub at : At a knows c h
  pub text : new ≡ old
  pub none : (bytes : List ℕ) → left ≡ Some bytes → (waiting ++ bytes ≡ []) × (after ≡ Some [])

-- the next line is refused so
pub record RefusesLine (c : FabricConfig) (h : History) (n : ℕ) (refusal : Refusal) (old new waiting : List ℕ) (left : Option (List ℕ)) : Type 0 where
  pub text : new ≡ old
  pub judged : (bytes : List ℕ) → left ≡ Some bytes → judge_from c h n (lines_of (waiting ++ bytes)) ≡ judged_at c h (Some refusal)

-- the source failed before the next line was whole
pub record FailsBefore (old new waiting : List ℕ) (left : Option (List ℕ)) (waits : List ℕ) (after : Option (List ℕ)) : Type 0 where
  pub text : new ≡ old
  pub stays : (bytes : List ℕ) → left ≡ Some bytes → HasNoFeed waits × ((rest : List ℕ) × (after ≡ Some rest) × (waits ++ rest ≡ waiting ++ bytes))

-- what was done of the next line of a source, and whether there was one
abbrev pub TakesNext : Telling → FabricConfig → History → ℕ → Result Bool Halt → World → Known → List ℕ → List ℕ → List ℕ → Option (List ℕ) → List ℕ → Option (List ℕ) → Type 0
TakesNext t c h n (Ok true) a knows old new waiting left waits after = TookLine t c h n a knows old new waiting left waits after
TakesNext t c h n (Ok false) a knows old new waiting left waits after = TookNone c h a knows old new waiting left after
TakesNext t c h n (Err (halt.Refused refusal)) a knows old new waiting left waits after = RefusesLine c h n refusal old new waiting left
TakesNext t c h n (Err halt.SourceFailed) a knows old new waiting left waits after = FailsBefore old new waiting left waits after
TakesNext t c h n (Err halt.OutOfMemory) a knows old new waiting left waits after = Unit {0}
TakesNext t c h n (Err halt.SinkFailed) a knows old new waiting left waits after = ⊥
