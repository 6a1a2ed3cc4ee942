-- Why the status of a crew's command comes, and which statuses come where no device fails.
use Rattle.std.specs.Prelude.{◌≡◌, ◌⊎◌, ℕ, List, [], Option, Some, Result, Ok, Err}
use Rattle.edge_io.specs.Edge.{HasRisen}
use Rattle.fabric_status.specs.Codes.{status_of}
use Rattle.fabric_status.specs.declared.status.Refusal.{Refusal}
use Rattle.fabric_status.specs.declared.status.Refusal.TheVariants as refusal
use Rattle.fabric_status.specs.declared.status.Status.{Status}
use Rattle.fabric_status.specs.declared.status.Status.TheVariants as status
use Rattle.turn_plans.specs.Plans.{judge_plan}
use Rattle.turn_plans.specs.declared.crew.Crew.{Crew}
use Rattle.turn_rules.specs.Plans.{Plan}
use Rattle.turn_rules.specs.Whole.{Bars, Cause, Completes}
use Rattle.fabric_top.specs.CrewRuns.{RunsCrew, Seen}

-- where the source tells its bytes, this is what they say
abbrev pub AreJudged : Crew → ℕ → Option (List ℕ) → Result Plan Refusal → Type 0
AreJudged crew turns left judged = (bytes : List ℕ) → left ≡ Some bytes → judge_plan crew turns bytes ≡ judged

-- The source failed, the sink did, or the source is refused so; or a plan was read, and its run has the cause.
abbrev pub CrewCause : Crew → ℕ → Seen → Status → Seen → Type 0
CrewCause crew turns a status.OutOfMemory c = Unit {0}
CrewCause crew turns a status.Usage c = ⊥
CrewCause crew turns a status.ReadFault c = HasRisen a.source_faults c.source_faults
CrewCause crew turns a status.WriteFault c = HasRisen a.told.sink_faults c.told.sink_faults
CrewCause crew turns a (status.BadConfig e) c = AreJudged crew turns a.left (Err (refusal.BadConfig e))
CrewCause crew turns a (status.BadLine n) c = AreJudged crew turns a.left (Err (refusal.BadLine n))
CrewCause crew turns a (status.DriftBroken n) c = AreJudged crew turns a.left (Err (refusal.DriftBroken n))
CrewCause crew turns a (status.NoSuch n) c = AreJudged crew turns a.left (Err (refusal.NoSuch n))
CrewCause crew turns a (status.TooLarge n) c = AreJudged crew turns a.left (Err (refusal.TooLarge n))
CrewCause crew turns a ended c = (plan : Plan) × (AreJudged crew turns a.left (Ok plan) × Cause plan a.told ended c.told)

-- this is how it ends, or memory was short
abbrev pub EndsAs : Status → Status → Type 0
EndsAs wanted ended = (ended ≡ wanted) ⊎ (ended ≡ status.OutOfMemory)

-- What a crew's command does, why it ends so, and how it ends where no device fails.
pub record IsCrewRun (crew : Crew) (turns : ℕ) (a : Seen) (ended : Status) (c : Seen) : Type 0 where
  pub runs : RunsCrew crew turns a ended c
  pub cause : CrewCause crew turns a ended c
  pub read : ended ≡ status.Ok → (bytes : List ℕ) → a.left ≡ Some bytes → c.left ≡ Some []
  -- a source that is refused is told so, where neither it nor the sink fails
  pub refused : (bytes : List ℕ) (refusal : Refusal) → a.left ≡ Some bytes → judge_plan crew turns bytes ≡ Err refusal → ¬ HasRisen a.source_faults c.source_faults → ¬ HasRisen a.told.sink_faults c.told.sink_faults → EndsAs (status_of refusal) ended
  -- a good plan is run to its last turn, or until a node leaves or a table is full, or memory was short
  pub complete : (bytes : List ℕ) (plan : Plan) → a.left ≡ Some bytes → judge_plan crew turns bytes ≡ Ok plan → ¬ HasRisen a.source_faults c.source_faults → Completes plan a.told ended c.told
  -- a plan whose actors have a bad record ends with it, and no endpoint is opened
  pub bad : (bytes : List ℕ) (plan : Plan) → a.left ≡ Some bytes → judge_plan crew turns bytes ≡ Ok plan → ¬ HasRisen a.source_faults c.source_faults → Bars plan a.told ended c.told
