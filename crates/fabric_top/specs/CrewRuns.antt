-- What a crew's command does: its source is read, and what that says is run.
use Rattle.std.specs.Prelude.{◌≡◌, ℕ, List, [], Option, Some, Result, Ok, Err}
use Rattle.edge_io.specs.Edge.{HasRisen}
use Rattle.fabric_status.specs.Codes.{status_of}
use Rattle.fabric_status.specs.Faults.{fault_line}
use Rattle.fabric_status.specs.Writes.{Wrote}
use Rattle.fabric_status.specs.declared.status.Refusal.{Refusal}
use Rattle.fabric_status.specs.declared.status.Status.{Status}
use Rattle.fabric_status.specs.declared.status.Status.TheVariants as status
use Rattle.edge_io.specs.Told.{Told}
use Rattle.turn_plans.specs.Plans.{judge_plan}
use Rattle.turn_plans.specs.declared.crew.Crew.{Crew}
use Rattle.turn_rules.specs.Plans.{Plan}
use Rattle.turn_rules.specs.Whole.{IsRun}

-- what all devices of the program tell: the bytes that the source has left and how often it failed, and those of a run
pub record Seen : Type 0 where
  pub left : Option (List ℕ)
  pub source_faults : ℕ
  pub told : Told

-- nothing is opened, kept or sent, and no clock is read: the sink has the line of this status, or a front of it
pub record OnlyEnds (wanted : Status) (a : Told) (ended : Status) (c : Told) : Type 0 where
  pub wrote : Wrote wanted (fault_line wanted) ended a.held c.held a.sink_faults c.sink_faults
  pub rest : c ≡ record a { held = c.held; sink_faults = c.sink_faults }

-- what is good is run, and what is not is refused
abbrev pub RunsJudged : Result Plan Refusal → Told → Status → Told → Type 0
RunsJudged (Ok plan) a ended c = IsRun plan a ended c
RunsJudged (Err refusal) a ended c = OnlyEnds (status_of refusal) a ended c

-- where the source tells: these are all the bytes that it had; and if they are a plan, it has nothing left
abbrev pub AreRead : Crew → ℕ → List ℕ → Option (List ℕ) → Option (List ℕ) → Type 0
AreRead crew turns bytes left now = (all : List ℕ) → left ≡ Some all → (bytes ≡ all) × ((plan : Plan) → judge_plan crew turns bytes ≡ Ok plan → now ≡ Some [])

-- The source failed; or memory was short before the run; or the source was read, to its end or to the first line that is
-- refused, and what it says is done.
pub data RunsCrew (crew : Crew) (turns : ℕ) (a : Seen) (ended : Status) (c : Seen) : Type 0 where
  failed : HasRisen a.source_faults c.source_faults → OnlyEnds status.ReadFault a.told ended c.told → RunsCrew crew turns a ended c
  short : ended ≡ status.OutOfMemory → c.told ≡ a.told → RunsCrew crew turns a ended c
  read : (bytes : List ℕ) → AreRead crew turns bytes a.left c.left → RunsJudged (judge_plan crew turns bytes) a.told ended c.told → RunsCrew crew turns a ended c
