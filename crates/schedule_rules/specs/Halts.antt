-- Where a run over the lines of a source halts, and what is written then.
use Rattle.std.specs.Prelude.{◌≡◌, ◌⊎◌, ℕ, List, [], ◌++◌, length, nat_lt, if◌then◌else◌, Option, Some, None, Result, Ok, Err}
use Rattle.edge_io.specs.Edge.{Grew, GrewByFront}
use Rattle.edge_io.specs.declared.refusal.EdgeRefusal.{EdgeRefusal}
use Rattle.fabric_terms.specs.declared.config.FabricConfig.{FabricConfig}
use Rattle.world_rules.specs.Runs.{History}
use Rattle.fabric_status.specs.declared.status.Status.{Status}
use Rattle.fabric_status.specs.declared.status.Status.TheVariants as status
use Rattle.fabric_status.specs.Faults.{fault_line}
use Rattle.fabric_status.specs.Writes.{Wrote as Written}
use Rattle.schedule_rules.specs.Endings.{Stopped}
use Rattle.schedule_rules.specs.Schedule.{Judged}
use Rattle.schedule_rules.specs.Telling.{Telling, IsTold, lines_judged}
use Rattle.schedule_rules.specs.declared.halt.Halt.{Halt}
use Rattle.schedule_rules.specs.declared.halt.Halt.TheVariants as halt

-- the sink has a front of these lines more, and the others wait in the text
abbrev pub Wrote : Option (List ℕ) → Option (List ℕ) → List ℕ → List ℕ → Type 0
Wrote old new text lines = (sent : List ℕ) × Grew old new sent × (sent ++ text ≡ lines)

-- nothing is left, and all is written or waits
pub record HaltsWell (t : Telling) (j : Judged) (left old new : Option (List ℕ)) (text : List ℕ) : Type 0 where
  pub good : j.refused ≡ None
  pub is_left : left ≡ Some []
  pub all : List ℕ
  pub told : IsTold t j all
  pub wrote : Wrote old new text all

abbrev pub HaltsAt : Telling → Result (Unit {0}) Halt → Judged → Option (List ℕ) → Option (List ℕ) → Option (List ℕ) → List ℕ → Type 0
HaltsAt t (Ok u) j left old new text = HaltsWell t j left old new text
HaltsAt t (Err (halt.Refused refusal)) j left old new text = (j.refused ≡ Some refusal) × Wrote old new text (lines_judged t j.config j.history)
HaltsAt t (Err halt.SourceFailed) j left old new text = (config : Option FabricConfig) × (history : History) × Stopped j left config history × Wrote old new text (lines_judged t config history)
HaltsAt t (Err halt.OutOfMemory) j left old new text = GrewByFront old new (lines_judged t j.config j.history)
HaltsAt t (Err halt.SinkFailed) j left old new text = GrewByFront old new (lines_judged t j.config j.history)

-- the text was written in part and the rest waits, or a front of it was written before a refusal
abbrev pub Sends : Result (Unit {0}) EdgeRefusal → Option (List ℕ) → Option (List ℕ) → List ℕ → List ℕ → Type 0
Sends (Ok u) old new text rest = Wrote old new rest text
Sends (Err refusal) old new text rest = GrewByFront old new text

-- with so many bytes or more a text is full, and is written
abbrev pub full : ℕ
full = 65536

-- what waits once a full text was written: a short one waits on, and one that the sink refuses is left as it was
abbrev pub rest_after : Result (Unit {0}) EdgeRefusal → List ℕ → List ℕ
rest_after (Ok u) text = if nat_lt (length text) full then text else []
rest_after (Err refusal) text = text

-- what waited and the line of a status were written, with that status, or a front of them
abbrev pub WroteFault : Status → List ℕ → Status → Option (List ℕ) → Option (List ℕ) → ℕ → ℕ → Type 0
WroteFault wanted text ended old new before now =
    Written wanted (text ++ fault_line wanted) ended old new before now ⊎ ((ended ≡ status.OutOfMemory) × (new ≡ old))

-- the text has an ending more, or memory was short
abbrev pub EndsLines : Result (Unit {0}) Halt → Telling → FabricConfig → History → List ℕ → List ℕ → Type 0
EndsLines (Ok u) t c h old new = (ending : List ℕ) × (t.ends c h ending) × (new ≡ old ++ ending)
EndsLines (Err (halt.Refused refusal)) t c h old new = ⊥
EndsLines (Err halt.SourceFailed) t c h old new = ⊥
EndsLines (Err halt.OutOfMemory) t c h old new = Unit {0}
EndsLines (Err halt.SinkFailed) t c h old new = ⊥
