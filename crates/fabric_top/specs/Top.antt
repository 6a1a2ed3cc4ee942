-- What the top call does.
use Rattle.std.specs.Prelude.{Option, Some, None}
use Rattle.fabric_top.specs.declared.form.Form.{Form}
use Rattle.fabric_top.specs.declared.form.Form.TheVariants as form
use Rattle.fabric_top.specs.CrewCauses.{IsCrewRun}
use Rattle.fabric_top.specs.CrewRuns.{Seen}
use Rattle.fabric_status.specs.declared.status.Status.{Status}
use Rattle.schedule_generate.specs.Texts.{drill_writing, generate_writing}
use Rattle.turn_plans.specs.declared.crew.Crew.TheVariants as crew
use Rattle.fabric_top.specs.Auditing.{IsAudit}
use Rattle.fabric_top.specs.Clusters.{RunsCluster}
use Rattle.fabric_top.specs.Generating.{Generates}
use Rattle.fabric_top.specs.Replaying.{IsReplay}
use Rattle.fabric_top.specs.Tracing.{IsTrace}
use Rattle.fabric_top.specs.Using.{IsUsage}
use Rattle.fabric_top.specs.Writing.{IsWrites}

-- What each command does to the devices, and how it ends. Words that are none of the forms are Usage.
abbrev pub Does : Option Form → Seen → Status → Seen → Type 0
Does None a ended c = IsUsage a ended c
Does (Some form.Replay) a ended c = IsReplay a ended c
Does (Some form.Trace) a ended c = IsTrace a ended c
Does (Some form.Audit) a ended c = IsAudit a ended c
Does (Some form.Writes) a ended c = IsWrites a ended c
Does (Some (form.Node node turns)) a ended c = IsCrewRun (crew.Node node) turns a ended c
Does (Some (form.Arbiter arbiter turns)) a ended c = IsCrewRun (crew.Arbiter arbiter) turns a ended c
Does (Some (form.Cluster turns)) a ended c = RunsCluster turns a ended c
Does (Some (form.Generate seed nodes rounds)) a ended c = Generates generate_writing seed nodes rounds a ended c
Does (Some (form.Drill seed nodes rounds)) a ended c = Generates drill_writing seed nodes rounds a ended c
