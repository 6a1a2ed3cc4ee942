-- Where memory is out before a command begins, no device is used, and each command may end so.
use Rattle.std.proofs.Common.{◌≢◌, ℕ, Option, Some, None, inl, inr, refl}
use Rattle.fabric_top.specs.declared.form.Form.{Form}
use Rattle.fabric_top.specs.declared.form.Form.TheVariants as form
use Rattle.fabric_top.specs.CrewCauses.{IsCrewRun}
use Rattle.fabric_top.specs.CrewRuns.{Seen, short}
use Rattle.fabric_status.specs.declared.status.Status.TheVariants as status
use Rattle.schedule_generate.proofs.Closing.{nothing_sent}
use Rattle.schedule_generate.specs.Texts.{Writing, drill_writing, generate_writing}
use Rattle.schedule_rules.proofs.Fronts.{grew_none}
use Rattle.schedule_rules.specs.Endings.{accepted}
use Rattle.transcript_audit.specs.Audits.{nothing}
use Rattle.turn_plans.specs.declared.crew.Crew.{Crew}
use Rattle.turn_plans.specs.declared.crew.Crew.TheVariants as crew
use Rattle.fabric_top.specs.Auditing.{IsAudit}
use Rattle.fabric_top.specs.Generating.{Generates}
use Rattle.fabric_top.specs.Replaying.{IsReplay}
use Rattle.fabric_top.specs.Top.{Does}
use Rattle.fabric_top.specs.Tracing.{IsTrace}
use Rattle.fabric_top.specs.Writing.{IsWrites}
use Rattle.fabric_top.proofs.Clusters.{cluster_runs}
use Rattle.fabric_top.proofs.Safe.{accepted_is_safe}

no_replay : (a : Seen) → IsReplay a status.OutOfMemory a
no_replay a = record {
  replays = record { read = λ e. cc; written = λ bytes left. accepted (nothing_sent a.told.held _); statuses = refl; read_fault = λ e. cc; write_fault = λ e. cc; complete = λ bytes left good source sink. inr refl };
  rest = refl;
}

no_trace : (a : Seen) → IsTrace a status.OutOfMemory a
no_trace a = record {
  traces = record { read = λ e. cc; written = λ bytes left. accepted (nothing_sent a.told.held _); statuses = refl; read_fault = λ e. cc; write_fault = λ e. cc; complete = λ bytes left good source sink. inr refl };
  rest = refl;
}

no_writes : (a : Seen) → IsWrites a status.OutOfMemory a
no_writes a = record {
  writes = record { read = λ e. cc; written = λ bytes left. accepted (nothing_sent a.told.held _); statuses = refl; read_fault = λ e. cc; write_fault = λ e. cc; complete = λ bytes left good source sink. inr refl };
  rest = refl;
}

no_audit : (a : Seen) → IsAudit a status.OutOfMemory a
no_audit a = record {
  audits = record { read = λ e. cc; written = λ bytes left. nothing (grew_none a.told.held); statuses = refl; read_fault = λ e. cc; write_fault = λ e. cc; complete = λ bytes groups left good source sink. inr refl };
  rest = refl;
}

no_made : (writing : ℕ → Writing) (seed nodes rounds : ℕ) (a : Seen) → Generates writing seed nodes rounds a status.OutOfMemory a
no_made writing seed nodes rounds a = record {
  made = record { wrote = inr (inl (refl, nothing_sent a.told.held _)); judged = λ settled. absurd settled; statuses = refl };
  safe = accepted_is_safe _;
  rest = refl;
}

no_crew : (crew : Crew) (turns : ℕ) (a : Seen) → IsCrewRun crew turns a status.OutOfMemory a
no_crew crew turns a = record {
  runs = short refl refl;
  cause = tt;
  read = λ e. cc;
  refused = λ bytes refusal left bad source sink. inr refl;
  complete = λ bytes plan left good source no_fault opened bad. tt;
  bad = λ bytes plan left good source tells i bad. (tt, refl);
}

-- words that are a form: their command may end so
pub no_memory : (o : Option Form) (a : Seen) → o ≢ None → Does o a status.OutOfMemory a
no_memory None a is = absurd (is refl)
no_memory (Some form.Replay) a is = no_replay a
no_memory (Some form.Trace) a is = no_trace a
no_memory (Some form.Audit) a is = no_audit a
no_memory (Some form.Writes) a is = no_writes a
no_memory (Some (form.Node node turns)) a is = no_crew (crew.Node node) turns a
no_memory (Some (form.Arbiter arbiter turns)) a is = no_crew (crew.Arbiter arbiter) turns a
no_memory (Some (form.Cluster turns)) a is = cluster_runs turns a status.OutOfMemory a (no_crew crew.Cluster turns a)
no_memory (Some (form.Generate seed nodes rounds)) a is = no_made generate_writing seed nodes rounds a
no_memory (Some (form.Drill seed nodes rounds)) a is = no_made drill_writing seed nodes rounds a
