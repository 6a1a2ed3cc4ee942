use Rattle.std.proofs.Common.{refl}
use Rattle.fabric_top.specs.CrewRuns.{failed, short}
use Rattle.edge_io.specs.Told.{Loans}
use Rattle.fabric_top.proofs.CrewCauses.{crew_ran, crew_refused, crew_run}
use Rattle.fabric_top.proofs.crew_run.run_crew.Goals as goal

pub returns-in-Err-SourceFailed-clause-run : goal.returns-in-Err-SourceFailed-clause-run
returns-in-Err-SourceFailed-clause-run g c =
    let loans : Loans = record { sink = c.args.devices.now.sink.ghost_name; links = c.args.devices.now.links.ghost_name; keeps = c.args.devices.now.keeps.ghost_name; clock = c.args.devices.now.clock.ghost_name } in
    (loans, crew_run _ _ _ _ _ (failed (c.read_plan.ensures.cause.failed search) (record { wrote = c.write_last.ensures; rest = refl })))

pub returns-in-Err-OutOfMemory-clause-run : goal.returns-in-Err-OutOfMemory-clause-run
returns-in-Err-OutOfMemory-clause-run g c =
    let loans : Loans = record { sink = c.args.devices.now.sink.ghost_name; links = c.args.devices.now.links.ghost_name; keeps = c.args.devices.now.keeps.ghost_name; clock = c.args.devices.now.clock.ghost_name } in
    (loans, crew_run _ _ _ _ _ (short refl refl))

pub returns-in-Err-Refused-clause-run : goal.returns-in-Err-Refused-clause-run
returns-in-Err-Refused-clause-run g c =
    let loans : Loans = record { sink = c.args.devices.now.sink.ghost_name; links = c.args.devices.now.links.ghost_name; keeps = c.args.devices.now.keeps.ghost_name; clock = c.args.devices.now.clock.ghost_name } in
    let defines = rw c.in-Err-Refused.field-0-is at c.in-Err-Refused.ensures.plan in
    (loans, crew_refused _ _ _ _ _ c.in-Err-Refused.refusal defines (record { wrote = c.refuse.ensures; rest = refl }))

pub returns-in-Ok-clause-run : goal.returns-in-Ok-clause-run
returns-in-Ok-clause-run g c =
    let runs = c.run_on.ensures in
    (runs.0, crew_ran _ _ _ _ _ c.in-Ok.plan c.in-Ok.ensures.plan.0 c.in-Ok.ensures.plan.1 runs.1)
