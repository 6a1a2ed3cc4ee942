use Rattle.std.proofs.Common.{refl}
use Rattle.edge_io.specs.Told.{Loans}
use Rattle.fabric_top.proofs.Clusters.{cluster_runs}
use Rattle.fabric_top.proofs.Safe.{accepted_is_safe}
use Rattle.fabric_top.proofs.Statuses.{never_usage}
use Rattle.fabric_top.proofs.forms.run_form.Goals as goal
use Rattle.schedule_generate.specs.Statuses.{may_end_generate}
use Rattle.schedule_replay.specs.Statuses.{may_end_replay}
use Rattle.transcript_audit.specs.Statuses.{may_end_audit}

pub returns-in-Replay-clause-does : goal.returns-in-Replay-clause-does
returns-in-Replay-clause-does g c =
    let loans : Loans = record { sink = c.args.devices.now.sink.ghost_name; links = c.args.devices.now.links.ghost_name; keeps = c.args.devices.now.keeps.ghost_name; clock = c.args.devices.now.clock.ghost_name } in
    (loans, rw c.in-Replay.is (record { replays = c.replay_source.ensures; rest = refl }))

pub returns-in-Node-clause-does : goal.returns-in-Node-clause-does
returns-in-Node-clause-does g c = let runs = c.run_actors.ensures.run in (runs.0, rw c.in-Node.is runs.1)

pub returns-in-Arbiter-clause-does : goal.returns-in-Arbiter-clause-does
returns-in-Arbiter-clause-does g c = let runs = c.run_actors-in-Arbiter.ensures.run in (runs.0, rw c.in-Arbiter.is runs.1)

pub returns-in-Cluster-clause-does : goal.returns-in-Cluster-clause-does
returns-in-Cluster-clause-does g c = let runs = c.run_actors-in-Cluster.ensures.run in (runs.0, rw c.in-Cluster.is (cluster_runs _ _ _ _ runs.1))

pub returns-in-Trace-clause-does : goal.returns-in-Trace-clause-does
returns-in-Trace-clause-does g c =
    let loans : Loans = record { sink = c.args.devices.now.sink.ghost_name; links = c.args.devices.now.links.ghost_name; keeps = c.args.devices.now.keeps.ghost_name; clock = c.args.devices.now.clock.ghost_name } in
    (loans, rw c.in-Trace.is (record { traces = c.trace_source.ensures; rest = refl }))

pub returns-in-Audit-clause-does : goal.returns-in-Audit-clause-does
returns-in-Audit-clause-does g c =
    let loans : Loans = record { sink = c.args.devices.now.sink.ghost_name; links = c.args.devices.now.links.ghost_name; keeps = c.args.devices.now.keeps.ghost_name; clock = c.args.devices.now.clock.ghost_name } in
    (loans, rw c.in-Audit.is (record { audits = c.audit_source.ensures; rest = refl }))

pub returns-in-Writes-clause-does : goal.returns-in-Writes-clause-does
returns-in-Writes-clause-does g c =
    let loans : Loans = record { sink = c.args.devices.now.sink.ghost_name; links = c.args.devices.now.links.ghost_name; keeps = c.args.devices.now.keeps.ghost_name; clock = c.args.devices.now.clock.ghost_name } in
    (loans, rw c.in-Writes.is (record { writes = c.writes_source.ensures; rest = refl }))

pub returns-in-Generate-clause-does : goal.returns-in-Generate-clause-does
returns-in-Generate-clause-does g c =
    let loans : Loans = record { sink = c.args.devices.now.sink.ghost_name; links = c.args.devices.now.links.ghost_name; keeps = c.args.devices.now.keeps.ghost_name; clock = c.args.devices.now.clock.ghost_name } in
    (loans, rw c.in-Generate.is (record { made = c.generate_schedule.ensures; safe = accepted_is_safe _; rest = refl }))

pub returns-in-Drill-clause-does : goal.returns-in-Drill-clause-does
returns-in-Drill-clause-does g c =
    let loans : Loans = record { sink = c.args.devices.now.sink.ghost_name; links = c.args.devices.now.links.ghost_name; keeps = c.args.devices.now.keeps.ghost_name; clock = c.args.devices.now.clock.ghost_name } in
    (loans, rw c.in-Drill.is (record { made = c.drill_schedule.ensures; safe = accepted_is_safe _; rest = refl }))

pub returns-in-Replay-clause-usage : goal.returns-in-Replay-clause-usage
returns-in-Replay-clause-usage g c = never_usage may_end_replay c.replay_source.result c.replay_source.ensures.statuses refl

pub returns-in-Trace-clause-usage : goal.returns-in-Trace-clause-usage
returns-in-Trace-clause-usage g c = never_usage may_end_replay c.trace_source.result c.trace_source.ensures.statuses refl

pub returns-in-Audit-clause-usage : goal.returns-in-Audit-clause-usage
returns-in-Audit-clause-usage g c = never_usage may_end_audit c.audit_source.result c.audit_source.ensures.statuses refl

pub returns-in-Writes-clause-usage : goal.returns-in-Writes-clause-usage
returns-in-Writes-clause-usage g c = never_usage may_end_replay c.writes_source.result c.writes_source.ensures.statuses refl

pub returns-in-Generate-clause-usage : goal.returns-in-Generate-clause-usage
returns-in-Generate-clause-usage g c = never_usage may_end_generate c.generate_schedule.result c.generate_schedule.ensures.statuses refl

pub returns-in-Drill-clause-usage : goal.returns-in-Drill-clause-usage
returns-in-Drill-clause-usage g c = never_usage may_end_generate c.drill_schedule.result c.drill_schedule.ensures.statuses refl
