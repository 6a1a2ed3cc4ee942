use Rattle.edge_io.specs.Edge.{HasRisen}
use Rattle.schedule_rules.specs.Schedule.{judge}
use Rattle.schedule_replay.proofs.Words.{replay_writes}
use Rattle.schedule_replay.proofs.report_observer.replay.Goals as goal

pub returns-clause-written : goal.returns-clause-written
returns-clause-written g c bytes e =
    replay_writes c.run_schedule.result (judge bytes) (g.S.Source.left c.run_schedule.new.source) (HasRisen (g.S.Source.faults c.args.source.now) (g.S.Source.faults c.run_schedule.new.source)) (g.K.Sink.held c.args.sink.now) (g.K.Sink.held c.run_schedule.new.sink) (c.run_schedule.ensures.written bytes e)
