use Rattle.std.proofs.Common.{ap}
use Rattle.edge_io.specs.Edge.{HasRisen}
use Rattle.schedule_rules.specs.Schedule.{judge}
use Rattle.write_safety.specs.Books.{entries_of}
use Rattle.schedule_writes.proofs.Words.{committed_writes, is_done}
use Rattle.schedule_writes.proofs.committed.writes.Goals as goal

pub run_schedule-requires : goal.run_schedule-requires
run_schedule-requires g c = λ config p d. ap (entries_of p d) c.new.ensures

pub returns-clause-written : goal.returns-clause-written
returns-clause-written g c bytes e =
    committed_writes c.run_schedule.result (judge bytes) (g.S.Source.left c.run_schedule.new.source) (HasRisen (g.S.Source.faults c.args.source.now) (g.S.Source.faults c.run_schedule.new.source)) (g.K.Sink.held c.args.sink.now) (g.K.Sink.held c.run_schedule.new.sink) (c.run_schedule.ensures.written bytes e)

pub returns-clause-complete : goal.returns-clause-complete
returns-clause-complete g c bytes e none source sink =
    is_done c.run_schedule.result (judge bytes) _ _ _ _
    (committed_writes c.run_schedule.result (judge bytes) (g.S.Source.left c.run_schedule.new.source) (HasRisen (g.S.Source.faults c.args.source.now) (g.S.Source.faults c.run_schedule.new.source)) (g.K.Sink.held c.args.sink.now) (g.K.Sink.held c.run_schedule.new.sink) (c.run_schedule.ensures.written bytes e))
    none (λ r. source (c.run_schedule.ensures.read_fault r)) (λ w. sink (c.run_schedule.ensures.write_fault w))
