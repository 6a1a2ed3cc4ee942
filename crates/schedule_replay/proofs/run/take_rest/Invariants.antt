use Rattle.std.proofs.Common.{◌≤◌, []}
use Rattle.fabric_terms.specs.declared.config.FabricConfig.{FabricConfig}
use Rattle.schedule_replay.specs.Follows.{At}
use Rattle.schedule_replay.proofs.Along.{Along}
use Rattle.schedule_replay.proofs.run.take_rest.Given as goal

abbrev pub invariant-loop-number : goal.invariant-loop-number
invariant-loop-number g l = record {
  along : (c : FabricConfig) → At l.fn.world (g.T.RunObserver.knows l.fn.teller) c [] → Along g.T.RunObserver.telling c l.world (g.T.RunObserver.knows l.teller) l.number l.fn.reader.lines.waiting (g.S.Source.left l.fn.source) l.reader.lines.waiting (g.S.Source.left l.source) (g.K.Sink.held l.fn.sink) (g.K.Sink.held l.sink) l.text.items;
  source : g.S.Source.faults l.fn.source ≤ g.S.Source.faults l.source;
  sink : g.K.Sink.faults l.fn.sink ≤ g.K.Sink.faults l.sink;
}
