use Rattle.std.proofs.Common.{Some, ap, ◌∙◌}
use Rattle.edge_io.specs.Told.{Told}
use Rattle.fabric_turns.proofs.Coming.{ready_read}
use Rattle.fabric_turns.specs.Runs.{Run}
use Rattle.serve_turns.proofs.Begun.{never_falls, node_starts}
use Rattle.serve_turns.proofs.start.begin_node.Goals as goal

pub returns-in-Err-clause-done : goal.returns-in-Err-clause-done
returns-in-Err-clause-done g c = never_falls c.args.run.now c.read_clock.new.run _ _ c.in-Err.stop c.requires.nobody c.in-Err.ensures.reads

pub returns-in-Ok-clause-done : goal.returns-in-Ok-clause-done
returns-in-Ok-clause-done g c = λ records a h is t. (
  Some c.in-Ok.field-0,
  c.join.ensures.done records a h _ _ is
      (node_starts c.args.service.now.plan records a _ _ c.args.run.now c.read_clock.new.run h c.in-Ok.field-0 c.requires.node c.requires.service.alone c.requires.nobody t c.in-Ok.ensures.reads),
)

pub join-requires-clause-ready : goal.join-requires-clause-ready
join-requires-clause-ready g c = ready_read c.args.service.now.plan c.args.run.now c.read_clock.new.run _ _ c.in-Ok.field-0 c.requires.ready c.in-Ok.ensures.reads

pub join-requires-clause-nobody : goal.join-requires-clause-nobody
join-requires-clause-nobody g c = ap (λ (r : Run). r.members) c.in-Ok.ensures.reads.now ∙ ap (λ (r : Run). r.members) c.requires.nobody

pub join-requires-clause-silent : goal.join-requires-clause-silent
join-requires-clause-silent g c = ap (λ (t : Told). t.held) c.in-Ok.ensures.reads.clock.rest ∙ c.requires.silent
