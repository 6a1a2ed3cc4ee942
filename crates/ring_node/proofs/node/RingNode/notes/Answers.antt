use Rattle.std.proofs.Common.{arith}
use Rattle.std.proofs.lemmas.List.{get_or_default}
use Rattle.ring_node.specs.Nodes.{step}
use Rattle.ring_node.proofs.Noted.{so_far_broken, so_far_more}
use Rattle.ring_node.proofs.node.RingNode.notes.Goals as goal

pub loop-note-preserved : goal.loop-note-preserved
loop-note-preserved c =
    let k = so_far_more c.args.cause.now c.args.notes.now c.loop-note.note-index _ (step c.args.self.now c.args.out.now c.args.told.now) (step c.loop-note.self c.loop-note.out c.loop-note.told) (step c.note.new.self c.note.new.out c.note.new.told) c.loop-note-test.true (get_or_default c.args.notes.now c.loop-note.note-index _ _ c.loop-note-test.true)
    (record { rest = c.loop-note.invariant.rest; settings = c.loop-note.invariant.settings; keeps = c.loop-note.invariant.keeps }) c.in-Ok.ensures.ok in
    record { rest = k.rest; settings = k.settings; keeps = k.keeps; few = omega arith; short = omega arith }

pub returns-in-Err-clause-err : goal.returns-in-Err-clause-err
returns-in-Err-clause-err c =
    so_far_broken c.args.cause.now c.args.notes.now c.loop-note.note-index _ (step c.args.self.now c.args.out.now c.args.told.now) (step c.loop-note.self c.loop-note.out c.loop-note.told) (step c.note.new.self c.note.new.out c.note.new.told) c.loop-note-test.true (get_or_default c.args.notes.now c.loop-note.note-index _ _ c.loop-note-test.true)
    (record { rest = c.loop-note.invariant.rest; settings = c.loop-note.invariant.settings; keeps = c.loop-note.invariant.keeps }) c.in-Err.ensures.err
