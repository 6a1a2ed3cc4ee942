use Rattle.std.proofs.Common.{◌≡◌, ◌++◌, ◌∙◌}
use Rattle.fabric_terms.specs.Sent.{from_all}
use Rattle.unit_manager.proofs.Firing.{few_next, fired_next}
use Rattle.unit_manager.proofs.manager_firing.fire_all.Goals as goal

pub loop-entry-preserved : goal.loop-entry-preserved
loop-entry-preserved c =
    let before = c.args.frames.now.items in
    let now = c.loop-entry.frames.items in
    let next = c.hand_over.new.frames.items in
    let behind : next ≡ now ++ from_all c.args.me c.fire.new.out =
    c.hand_over.ensures.frames in
    record {
      so_far = fired_next c.args.me c.args.reconfigs.now c.loop-entry.entry-index c.entry-item.result before now next c.loop-entry.out c.fire.new.out c.loop-entry-test.true c.entry-item.is c.loop-entry.invariant.so_far behind c.loop-entry.invariant.clear c.fire.ensures.sent;
      few = few_next c.args.me c.loop-entry.entry-index before now next c.loop-entry.out c.fire.new.out behind c.loop-entry.invariant.clear c.fire.ensures.few c.loop-entry.invariant.few;
      room = c.hand_over.ensures.room ∙ c.loop-entry.invariant.room;
      clear = c.hand_over.ensures.emptied;
    }
