use Rattle.std.proofs.Common.{◌≡◌, ap, sym, ◌∙◌}
use Rattle.std.specs.Iterator.Adapters.{zip_first, zip_second}
use Rattle.std.specs.Slice.Iter.{iter_rest}
use Rattle.std.proofs.lemmas.List.{length_push}
use Rattle.std.proofs.lemmas.Slice.Zip.{zip_end, zip_turn}
use Rattle.ring_world.proofs.Holders.{holders_are, holders_here}
use Rattle.ring_world.proofs.HolderLoop.{all_seen, gathered, is_next}
use Rattle.ring_world.proofs.world.World.holders.Goals as goal

pub loop-clock-preserved : goal.loop-clock-preserved
loop-clock-preserved c =
    let clocks = c.args.self.now.clocks.items in
    let nodes = c.args.self.now.running.items in
    let first : iter_rest (zip_first c.into_iter-clock-iterator.result) ≡ clocks = cc in
    let second : iter_rest (zip_second c.into_iter-clock-iterator.result) ≡ nodes = cc in
    let turn = zip_turn clocks nodes c.loop-clock.yielded c.into_iter-clock-iterator.result c.loop-clock.clock-iterator c.next.new.self c.next.result first second c.loop-clock.yielded_by (c.in-Some.clock, c.in-Some.running) c.in-Some.is c.next.ensures.steps in
    let next = is_next clocks nodes c.loop-clock.yielded (c.in-Some.clock, c.in-Some.running) turn in
    gathered clocks nodes _ _ (c.in-Some.clock.now, c.in-Some.running.now) (length_push c.loop-clock.yielded (c.in-Some.clock, c.in-Some.running)) next
    c.deref-in-loop-clock.result.now c.deref-in-loop-clock.ensures c.loop-clock.holders.items c.push_holder.new.holders.items c.loop-clock.invariant
    c.in_ok-push_holder.ensures

pub returns : goal.returns
returns c k h s =
    let clocks = c.args.self.now.clocks.items in
    let nodes = c.args.self.now.running.items in
    let first : iter_rest (zip_first c.into_iter-clock-iterator.result) ≡ clocks = cc in
    let second : iter_rest (zip_second c.into_iter-clock-iterator.result) ≡ nodes = cc in
    let end = zip_end clocks nodes c.loop-clock.yielded c.into_iter-clock-iterator.result c.loop-clock.clock-iterator c.next.new.self c.next.result first second c.loop-clock.yielded_by c.in-None.is c.next.ensures.steps in
    c.loop-clock.invariant ∙ (ap holders_here (all_seen clocks nodes c.loop-clock.yielded end) ∙ sym (holders_are c.args.self.now k h s))
