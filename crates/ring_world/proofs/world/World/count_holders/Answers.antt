use Rattle.std.proofs.Common.{◌≡◌, ◌+◌, Bool, true, false, cond, ap, sym, ◌∙◌, ◌∷◌, [], ◌++◌, arith, length, take}
use Rattle.std.specs.Iterator.Adapters.{zip_first, zip_second}
use Rattle.std.specs.List.{zip}
use Rattle.std.specs.Slice.Iter.{iter_rest}
use Rattle.std.proofs.lemmas.List.{length_push}
use Rattle.std.proofs.lemmas.Slice.Zip.{zip_end, zip_turn}
use Rattle.unit_rules.specs.Fabric.{fabric}
use Rattle.world_rules.specs.Runs.{run_of}
use Rattle.ring_world.proofs.Holders.{few_clocks, holders_are, holders_counted, holders_here}
use Rattle.ring_world.proofs.HolderLoop.{all_seen, counted, is_next, no_more}
use Rattle.ring_world.proofs.world.World.count_holders.Goals as goal
use Rattle.ring_world.proofs.world.World.count_holders.Goals.{After-holds}

-- how many holders there are with this one
turn : (c : After-holds) (b : Bool) → c.holds.result ≡ b
    → length (holders_here (take (length (c.loop-clock.yielded ++ (c.in-Some.clock, c.in-Some.running) ∷ [])) (zip c.args.self.now.clocks.items c.args.self.now.running.items)))
    ≡ length (holders_here (take (length c.loop-clock.yielded) (zip c.args.self.now.clocks.items c.args.self.now.running.items))) + cond b 1 0
turn c b held =
    let clocks = c.args.self.now.clocks.items in
    let nodes = c.args.self.now.running.items in
    let first : iter_rest (zip_first c.into_iter-clock-iterator.result) ≡ clocks = cc in
    let second : iter_rest (zip_second c.into_iter-clock-iterator.result) ≡ nodes = cc in
    let turn = zip_turn clocks nodes c.loop-clock.yielded c.into_iter-clock-iterator.result c.loop-clock.clock-iterator c.next.new.self c.next.result first second c.loop-clock.yielded_by (c.in-Some.clock, c.in-Some.running) c.in-Some.is c.next.ensures.steps in
    counted clocks nodes _ _ (c.in-Some.clock.now, c.in-Some.running.now) (length_push c.loop-clock.yielded (c.in-Some.clock, c.in-Some.running))
    (is_next clocks nodes c.loop-clock.yielded (c.in-Some.clock, c.in-Some.running) turn) c.deref-in-loop-clock.result.now c.deref-in-loop-clock.ensures b (sym held ∙ c.holds.ensures)

pub loop-clock-preserved : goal.loop-clock-preserved
loop-clock-preserved c few =
    let more = turn (goal.at.loop-clock-preserved c).After-holds false c.if-holds.false in
    let before = c.loop-clock.invariant few in
    omega arith

pub loop-clock-preserved-then-holds : goal.loop-clock-preserved-then-holds
loop-clock-preserved-then-holds c few =
    let more = turn (goal.at.loop-clock-preserved-then-holds c).After-holds true c.if-holds.true in
    let before = c.loop-clock.invariant few in
    let most = no_more c.args.self.now.clocks.items c.args.self.now.running.items (length (c.loop-clock.yielded ++ (c.in-Some.clock, c.in-Some.running) ∷ [])) in
    omega (arith, c.saturating_add-count.ensures)

pub returns : goal.returns
returns c k h s =
    let clocks = c.args.self.now.clocks.items in
    let nodes = c.args.self.now.running.items in
    let first : iter_rest (zip_first c.into_iter-clock-iterator.result) ≡ clocks = cc in
    let second : iter_rest (zip_second c.into_iter-clock-iterator.result) ≡ nodes = cc in
    let end = zip_end clocks nodes c.loop-clock.yielded c.into_iter-clock-iterator.result c.loop-clock.clock-iterator c.next.new.self c.next.result first second c.loop-clock.yielded_by c.in-None.is c.next.ensures.steps in
    let few = few_clocks c.args.self.now k h s in
    c.loop-clock.invariant few
    ∙ (ap (λ x. length (holders_here x)) (all_seen clocks nodes c.loop-clock.yielded end)
    ∙ sym (holders_counted (run_of fabric k h) ∙ ap (λ x. length x) (holders_are c.args.self.now k h s)))
