use Rattle.std.proofs.Common.{◌≡◌, ℕ, arith, ap, refl, sym, subst, ◌∙◌, length, get_or, Some}
use Rattle.node_core.specs.NodeEffects.{left_in}
use Rattle.node_core.specs.Nodes.{Core, IsSmall, most_frames}
use Rattle.node_core.specs.declared.outcome.Outcome.{Outcome}
use Rattle.ring_points.specs.declared.who.Who.{Who}
use Rattle.std.specs.Box.{with_value}
use Rattle.std.specs.Vec.{with_item}
use Rattle.std.proofs.lemmas.Result.{err_from_is_err_and}
use Rattle.ring_world.specs.Commits.{numbers_after}
use Rattle.ring_world.specs.Seen.{Seen}
use Rattle.ring_world.specs.Moves.{placed_by}
use Rattle.ring_world.specs.declared.running.Running.{Running}
use Rattle.ring_world.specs.declared.world.World.{World}
use Rattle.ring_world.proofs.NodePlaces.{placed, read_at}
use Rattle.ring_world.proofs.Beside.{outcome, taken_out}
use Rattle.ring_world.proofs.NodeStep.{NodeDid, put_back, sends_sound, moves_next, seen_committed}
use Rattle.ring_world.proofs.world.World.step_with.Goals as goal

pub index-requires : goal.index-requires
index-requires c =
    let can = c.requires.can in
    let here = placed c.args.self.now can.0 c.args.place can.2.node can.2.state can.1 can.2.here in
    omega (arith, here.within)

pub index-requires-2 : goal.index-requires-2
index-requires-2 c =
    let can = c.requires.can in
    let here = placed c.args.self.now can.0 c.args.place can.2.node can.2.state can.1 can.2.here in
    rw c.make_room.ensures.rest (omega (arith, here.clock_within))

pub index_mut-running-requires : goal.index_mut-running-requires
index_mut-running-requires c =
    let can = c.requires.can in
    let here = placed c.args.self.now can.0 c.args.place can.2.node can.2.state can.1 can.2.here in
    rw c.make_room.ensures.rest (omega (arith, here.within))

pub step_into-requires-clause-now : goal.step_into-requires-clause-now
step_into-requires-clause-now c =
    let can = c.requires.can in
    let s = can.2.state in
    let here = placed c.args.self.now can.0 c.args.place can.2.node s can.1 can.2.here in
    let k = c.index-2.result.now in
    let read : k ≡ get_or c.args.self.now.clocks.items c.args.place k = rw c.make_room.ensures.rest at c.index-2.ensures in
    let is : k.1 ≡ s.reading = ap (λ (q : Who × ℕ). q.1) (read_at c.args.self.now.clocks.items c.args.place (s.node.ring.me, s.reading) k here.clock read) in
    omega (arith, here.runs.reading)

pub commit-requires-clause-small : goal.commit-requires-clause-small
commit-requires-clause-small c =
    let o = outcome c.step_into.new.effects.records.items c.frames.result.now c.take_reports-reports.result in
    let same : o ≡ left_in c.step_into.new.effects = taken_out c.step_into.new.effects c.take_reports-reports.new.self c.frames.result.now c.take_reports-reports.result c.frames.ensures c.take_reports-reports.ensures.rest c.take_reports-reports.ensures.taken in
    let small : IsSmall c.deref_mut.result.now.state o = subst (λ (x : Outcome). IsSmall c.deref_mut.result.now.state x) (sym same) c.in_ok-step_into.ensures.small in
    rw c.make_room.ensures.rest (omega (arith, small.limit, c.requires.frames))

pub commit-requires-clause-frames : goal.commit-requires-clause-frames
commit-requires-clause-frames c =
    let can = c.requires.can in
    let a = c.args.self.now in
    let here = placed a can.0 c.args.place can.2.node can.2.state can.1 can.2.here in
    let r = c.index_mut-running.result.now in
    let read : r ≡ get_or a.running.items c.args.place r = rw c.make_room.ensures.rest at c.index_mut-running.ensures.value in
    let same : c.index.result.now ≡ r = read_at a.running.items c.args.place here.code c.index.result.now here.here c.index.ensures ∙ sym (read_at a.running.items c.args.place here.code r here.here read) in
    let node : c.deref.result.now ≡ c.deref_mut.result.now = c.deref.ensures ∙ (ap (λ (q : Running). q.node.value) same ∙ sym c.deref_mut.ensures.value) in
    let most : c.most_frames-most.result ≡ most_frames c.deref_mut.result.now.state = c.most_frames-most.ensures.frames ∙ ap (λ (q : Core). most_frames q.state) node in
    let o = outcome c.step_into.new.effects.records.items c.frames.result.now c.take_reports-reports.result in
    let left : o ≡ left_in c.step_into.new.effects = taken_out c.step_into.new.effects c.take_reports-reports.new.self c.frames.result.now c.take_reports-reports.result c.frames.ensures c.take_reports-reports.ensures.rest c.take_reports-reports.ensures.taken in
    let small : IsSmall c.deref_mut.result.now.state o = subst (λ (x : Outcome). IsSmall c.deref_mut.result.now.state x) (sym left) c.in_ok-step_into.ensures.small in
    omega (arith, most, small.frames, c.in_ok-make_room.ensures.frames)

pub commit-requires-clause-sound : goal.commit-requires-clause-sound
commit-requires-clause-sound c =
    let can = c.requires.can in
    let a = c.args.self.now in
    let r = c.index_mut-running.result.now in
    let k = c.index-2.result.now in
    let old = c.deref_mut.result.now in
    let node : r ≡ get_or a.running.items c.args.place r = rw c.make_room.ensures.rest at c.index_mut-running.ensures.value in
    let clock : k ≡ get_or a.clocks.items c.args.place k = rw c.make_room.ensures.rest at c.index-2.ensures in
    let o = outcome c.step_into.new.effects.records.items c.frames.result.now c.take_reports-reports.result in
    let left : o ≡ left_in c.step_into.new.effects = taken_out c.step_into.new.effects c.take_reports-reports.new.self c.frames.result.now c.take_reports-reports.result c.frames.ensures c.take_reports-reports.ensures.rest c.take_reports-reports.ensures.taken in
    let ok = c.in_ok-step_into.ensures in
    let did : NodeDid old c.args.input.now k.1 c.step_into.new.self o = subst (λ (x : Outcome). NodeDid old c.args.input.now k.1 c.step_into.new.self x) (sym left) (record { does = ok.does; settings = ok.settings; domains = ok.domains; me = ok.me; small = ok.small }) in
    sends_sound a can.0 c.args.place can.2.node can.2.state c.args.input.now r k old c.step_into.new.self o can.1 can.2.here
    (record { is_node = node; is_clock = clock; inside = c.deref_mut.ensures.value }) c.requires.input did can.2.sound

pub returns-in_err-step_into : goal.returns-in_err-step_into
returns-in_err-step_into c w node s st here there =
    let p = err_from_is_err_and c.from_residual-in_err-step_into.result c.from_residual-in_err-step_into.ensures.1 in
    rw p.1 (put_back c.args.self.now c.make_room.new.self c.args.place c.index_mut-running.result.now c.deref_mut.result.now c.step_into.new.self c.make_room.ensures.same
    c.index_mut-running.ensures.value c.deref_mut.ensures.value c.in_err-step_into.ensures.refused.0)

pub returns : goal.returns
returns c w node s st here there =
    let a = c.args.self.now in
    let r = c.index_mut-running.result.now in
    let k = c.index-2.result.now in
    let old = c.deref_mut.result.now in
    let is_node : r ≡ get_or a.running.items c.args.place r = rw c.make_room.ensures.rest at c.index_mut-running.ensures.value in
    let is_clock : k ≡ get_or a.clocks.items c.args.place k = rw c.make_room.ensures.rest at c.index-2.ensures in
    let q : Running = record { drift = r.drift; node = with_value r.node c.step_into.new.self } in
    let o = outcome c.step_into.new.effects.records.items c.frames.result.now c.take_reports-reports.result in
    let left : o ≡ left_in c.step_into.new.effects = taken_out c.step_into.new.effects c.take_reports-reports.new.self c.frames.result.now c.take_reports-reports.result c.frames.ensures c.take_reports-reports.ensures.rest c.take_reports-reports.ensures.taken in
    let ok = c.in_ok-step_into.ensures in
    let did : NodeDid old c.args.input.now k.1 c.step_into.new.self o = subst (λ (x : Outcome). NodeDid old c.args.input.now k.1 c.step_into.new.self x) (sym left) (record { does = ok.does; settings = ok.settings; domains = ok.domains; me = ok.me; small = ok.small }) in
    moves_next a w c.args.place node s c.args.input.now r k old c.step_into.new.self o st here
    (record { is_node = is_node; is_clock = is_clock; inside = c.deref_mut.ensures.value }) c.requires.input did
    c.commit.new.self q c.args.line c.commit.result refl refl c.requires.events c.requires.frames
    (seen_committed a c.make_room.new.self c.commit.new.self (with_item c.make_room.new.self.running c.args.place q) c.args.place q o c.make_room.ensures.same
    (ap (λ (m : World). m.running) c.make_room.ensures.rest) refl c.commit.ensures.rest c.commit.ensures.frames)
    (λ p lt. c.commit.ensures.places p lt ∙ ap (λ x. placed_by k.0 o.reports p x) (c.make_room.ensures.same.places p lt))
    (c.commit.ensures.acted ∙ ap (λ (x : Seen). record { line = c.args.line; time = x.time; who = k.0; reading = Some k.1; sent = numbers_after x.sent (length o.frames); reports = o.reports }) c.make_room.ensures.same.seen)
