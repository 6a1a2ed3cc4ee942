use Rattle.std.proofs.Common.{◌≡◌, ℕ, ◌<◌, List, length, Some, refl, sym, ap, subst, ◌∙◌, arith, get_or}
use Rattle.std.proofs.lemmas.Result.{err_from_is_err_and}
use Rattle.fabric_terms.specs.declared.message.Message.{Message}
use Rattle.ring_points.specs.declared.who.Who.{Who}
use Rattle.std.specs.Prelude.{insert, slice_set}
use Rattle.std.specs.Vec.{with_item}
use Rattle.point_places.specs.Spots.{place_at}
use Rattle.node_core.specs.Nodes.{Core}
use Rattle.node_core.specs.declared.kept.NodeKept.{NodeKept}
use Rattle.node_core.specs.declared.outcome.Outcome.{Outcome}
use Rattle.ring_world.specs.Starts.{Begins, place_for}
use Rattle.ring_world.specs.Commits.{numbers_after}
use Rattle.ring_world.specs.Moves.{placed_by}
use Rattle.ring_world.specs.declared.running.Running.{Running}
use Rattle.ring_world.proofs.NodeStart.{begin_moves, begun_from, frames_none, place_fits_in, put_kept_back, seen_entered}
use Rattle.ring_world.proofs.world.World.enter.Goals as goal

pub index_mut-kept-requires : goal.index_mut-kept-requires
index_mut-kept-requires c =
    let can = c.requires.can in
    omega (arith, can.1.nodes.kept.table, c.from.ensures, c.requires.node)

pub put_in-requires-2-clause-place : goal.put_in-requires-2-clause-place
put_in-requires-2-clause-place c =
    let can = c.requires.can in
    let p = place_fits_in c.args.self.now can.0 c.args.node can.1 in
    let e = c.place_for-place.ensures.place ∙ ap (λ (ks : List (Who × ℕ)). place_for c.args.node ks) c.deref-2.ensures.value in
    omega (arith, e)

pub commit-requires-clause-small : goal.commit-requires-clause-small
commit-requires-clause-small c =
    let can = c.requires.can in
    let n : length c.in_ok-core.outcome.frames ≡ 0 = ap (λ (fs : List Message). length fs) (frames_none c.args.self.now can.0 c.args.node c.in_ok-core.core.value c.in_ok-core.outcome can.1 can.2
    (begun_from c.args.self.now c.args.node c.index_mut-kept.result.now (omega (arith, can.1.nodes.kept.table, c.requires.node)) (c.index_mut-kept.ensures.value ∙ ap (λ (i : ℕ). get_or c.args.self.now.kept.items i c.index_mut-kept.result.now) c.from.ensures)
    c.in_ok-core.core.value c.in_ok-core.outcome c.in_ok-core.ensures.begins c.in_ok-core.ensures.goes_by c.in_ok-core.ensures.small)) in
    let handed : length c.as_slice.result.now ≡ length c.in_ok-core.outcome.frames = ap (λ (fs : List Message). length fs) c.as_slice.ensures in
    omega (arith, n, handed, c.requires.sent)

pub commit-requires-clause-frames : goal.commit-requires-clause-frames
commit-requires-clause-frames c =
    let can = c.requires.can in
    let n : length c.in_ok-core.outcome.frames ≡ 0 = ap (λ (fs : List Message). length fs) (frames_none c.args.self.now can.0 c.args.node c.in_ok-core.core.value c.in_ok-core.outcome can.1 can.2
    (begun_from c.args.self.now c.args.node c.index_mut-kept.result.now (omega (arith, can.1.nodes.kept.table, c.requires.node)) (c.index_mut-kept.ensures.value ∙ ap (λ (i : ℕ). get_or c.args.self.now.kept.items i c.index_mut-kept.result.now) c.from.ensures)
    c.in_ok-core.core.value c.in_ok-core.outcome c.in_ok-core.ensures.begins c.in_ok-core.ensures.goes_by c.in_ok-core.ensures.small)) in
    let handed : length c.as_slice.result.now ≡ length c.in_ok-core.outcome.frames = ap (λ (fs : List Message). length fs) c.as_slice.ensures in
    omega (arith, n, handed)

pub commit-requires-clause-sound : goal.commit-requires-clause-sound
commit-requires-clause-sound c k d lt =
    let can = c.requires.can in
    let n : length c.in_ok-core.outcome.frames ≡ 0 = ap (λ (fs : List Message). length fs) (frames_none c.args.self.now can.0 c.args.node c.in_ok-core.core.value c.in_ok-core.outcome can.1 can.2
    (begun_from c.args.self.now c.args.node c.index_mut-kept.result.now (omega (arith, can.1.nodes.kept.table, c.requires.node)) (c.index_mut-kept.ensures.value ∙ ap (λ (i : ℕ). get_or c.args.self.now.kept.items i c.index_mut-kept.result.now) c.from.ensures)
    c.in_ok-core.core.value c.in_ok-core.outcome c.in_ok-core.ensures.begins c.in_ok-core.ensures.goes_by c.in_ok-core.ensures.small)) in
    let handed : length c.as_slice.result.now ≡ length c.in_ok-core.outcome.frames = ap (λ (fs : List Message). length fs) c.as_slice.ensures in
    absurd (omega (arith, n, handed, lt))

pub returns-in_err-core : goal.returns-in_err-core
returns-in_err-core c w s absent =
    let can = c.requires.can in
    let within : c.from.result < length c.args.self.now.kept.items = omega (arith, can.1.nodes.kept.table, c.requires.node, c.from.ensures) in
    let p = err_from_is_err_and c.from_residual.result c.from_residual.ensures.1 in
    rw p.1 (put_kept_back c.args.self.now c.from.result c.index_mut-kept.result.now within c.index_mut-kept.ensures.value c.begin_node.new.kept c.begin_node.new.ended c.in_err-core.ensures.refused)

pub returns : goal.returns
returns c w s absent =
    let a = c.args.self.now in
    let n = c.in_ok-core.core.value in
    let o : Outcome = record c.in_ok-core.outcome { frames = c.as_slice.result.now } in
    let same : o ≡ c.in_ok-core.outcome = ap (λ (fs : List Message). record c.in_ok-core.outcome { frames = fs }) c.as_slice.ensures in
    let k = c.new-drift.result in
    let q : Running = record { drift = k; node = c.in_ok-core.core } in
    let within : c.args.node < length a.kept.items = omega (arith, s.nodes.kept.table, c.requires.node) in
    let begins = subst (λ (x : Outcome). Begins a c.args.node n x) (sym same) (begun_from a c.args.node c.index_mut-kept.result.now within (c.index_mut-kept.ensures.value ∙ ap (λ (i : ℕ). get_or a.kept.items i c.index_mut-kept.result.now) c.from.ensures) n c.in_ok-core.outcome
    c.in_ok-core.ensures.begins c.in_ok-core.ensures.goes_by c.in_ok-core.ensures.small) in
    let who : c.me-who.result ≡ n.state.ring.me = c.me-who.ensures ∙ ap (λ (x : Core). x.state.ring.me) c.deref.ensures in
    let place : c.place_for-place.result ≡ place_for c.args.node a.clocks.items = c.place_for-place.ensures.place ∙ ap (λ (ks : List (Who × ℕ)). place_for c.args.node ks) c.deref-2.ensures.value in
    begin_moves a w c.args.node c.args.reading n o k q s c.requires.node c.requires.reading begins
    (record { bound = c.new-drift.ensures.bound; latest = c.new-drift.ensures.latest; first = c.new-drift.ensures.first }) refl refl absent c.commit.new.self c.args.line c.commit.result c.requires.events c.requires.sent
    (seen_entered a c.commit.new.self c.put_in.new.items c.put_in-2.new.items (with_item a.kept c.from.result c.begin_node.new.kept) c.begin_node.new.ended (place_for c.args.node a.clocks.items) c.args.node (n.state.ring.me, c.args.reading) q o
    (c.put_in.ensures ∙ (ap (λ (i : ℕ). insert a.clocks.items i (c.me-who.result, c.args.reading)) place ∙ ap (λ (x : Who). insert a.clocks.items (place_for c.args.node a.clocks.items) (x, c.args.reading)) who))
    (c.put_in-2.ensures ∙ ap (λ (i : ℕ). insert a.running.items i q) place)
    (ap (λ (i : ℕ). slice_set a.kept.items i c.begin_node.new.kept) c.from.ensures ∙ ap (λ (x : NodeKept). slice_set a.kept.items c.args.node x) c.in_ok-core.ensures.taken)
    c.commit.ensures.rest c.commit.ensures.frames)
    (λ p lt. c.commit.ensures.places p lt ∙ ap (λ (x : Who). placed_by x o.reports p (place_at a.places p)) who)
    (c.commit.ensures.acted ∙ ap (λ (x : Who). record { line = c.args.line; time = a.time; who = x; reading = Some c.args.reading; sent = numbers_after a.sent (length o.frames); reports = o.reports }) who)
