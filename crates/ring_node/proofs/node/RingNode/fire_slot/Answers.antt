use Rattle.std.proofs.Common.{◌≡◌, ◌∙◌, ap, arith, sym}
use Rattle.link_core.specs.Firing as links
use Rattle.link_core.specs.Links.{Links}
use Rattle.link_core.specs.Ties.{announce_of, quiet}
use Rattle.ring_node.specs.Nodes.{Node, step}
use Rattle.ring_node.proofs.Stays.{accused_kept, kept_fired, kept_links, landed, risen}
use Rattle.ring_node.proofs.Rows.{links_broken, links_ok}
use Rattle.ring_rules.specs.Firing.{fired_at, slot_fired}
use Rattle.ring_rules.specs.Slots.{slot_at}
use Rattle.ring_node.proofs.node.RingNode.fire_slot.Goals as goal

pub returns-in-Ok-clause-row : goal.returns-in-Ok-clause-row
unfolding slot_fired
returns-in-Ok-clause-row c =
    let i = c.self.inside in
    let n = c.args.self.now in
    let k = c.fire-notes.new.self in
    let e = sym c.self.view_is in
    links_ok (λ s w. fired_at s c.args.now c.args.i (slot_at c.args.i w.ring.slots) w) quiet n i.links k i.token i.routes i.phase i.target i.near c.announced-announce.result c.none-cause.result c.fire-notes.result c.as_slice.result.now c.args.out.now c.fire-notes.new.out c.args.told.now (step c.notes.new.self c.notes.new.out c.notes.new.told)
    e c.fire-notes.ensures.row (kept_links n i.links k i.token i.routes i.phase i.target i.near e (kept_fired i.links k c.fire-notes.ensures.kept)) (c.announced-announce.ensures ∙ ap (λ (m : Node). announce_of m.ring) c.self.view_is) c.mark-mark.ensures.numbers c.none-cause.ensures c.as_slice.ensures.items c.in-Ok.ensures.ok c.has_numbers.ensures.numbers

pub returns-in-Err-clause-row : goal.returns-in-Err-clause-row
unfolding slot_fired
returns-in-Err-clause-row c =
    let i = c.self.inside in
    let n = c.args.self.now in
    let k = c.fire-notes.new.self in
    let e = sym c.self.view_is in
    let m = c.mark-mark in
    let same : k.next_session ≡ i.links.next_session = ap (λ (x : Links). x.next_session) c.fire-notes.ensures.kept in
    landed _ _ _ _ _ _ c.roll_back.ensures.node c.roll_back.ensures.sent c.roll_back.ensures.told
    ∙ links_broken (λ s w. fired_at s c.args.now c.args.i (slot_at c.args.i w.ring.slots) w) quiet n i.links k i.token i.routes i.phase i.target i.near c.announced-announce.result c.none-cause.result c.fire-notes.result c.as_slice.result.now c.args.out.now c.fire-notes.new.out c.args.told.now (links.slot_fired c.args.now c.announced-announce.result c.args.i i.links) c.notes.new.self c.notes.new.out c.notes.new.told m.result.version m.result.last_session m.result.accused m.result.sent m.result.told
    e c.fire-notes.ensures.row (kept_links n i.links k i.token i.routes i.phase i.target i.near e (kept_fired i.links k c.fire-notes.ensures.kept)) (accused_kept n i.links k i.token i.routes i.phase i.target i.near e c.fire-notes.ensures.accused) (risen n i.links k i.token i.routes i.phase i.target i.near e (omega (arith, same))) c.fire-notes.ensures.did (c.announced-announce.ensures ∙ ap (λ (m : Node). announce_of m.ring) c.self.view_is) m.ensures.numbers c.none-cause.ensures c.as_slice.ensures.items c.in-Err.ensures.err m.ensures.version m.ensures.sessions m.ensures.accused m.ensures.sent m.ensures.told
