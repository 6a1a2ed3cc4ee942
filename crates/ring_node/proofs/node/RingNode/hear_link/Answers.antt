use Rattle.std.proofs.Common.{◌∙◌, sym, ap}
use Rattle.std.proofs.Math.Seq.{take-length}
use Rattle.link_core.specs.Frames as links
use Rattle.link_core.specs.Links.{Links}
use Rattle.link_core.specs.Ties.{announce_of, cause_of}
use Rattle.ring_node.specs.Nodes.{Node, step}
use Rattle.ring_node.proofs.Stays.{accused_kept, kept_heard, kept_links, landed, risen}
use Rattle.ring_node.proofs.Rows.{links_broken, links_ok}
use Rattle.ring_rules.specs.Frames.{frame_row}
use Rattle.ring_node.proofs.node.RingNode.hear_link.Goals as goal

pub returns-in-Ok-clause-row : goal.returns-in-Ok-clause-row
returns-in-Ok-clause-row c =
    let i = c.self.inside in
    let n = c.args.self.now in
    let k = c.hear-notes.new.self in
    let e = sym c.self.view_is in
    links_ok (λ s. frame_row s c.args.now c.args.message.now.from c.args.message.now.body) (cause_of c.args.message.now.body) n i.links k i.token i.routes i.phase i.target i.near c.announced-announce.result c.of-cause.result c.hear-notes.result c.as_slice.result.now c.args.out.now c.hear-notes.new.out c.args.told.now (step c.notes.new.self c.notes.new.out c.notes.new.told)
    e (c.hear-notes.ensures.row c.requires.link) (kept_links n i.links k i.token i.routes i.phase i.target i.near e (kept_heard i.links k c.hear-notes.ensures.kept)) (c.announced-announce.ensures ∙ ap (λ (m : Node). announce_of m.ring) c.self.view_is) c.mark-mark.ensures.numbers c.of-cause.ensures c.as_slice.ensures.items c.in-Ok.ensures.ok c.has_numbers.ensures.numbers

pub returns-in-Err-clause-row : goal.returns-in-Err-clause-row
returns-in-Err-clause-row c =
    let i = c.self.inside in
    let n = c.args.self.now in
    let k = c.hear-notes.new.self in
    let e = sym c.self.view_is in
    let m = c.mark-mark in
    let same = ap (λ (x : Links). x.accused) c.hear-notes.ensures.kept in
    landed _ _ _ _ _ _ c.roll_back.ensures.node c.roll_back.ensures.sent c.roll_back.ensures.told
    ∙ links_broken (λ s. frame_row s c.args.now c.args.message.now.from c.args.message.now.body) (cause_of c.args.message.now.body) n i.links k i.token i.routes i.phase i.target i.near c.announced-announce.result c.of-cause.result c.hear-notes.result c.as_slice.result.now c.args.out.now c.hear-notes.new.out c.args.told.now (links.frame_row c.args.now c.announced-announce.result c.args.message.now.from c.args.message.now.body i.links) c.notes.new.self c.notes.new.out c.notes.new.told m.result.version m.result.last_session m.result.accused m.result.sent m.result.told
    e (c.hear-notes.ensures.row c.requires.link) (kept_links n i.links k i.token i.routes i.phase i.target i.near e (kept_heard i.links k c.hear-notes.ensures.kept)) (accused_kept n i.links k i.token i.routes i.phase i.target i.near e (rw same (take-length i.links.accused))) (risen n i.links k i.token i.routes i.phase i.target i.near e c.hear-notes.ensures.sessions) c.hear-notes.ensures.did (c.announced-announce.ensures ∙ ap (λ (m : Node). announce_of m.ring) c.self.view_is) m.ensures.numbers c.of-cause.ensures c.as_slice.ensures.items c.in-Err.ensures.err m.ensures.version m.ensures.sessions m.ensures.accused m.ensures.sent m.ensures.told
