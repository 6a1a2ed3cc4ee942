use Rattle.std.proofs.Common.{[], refl, sym, rules}
use Rattle.link_core.specs.Ties.{announce_of, cause_of}
use Rattle.ring_node.specs.Nodes.{step, node_of}
use Rattle.ring_node.proofs.Come.{acks_search_nothing}
use Rattle.ring_node.proofs.Stays.{kept_heard, kept_links}
use Rattle.ring_node.proofs.Rows.{links_ok}
use Rattle.ring_rules.specs.Frames.{frame_row}
use Rattle.ring_node.proofs.node.RingNode.hear_ack.Goals as goal

pub invariant_of-self : goal.invariant_of-self
invariant_of-self c = record {
  listed = c.self.invariant.listed;
  near = c.self.invariant.near;
  numbers = search rules;
  freeze = c.self.invariant.freeze;
}

pub returns : goal.returns
returns c = λ now sent told.
    let i = c.self.inside in
    let n = c.args.self.now in
    let m = c.args.message.now in
    let k = c.acknowledged.new.self in
    let e = sym c.self.view_is in
    let h = c.acknowledged.ensures now (announce_of n.ring) sent in
    links_ok (λ s. frame_row s now m.from m.body) (cause_of m.body) n i.links k i.token i.routes i.phase i.target i.near (announce_of n.ring) (cause_of m.body) [] [] sent sent told (step (node_of k i.token i.routes i.phase i.target i.near) sent told)
    e (h.row (acks_search_nothing m.body c.requires.ack)) (kept_links n i.links k i.token i.routes i.phase i.target i.near e (kept_heard i.links k h.kept)) refl c.if-prove.ensures.numbers refl refl refl c.has_numbers-2.ensures.numbers
