use Rattle.std.proofs.Common.{◌≡◌, ◌≤◌, ◌+◌, ℕ, false, true, List, Option, take, sym, subst, arith, ◌∙◌}
use Rattle.edge_io.specs.declared.datagram.Datagram.{Datagram}
use Rattle.frame_hold.specs.Kept.{free_of}
use Rattle.frame_hold.specs.Promises.{Given, NeverBeforeDone}
use Rattle.frame_hold.proofs.Passing.{given_next, given_over, never_early}
use Rattle.frame_hold.proofs.holding_links.give_free.Goals as goal
use Rattle.frame_hold.proofs.holding_links.give_free.Goals.{then-is_free+in_ok-give_one, else-is_free}

pub returns-in_err-give_one-clause-never : goal.returns-in_err-give_one-clause-never
returns-in_err-give_one-clause-never g c =
    let sent = g.N.Links.sent in
    let faults = g.N.Links.faults in
    let l = c.loop-datagram in
    let owed = c.args.holding.now in
    let old = sent c.args.links.now in
    let P : Option (List Datagram) → Type 0 = λ new. NeverBeforeDone owed old new in
    subst P (sym c.in_err-give_one.ensures.err)
    (never_early c.args.actor owed (take l.datagram-index c.args.held.now) old (sent l.links) (faults c.args.links.now) (faults l.links) l.invariant.0)

pub loop-datagram-preserved : goal.loop-datagram-preserved
loop-datagram-preserved g c =
    let sent = g.N.Links.sent in
    let faults = g.N.Links.faults in
    let start = c.args.links.now in
    let l = c.loop-datagram in
    let owed = c.args.holding.now in
    let holds = g.N.Outgoing.holds in
    let P : g.row.N.Denot → Type 0 = λ links.
    Given (free_of c.args.actor owed (take (l.datagram-index + 1) c.args.held.now)) (sent start) (sent links) (faults start) (faults links)
    × (g.N.Links.opened links ≡ g.N.Links.opened start)
    × ((any : ℕ) → g.N.Links.arrivals links any ≡ g.N.Links.arrivals start any)
    × (faults start ≤ faults links)
    × (holds links ≡ holds start)
    × (holds start ≡ false → g.N.Outgoing.queue links ≡ g.N.Outgoing.queue start)
    × (holds start ≡ true → g.N.Outgoing.left links ≡ g.N.Outgoing.left start) in
    elim c.if-is_free.branch [
      | then-is_free+in_ok-give_one w ↦ subst P (sym w.links-is) (
        given_next c.args.actor owed c.args.held.now l.datagram-index c.datagram-item.result (sent start) (sent l.links) (sent w.give_one.new.links) (faults start) (faults l.links) (faults w.give_one.new.links)
            c.loop-datagram-test.true c.datagram-item.is (sym c.is_free.ensures ∙ w.if-is_free.true) l.invariant.0 w.in_ok-give_one.ensures.given,
        w.give_one.ensures.opened ∙ l.invariant.1,
        λ any. w.give_one.ensures.arrivals any ∙ l.invariant.2 any,
        omega (arith, l.invariant.3, w.give_one.ensures.later),
        w.give_one.ensures.holds ∙ l.invariant.4,
        λ free. w.give_one.ensures.queue (l.invariant.4 ∙ free) ∙ l.invariant.5 free,
        λ waits. w.give_one.ensures.left (l.invariant.4 ∙ waits) ∙ l.invariant.6 waits,
      )
      | else-is_free w ↦ subst P (sym w.links-is) (
        given_over c.args.actor owed c.args.held.now l.datagram-index c.datagram-item.result (sent start) (sent l.links) (faults start) (faults l.links)
            c.loop-datagram-test.true c.datagram-item.is (sym c.is_free.ensures ∙ w.if-is_free.false) l.invariant.0,
        l.invariant.1,
        l.invariant.2,
        l.invariant.3,
        l.invariant.4,
        l.invariant.5,
        l.invariant.6,
      )
    ]

pub returns-clause-never : goal.returns-clause-never
returns-clause-never g c =
    let sent = g.N.Links.sent in
    let faults = g.N.Links.faults in
    let l = c.loop-datagram in
    never_early c.args.actor c.args.holding.now (take l.datagram-index c.args.held.now) (sent c.args.links.now) (sent l.links) (faults c.args.links.now) (faults l.links) l.invariant.0
