use Rattle.std.proofs.Common.{◌≡◌, ◌≤◌, ℕ, false, true, take}
use Rattle.frame_hold.specs.Kept.{free_of}
use Rattle.frame_hold.specs.Promises.{Given}
use Rattle.frame_hold.proofs.holding_links.give_free.Given as goal

-- those of the frames so far that wait for nothing were given
abbrev pub invariant-loop-datagram : goal.invariant-loop-datagram
invariant-loop-datagram g l =
    Given (free_of l.actor l.holding (take l.datagram-index l.held)) (g.N.Links.sent l.fn.links) (g.N.Links.sent l.links) (g.N.Links.faults l.fn.links) (g.N.Links.faults l.links)
    × (g.N.Links.opened l.links ≡ g.N.Links.opened l.fn.links)
    × ((any : ℕ) → g.N.Links.arrivals l.links any ≡ g.N.Links.arrivals l.fn.links any)
    × (g.N.Links.faults l.fn.links ≤ g.N.Links.faults l.links)
    × (g.N.Outgoing.holds l.links ≡ g.N.Outgoing.holds l.fn.links)
    × (g.N.Outgoing.holds l.fn.links ≡ false → g.N.Outgoing.queue l.links ≡ g.N.Outgoing.queue l.fn.links)
    × (g.N.Outgoing.holds l.fn.links ≡ true → g.N.Outgoing.left l.links ≡ g.N.Outgoing.left l.fn.links)
