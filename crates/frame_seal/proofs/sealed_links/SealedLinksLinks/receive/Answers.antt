use Rattle.std.proofs.Common.{Option, ℕ, subst}
use Rattle.edge_io.specs.Arrivals.{Receives}
use Rattle.frame_seal.proofs.LinksOver.{none_received, some_received}
use Rattle.frame_seal.proofs.sealed_links.SealedLinksLinks.receive.Goals as goal

pub returns-in-None-clause-ok : goal.returns-in-None-clause-ok
returns-in-None-clause-ok g c =
    let self = c.args.self.now in
    let old = g.N.Links.arrivals self.inner.now c.args.actor in
    let new = g.N.Links.arrivals c.receive.new.self c.args.actor in
    let P : Option ℕ → Type 0 = λ answer. Receives old answer c.receive.new.into new in
    none_received self.key c.args.actor old new c.receive.new.into c.args.into.now (subst P c.in-None.is c.in_ok-receive.ensures.ok)

pub returns-in-Some-clause-ok : goal.returns-in-Some-clause-ok
returns-in-Some-clause-ok g c =
    let self = c.args.self.now in
    let old = g.N.Links.arrivals self.inner.now c.args.actor in
    let new = g.N.Links.arrivals c.receive.new.self c.args.actor in
    let P : Option ℕ → Type 0 = λ answer. Receives old answer c.receive.new.into new in
    some_received self.key c.args.actor old new c.in-Some.count c.open_datagram.result c.receive.new.into c.open_datagram.new.into c.open_datagram.ensures.count c.open_datagram.ensures.frame (subst P c.in-Some.is c.in_ok-receive.ensures.ok)
