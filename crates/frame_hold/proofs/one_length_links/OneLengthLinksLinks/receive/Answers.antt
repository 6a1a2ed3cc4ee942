use Rattle.std.proofs.Common.{Option, ℕ, subst, sym, ◌∙◌}
use Rattle.edge_io.specs.Arrivals.{Receives}
use Rattle.frame_hold.proofs.Arriving.{length_received, none_received, other_received}
use Rattle.frame_hold.proofs.one_length_links.OneLengthLinksLinks.receive.Goals as goal

pub returns-in-None-clause-ok : goal.returns-in-None-clause-ok
returns-in-None-clause-ok g c =
    let self = c.args.self.now in
    let old = g.N.Links.arrivals self.inner.now c.args.actor in
    let new = g.N.Links.arrivals c.receive.new.self c.args.actor in
    let P : Option ℕ → Type 0 = λ answer. Receives old answer c.receive.new.into new in
    none_received old new c.receive.new.into (subst P c.in-None.is c.in_ok-receive.ensures.ok)

pub returns-then-names_length-clause-ok : goal.returns-then-names_length-clause-ok
returns-then-names_length-clause-ok g c =
    let self = c.args.self.now in
    let old = g.N.Links.arrivals self.inner.now c.args.actor in
    let new = g.N.Links.arrivals c.receive.new.self c.args.actor in
    let P : Option ℕ → Type 0 = λ answer. Receives old answer c.receive.new.into new in
    length_received old new c.in-Some.count c.receive.new.into (sym c.names_length.ensures ∙ c.if-names_length.true) (subst P c.in-Some.is c.in_ok-receive.ensures.ok)

pub returns-else-names_length-clause-ok : goal.returns-else-names_length-clause-ok
returns-else-names_length-clause-ok g c =
    let self = c.args.self.now in
    let old = g.N.Links.arrivals self.inner.now c.args.actor in
    let new = g.N.Links.arrivals c.receive.new.self c.args.actor in
    let P : Option ℕ → Type 0 = λ answer. Receives old answer c.receive.new.into new in
    other_received old new c.in-Some.count c.receive.new.into (sym c.names_length.ensures ∙ c.if-names_length.false) (subst P c.in-Some.is c.in_ok-receive.ensures.ok)
