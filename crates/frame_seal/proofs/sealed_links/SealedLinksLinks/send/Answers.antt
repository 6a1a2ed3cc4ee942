use Rattle.std.proofs.Common.{◌∙◌}
use Rattle.frame_seal.proofs.LinksOver.{sent_where_ok}
use Rattle.frame_seal.proofs.sealed_links.SealedLinksLinks.send.Goals as goal

pub returns-in-Ok-clause-ok : goal.returns-in-Ok-clause-ok
returns-in-Ok-clause-ok g c =
    let self = c.args.self.now in
    let datagram = c.deref.ensures.value ∙ c.in-Ok.ensures.ok in
    sent_where_ok self.key (g.N.Links.sent self.inner.now) (g.N.Links.sent c.send.new.self) c.args.from c.args.to.now c.args.bytes.now c.deref.result.now c.send.result datagram c.send.ensures.ok
