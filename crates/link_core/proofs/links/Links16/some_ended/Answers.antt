use Rattle.std.proofs.Common.{◌∙◌, sym, ap, Some, None}
use Rattle.link_core.specs.Deadlines.{some_ended}
use Rattle.link_core.specs.Links.{Links}
use Rattle.link_core.proofs.Heads.{read_ended}
use Rattle.link_core.proofs.links.Links16.some_ended.Goals as goal

pub returns-in-Some : goal.returns-in-Some
returns-in-Some c =
    read_ended c.args.now c.self.inside.slots c.self.inside.deadlines (Some c.in-Some.end) c.self.invariant.ends (sym c.first.ensures ∙ c.in-Some.is)
    ∙ ap (λ (k : Links). some_ended c.args.now k.slots) c.self.view_is

pub returns-in-None : goal.returns-in-None
returns-in-None c =
    read_ended c.args.now c.self.inside.slots c.self.inside.deadlines None c.self.invariant.ends (sym c.first.ensures ∙ c.in-None.is)
    ∙ ap (λ (k : Links). some_ended c.args.now k.slots) c.self.view_is
