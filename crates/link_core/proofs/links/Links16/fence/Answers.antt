use Rattle.std.proofs.Common.{◌∙◌, sym, ap, arith, Some, None}
use Rattle.ring_rules.specs.Slots.{fence_of}
use Rattle.link_core.specs.Links.{Links}
use Rattle.link_core.proofs.Heads.{head_is_early, read_fence}
use Rattle.link_core.proofs.links.Links16.fence.Goals as goal

pub overflow_add-result : goal.overflow_add-result
overflow_add-result c =
    let early = head_is_early c.self.inside.arbitrators c.in-Some.end c.self.inside.slots c.self.inside.deadlines c.self.invariant.sound.slots c.self.invariant.ends (sym c.first.ensures ∙ c.in-Some.is) in
    omega (arith, early, c.self.invariant.sound.answer)

pub returns-in-Some : goal.returns-in-Some
returns-in-Some c =
    read_fence c.self.inside.answer c.self.inside.slots c.self.inside.deadlines (Some c.in-Some.end) c.self.invariant.ends (sym c.first.ensures ∙ c.in-Some.is)
    ∙ ap (λ (k : Links). fence_of k.answer k.slots) c.self.view_is

pub returns-in-None : goal.returns-in-None
returns-in-None c =
    read_fence c.self.inside.answer c.self.inside.slots c.self.inside.deadlines None c.self.invariant.ends (sym c.first.ensures ∙ c.in-None.is)
    ∙ ap (λ (k : Links). fence_of k.answer k.slots) c.self.view_is
