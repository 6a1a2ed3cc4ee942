use Rattle.std.proofs.Common.{Option, ℕ, subst, sym}
use Rattle.fabric_terms.specs.declared.event.Event.TheVariants.{Start}
use Rattle.ring_world.specs.Moves.{Comes}
use Rattle.ring_world.proofs.world.World.start.Goals as goal

pub returns-in-Some : goal.returns-in-Some
returns-in-Some c w s =
    subst (λ (o : Option ℕ). Comes c.args.self.now c.start_node.new.self w c.args.line (Start c.args.actor o) c.start_node.result) (sym c.in-Some.is)
    (c.start_node.ensures w s)
