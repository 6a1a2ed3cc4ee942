use Rattle.std.proofs.Common.{◌+◌, false, List, ap, sym, subst}
use Rattle.arbiter_core.specs.Arbiters.{Arbiter}
use Rattle.ring_world.specs.ConfiguredArbiters.{AreEmpty}
use Rattle.ring_world.specs.declared.configured_arbiter.ConfiguredArbiter.{ConfiguredArbiter}
use Rattle.ring_world.proofs.NewWorld.{empty_more}
use Rattle.ring_world.proofs.world.empty_seats.Goals as goal

pub loop-i-preserved : goal.loop-i-preserved
loop-i-preserved c =
    subst (λ (xs : List ConfiguredArbiter). AreEmpty (c.loop-i.i + 1) xs) (sym c.in_ok-push.ensures.items)
    (empty_more c.loop-i.i c.loop-i.seats.items _ c.loop-i.invariant (ap (λ (x : Arbiter). record { arbiter = x; runs = false }) c.new.ensures))
