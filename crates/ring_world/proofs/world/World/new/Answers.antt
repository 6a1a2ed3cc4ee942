use Rattle.std.proofs.Common.{ℕ, List, length, refl, subst}
use Rattle.ring_world.specs.ConfiguredArbiters.{AreEmpty}
use Rattle.ring_world.proofs.NewWorld.{new_world}
use Rattle.ring_world.proofs.world.World.new.Goals as goal

pub returns : goal.returns
returns c =
    let kept = c.in_ok-kept.kept.items in
    let seats = c.in_ok-seats.seats.items in
    let count : AreEmpty (length c.args.config.arbiters) seats =
    subst (λ (xs : List (ℕ × List ℕ)). AreEmpty (length xs) seats) c.as_slice.ensures c.in_ok-seats.ensures in
    new_world _ 1000 kept seats c.requires refl c.in_ok-kept.ensures count
    (λ i. record {
      config = c.args.config;
      time = 0;
      events = 0;
      running = c.new-2.ensures.items i;
      clocks = c.new-3.ensures.items i;
      kept = kept;
      seats = seats;
      frames = c.new-4.ensures i;
      sent = 0;
    })
    c.in_ok-places.ensures
