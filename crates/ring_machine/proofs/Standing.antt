-- A world of the machine with its invariant: what whoever follows the machine carries from event to event.
use Rattle.ring_points.specs.declared.who.Who.{Who}
use Rattle.ring_machine.specs.World.{Settings, World, empty_world}
use Rattle.ring_machine.specs.Events.{Event, IsSound, Can, after}
use Rattle.ring_machine.specs.Invariant.{Invariant}
use Rattle.ring_machine.proofs.DeedSteps.{DeedsDone}
use Rattle.ring_machine.proofs.Histories.{empty_sound, event_done}

pub record Standing (c : Settings) : Type 0 where
  pub world : World
  pub inv : Invariant c world

-- the empty world
pub at_first : (c : Settings) → Standing c
at_first c = record { world = empty_world c; inv = empty_sound c }

-- after an event that can happen
pub stands_after : {c : Settings} → IsSound c → (m : Standing c) (event : Event) → Can c m.world event → Standing c
stands_after {c = c} sound m event can = record { world = after c m.world event; inv = (event_done sound m.inv event can).inv }

-- after deeds of x, one after another at one reading
pub stands_done : {c : Settings} (m : Standing c) (x : Who) (v : World) → DeedsDone c m.world x v → Standing c
stands_done m x v d = record { world = v; inv = d.inv }
