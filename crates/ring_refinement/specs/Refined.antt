-- What a step of x is on the machine.
use Rattle.std.specs.Prelude.{◌≡◌, ℕ, false, List, [], ◌∷◌, IsTrue}
use Rattle.ring_points.specs.declared.who.Who.{Who}
use Rattle.ring_points.specs.Ranges.{rises_from}
use Rattle.ring_points.specs.Whos.{same_who}
use Rattle.fabric_terms.specs.declared.config.FabricConfig.{FabricConfig}
use Rattle.fabric_terms.specs.declared.message.Body.{Body}
use Rattle.join_phases.specs.Phases.{is_left}
use Rattle.ring_rules.specs.Rings.{Work}
use Rattle.fabric_lemmas.specs.Members.{IsMember}
use Rattle.ring_machine.specs.Frames.{Frame}
use Rattle.ring_machine.specs.World.{World, Live, Dead}
use Rattle.ring_machine.specs.Invariant.{Invariant}
use Rattle.ring_refinement.specs.Images.{machine_of, frame_of, IsSent, ranges_in, is_ruling}
use Rattle.ring_refinement.specs.Shown.{Shows}
use Rattle.ring_refinement.specs.Moves.{places_of, MovedBy, AreOver}

-- a message of a node: its image was sent, its ranges are a list of a set, and it is no ruling
pub record Said (lease : ℕ) (sent : List Frame) (from to : Who) (b : Body) : Type 0 where
  pub image : IsSent sent (frame_of lease from to b)
  pub rises : IsTrue (rises_from 0 (ranges_in b))
  pub no_ruling : is_ruling b ≡ false

abbrev pub AllSaid : ℕ → List Frame → Who → List (Who × Body) → Type 0
AllSaid lease sent from [] = Unit {0}
AllSaid lease sent from (s ∷ ss) = Said lease sent from s.0 s.1 × AllSaid lease sent from ss

-- what deeds of x leave as it was in the world w
pub record Beside (w : World) (x : Who) (v : World) : Type 0 where
  pub time : v.time ≡ w.time
  pub starts : v.starts ≡ w.starts
  pub whole : v.whole ≡ w.whole
  pub first_accuser : v.first_accuser ≡ w.first_accuser
  pub first_claimer : v.first_claimer ≡ w.first_claimer
  pub reading : (v.instance x).reading ≡ (w.instance x).reading
  pub pairs : (v.instance x).pairs ≡ (w.instance x).pairs
  pub others : (y : Who) → same_who x y ≡ false → v.instance y ≡ w.instance y
  -- what was sent stays sent, and the dead stay dead
  pub sent : (f : Frame) → IsMember f w.sent → IsMember f v.sent

-- A world that x comes to from m by deeds, and by leaving where its ring has left, and that shows what the step made.
pub record Refined (c : FabricConfig) (m : World) (x : Who) (w : Work) : Type 0 where
  pub after : World
  pub inv : Invariant (machine_of c) after
  pub beside : Beside m x after
  pub dies : (y : Who) → Dead (machine_of c) (m.instance y) → Dead (machine_of c) (after.instance y)
  -- below its fence, as long as it has not left
  pub live : is_left w.ring.phase ≡ false → Live (machine_of c) (after.instance x)
  pub shows : Shows c after x w.ring
  pub sent : AllSaid c.lease after.sent x w.sent
  pub moved :
      MovedBy x w.told (m.instance x).token.next_flight (places_of after.whole m) (after.instance x).token.next_flight
      (places_of after.whole after)
  pub over : AreOver (machine_of c) after w.told
