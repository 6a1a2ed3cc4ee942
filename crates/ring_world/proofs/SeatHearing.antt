-- A seat that has heard a message, in the world.
use Rattle.std.proofs.Common.{◌≡◌, ℕ, ◌≤◌, ◌<◌, List, Option, refl, ap, ◌∙◌, arith, length, get_or}
use Rattle.std.specs.Prelude.{slice_set}
use Rattle.fabric_terms.specs.declared.config.FabricConfig.{FabricConfig}
use Rattle.fabric_terms.specs.declared.message.Body.{Body}
use Rattle.fabric_terms.specs.declared.message.Message.{Message}
use Rattle.frame_bag.specs.Bags.{Bag}
use Rattle.ring_points.specs.declared.who.Who.{Who}
use Rattle.std.specs.Vec.{with_item}
use Rattle.ring_world.specs.Moves.{Same}
use Rattle.ring_world.specs.Rulings.{HeardAt, Hears}
use Rattle.ring_world.specs.Seen.{seen_of}
use Rattle.ring_world.specs.declared.configured_arbiter.ConfiguredArbiter.{ConfiguredArbiter}
use Rattle.ring_world.specs.declared.world.World.{World}
use Rattle.ring_world.proofs.Edits.{set_same}
use Rattle.ring_world.proofs.Seats.{seat_here}

module _ (a : World) (place : ℕ) (q s : ConfiguredArbiter) (bag : Bag) (lt : place < length a.seats.items) (read : q ≡ get_or a.seats.items place q) (frames : bag.frames ≡ a.frames.frames) where
  pub unheard : s ≡ q → Same a (record a { seats = with_item a.seats place s; frames = bag })
  unheard same =
      let seats : slice_set a.seats.items place s ≡ a.seats.items = ap (λ x. slice_set a.seats.items place x) same ∙ set_same a.seats.items place q (seat_here a place q lt read) in
      record {
        seen = ap (λ (ss : List ConfiguredArbiter). record (seen_of a) { seats = ss; frames = bag.frames }) seats ∙ ap (λ (fs : List Message). record (seen_of a) { frames = fs }) frames;
        places = λ p lt. refl;
      }

  pub heard : (m : Message) (reply : Option (Who × Body)) → 1 ≤ bag.room → ((c : FabricConfig) → Hears c m q s reply) → HeardAt a (record a { seats = with_item a.seats place s; frames = bag }) place m reply
  heard m reply room hears = record {
    before = q;
    after = s;
    here = seat_here a place q lt read;
    hears = hears;
    rest = ap (λ (fs : List Message). record (seen_of a) { frames = fs; seats = slice_set a.seats.items place s }) frames;
    places = refl;
    room = omega arith;
  }
