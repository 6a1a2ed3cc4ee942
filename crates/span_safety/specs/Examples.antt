-- An example that is computed: a shorter link lets the fence fall, and one of the configured length doesn't.
use Rattle.std.specs.Prelude.{◌≡◌, ℕ, [], ◌∷◌, Option, Some, None}
use Rattle.fabric_terms.specs.declared.message.Body.{Body}
use Rattle.fabric_terms.specs.declared.message.Body.TheVariants.{Offer, OfferFor}
use Rattle.join_phases.specs.Phases.{routing}
use Rattle.ring_points.specs.Ranges.{whole_ring}
use Rattle.ring_points.specs.declared.who.Who.{Who}
use Rattle.ring_points.specs.Whos.{node_instance}
use Rattle.ring_rules.specs.declared.input.Input.TheVariants.{Frame}
use Rattle.ring_rules.specs.declared.link.LinkState.TheVariants.{Bound, Hello}
use Rattle.ring_rules.specs.Links.{new_link}
use Rattle.ring_rules.specs.Rings.{Ring, Settings}
use Rattle.ring_rules.specs.Slots.{fence_of}
use Rattle.ring_rules.specs.Steps.{ring_step}
use Rattle.token_core.specs.Tokens.{first_token}

-- a lease of 1,000 ticks, and 5 for an answer
abbrev pub settings : Settings
settings = record { lease = 1000; longest = 1000; answer = 5; bound = record { d = 10; grain = 1 }; near = 0; arbitrators = 1; rounds = 1 }

abbrev pub me : Who
me = node_instance 1 1

abbrev pub unlinked : Ring
unlinked = record {
  me = me;
  phase = routing;
  slots = [];
  next_session = 1;
  accused = [];
  token = first_token whole_ring;
  routes = record { me = me; points = (1, 0) ∷ (2, 100) ∷ (3, 200) ∷ []; known = [] };
  target = None;
}

-- node 1 is bound to node 2, and has greeted node 3, both at 0
abbrev pub greeting : Ring
greeting = record unlinked {
  slots =
      Some (new_link settings 0 unlinked (node_instance 2 1) 1 Bound 1 1000)
      ∷ Some (record (new_link settings 0 unlinked (node_instance 3 0) 0 Hello 1 1000) { mine = 2 })
      ∷ [];
  next_session = 3;
}

-- its fence after node 3 has said this at 20
abbrev pub fence_after : Body → Option ℕ
fence_after b = fence_of 5 (ring_step settings 20 (Frame (record { from = node_instance 3 1; to = me; body = b })) greeting).ring.slots

pub record ShorterLinks : Type 0 where
  pub before : fence_of 5 greeting.slots ≡ Some 1005
  pub of_one_length : fence_after (Offer 7 2) ≡ Some 1005
  pub shorter : fence_after (OfferFor 7 2 10) ≡ Some 35
