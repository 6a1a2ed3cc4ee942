-- What a node keeps of the ring, and a step on its way.
use Rattle.std.specs.Prelude.{ℕ, List, [], ◌∷◌, length, Option, None, map, find, ◌==◌}
use Rattle.std.specs.Option.{option_map_or}
use Rattle.drift_clock.specs.declared.bound.Bound.{Bound}
use Rattle.ring_points.specs.declared.who.Who.{Who}
use Rattle.fabric_terms.specs.declared.config.FabricConfig.{FabricConfig}
use Rattle.fabric_terms.specs.declared.config.NodeEntry.{NodeEntry}
use Rattle.fabric_terms.specs.declared.message.Body.{Body}
use Rattle.fabric_terms.specs.declared.report.Report.{Report}
use Rattle.join_phases.specs.declared.phases.Phase.{Phase}
use Rattle.token_core.specs.Tokens.{Token}
use Rattle.ring_route.specs.Routes.{Routes}
use Rattle.ring_rules.specs.declared.link.Link.{Link}

-- what the rows read of a configuration, at one node
pub record Settings : Type 0 where
  pub lease : ℕ
  pub longest : ℕ
  pub answer : ℕ
  pub bound : Bound
  pub near : ℕ
  pub arbitrators : ℕ
  pub rounds : ℕ

abbrev pub longest_of : ℕ → List NodeEntry → ℕ
longest_of node nodes = option_map_or (λ e. e.longest) (find (λ e. e.node == node) nodes) 0

abbrev pub settings_of : FabricConfig → ℕ → Settings
settings_of c node =
    record { lease = c.lease; longest = longest_of node c.nodes; answer = c.answer; bound = c.bound; near = c.near; arbitrators = length c.arbiters; rounds = c.rounds }

-- the point of each configured node
abbrev pub points_of : List NodeEntry → List (ℕ × ℕ)
points_of nodes = map (λ e. (e.node, e.point.0)) nodes

-- the limits of a node: its slots, the instances that it can accuse, the hops of a Seek

abbrev pub slot_count : ℕ
slot_count = 16

abbrev pub accused_limit : ℕ
accused_limit = 1024

abbrev pub hop_limit : ℕ
hop_limit = 64

-- sixteen places for links
abbrev pub Slots : Type 0
Slots = List (Option Link)

abbrev pub no_slots : Slots
no_slots = None ∷ None ∷ None ∷ None ∷ None ∷ None ∷ None ∷ None ∷ None ∷ None ∷ None ∷ None ∷ None ∷ None ∷ None ∷ None ∷ []

-- The ring as one node keeps it: who it is, how far it has come, its links, the number of its next session, the
-- instances that it has accused, what it owns, the nodes that it knows, and the member that it asks for its place.
pub record Ring : Type 0 where
  pub me : Who
  pub phase : Phase
  pub slots : Slots
  pub next_session : ℕ
  pub accused : List Who
  pub token : Token
  pub routes : Routes
  pub target : Option ℕ

-- a step on its way: the ring so far, and what was sent to whom and told so far
pub record Work : Type 0 where
  pub ring : Ring
  pub sent : List (Who × Body)
  pub told : List Report

-- a row done to a step
infixl 10 ◌▷◌
abbrev pub ◌▷◌ : Work → (Work → Work) → Work
w ▷ row = row w
