-- What the page says of an actor.
use Rattle.std.specs.Prelude.{◌≡◌, ℕ, ◌-◌, Bool, true, ◌&&◌, List, Option, Some, None, flat_map, map, option_map}
use Rattle.arbiter_core.specs.Arbiters.{entries}
use Rattle.join_phases.specs.Phases.{is_routing}
use Rattle.ring_rules.specs.Owns.{holds_point}
use Rattle.ring_rules.specs.Rings.{Settings}
use Rattle.ring_rules.specs.Slots.{fence_of}
use Rattle.state_lines.specs.declared.change_times.SeenChange.{SeenChange}
use Rattle.status_page.specs.Answers.{arbiter_page, metrics_page, node_page, plain_text}
use Rattle.status_page.specs.Shares.{share_of}
use Rattle.status_page.specs.declared.answer.Answer.{Answer}
use Rattle.status_page.specs.declared.answer.Answer.TheVariants as answer
use Rattle.status_page.specs.declared.counts.Counts.{Counts}
use Rattle.status_page.specs.declared.state.DoorFacts.{DoorFacts}
use Rattle.status_page.specs.declared.state.NodeFacts.{NodeFacts}
use Rattle.turn_members.specs.declared.member.Member.{Member}
use Rattle.turn_members.specs.declared.member.Member.TheVariants as member
use Rattle.unit_rules.specs.Fabric.{fabric}
use Rattle.world_rules.specs.Nodes.{NodeState}
use Rattle.serve_top.specs.Counts.{change_gauge, counts_of_links, counts_of_roles, entry_gauge}
use Rattle.serve_top.specs.declared.page.PageOf.{PageOf}
use Rattle.serve_top.specs.NodeFacts.{AreFacts, change_facts, link_facts, replica_facts}

-- What is known of the actor when it is asked for: the actor, its reading, the reconfigurations that have been seen, what the
-- door knows, the number of an arbitrator, whether frames are sealed, and the declared partitions.
pub record Asked : Type 0 where
  pub actor : Member
  pub now : ℕ
  pub seen : List SeenChange
  pub door : DoorFacts
  pub number : ℕ
  pub sealed : Bool
  pub declared : List ℕ

-- what is known where the page is made of this
abbrev pub asked_of : PageOf → Asked
asked_of p = record {
  actor = p.shown.now.actor.now;
  now = p.shown.now.now;
  seen = p.shown.now.changes.now;
  door = record { «open» = p.shown.now.sessions.«open»; watchers = p.shown.now.sessions.watchers; checksum = p.facts.now.checksum };
  number = p.facts.now.arbiter;
  sealed = p.facts.now.sealed;
  declared = p.facts.now.declared.items;
}

-- the actor does its part: an arbitrator always does
abbrev pub routes : Member → Bool
routes (member.Node core) = is_routing core.value.state.ring.phase
routes (member.Arbiter actor arbiter) = true

-- the state of the actor
abbrev pub IsStateOf : Asked → Member → List ℕ → Type 0
IsStateOf a (member.Node core) text =
    (facts : NodeFacts) × AreFacts core.value.settings core.value.state a.now a.seen facts × (text ≡ node_page core.value.state.ring.phase facts a.door)
IsStateOf a (member.Arbiter actor arbiter) text = text ≡ arbiter_page a.number (entries arbiter) a.door

-- the numbers of every actor, of those that do not stand in a tally
pub record AreCounts (a : Asked) (counts : Counts) : Type 0 where
  pub watchers : counts.watchers ≡ a.door.watchers
  pub checksum : counts.checksum ≡ a.door.checksum
  pub sealed : counts.sealed ≡ a.sealed

-- and those of a node
pub record AreNodeCounts (a : Asked) (settings : Settings) (s : NodeState fabric) (counts : Counts) : Type 0 where
  pub all : AreCounts a counts
  pub instance : counts.instance ≡ s.ring.me.instance
  pub share : counts.share ≡ share_of s.ring.token.ranges
  pub fence_left : counts.fence_left ≡ option_map (λ f. f - a.now) (fence_of settings.answer s.ring.slots)
  pub routing : counts.routing ≡ is_routing s.ring.phase
  pub manages : counts.manages ≡ (is_routing s.ring.phase && holds_point settings a.now 0 s.ring)
  pub links : counts.links ≡ counts_of_links (link_facts s.ring.slots)
  pub replicas : counts.replicas ≡ counts_of_roles (replica_facts s.above.states)
  pub entries : counts.entries.items ≡ flat_map (entry_gauge a.declared) (replica_facts s.above.states)
  pub changing : counts.changing.items ≡ map change_gauge (change_facts a.now a.seen s.above.managed.reconfigs)

abbrev pub AreCountsOf : Asked → Member → Counts → Type 0
AreCountsOf a (member.Node core) counts = AreNodeCounts a core.value.settings core.value.state counts
AreCountsOf a (member.Arbiter actor arbiter) counts = AreCounts a counts

abbrev pub IsMetricsOf : Asked → List ℕ → Type 0
IsMetricsOf a text = (counts : Counts) × AreCountsOf a a.actor counts × (text ≡ metrics_page counts)

-- the text of an answer of each kind
abbrev pub IsTextOf : Asked → Answer → List ℕ → Type 0
IsTextOf a answer.Wait text = ⊥
IsTextOf a answer.Metrics text = IsMetricsOf a text
IsTextOf a answer.State text = IsStateOf a a.actor text
IsTextOf a (answer.Says plain) text = text ≡ plain_text plain

-- a client that waits gets no answer yet
abbrev pub Answers : Asked → Answer → Option (List ℕ) → Type 0
Answers a answer.Wait None = Unit {0}
Answers a answer.Wait (Some text) = ⊥
Answers a kind None = ⊥
Answers a kind (Some text) = IsTextOf a kind text
