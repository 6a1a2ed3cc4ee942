-- Each step of a node and of an arbitrator of units is in range, on what holds of whatever keeps to the ranges of frames.
use Rattle.std.proofs.Common.{◌≡◌, ℕ, ◌||◌, List, [], ◌∷◌, refl, ap, ◌∙◌}
use Rattle.std.specs.Prelude.{◌==◌, All}
use Rattle.std.specs.List.{list_any}
use Rattle.std.proofs.lemmas.List.Elements.{All-cons, All-head, All-nil, All-tail}
use Rattle.world_rules.specs.Starts.{node_begun_in}
use Rattle.fabric_terms.specs.declared.config.FabricConfig.{FabricConfig}
use Rattle.fabric_terms.specs.declared.config.NodeEntry.{NodeEntry}
use Rattle.fabric_terms.specs.declared.message.Body.{Body}
use Rattle.fabric_terms.specs.declared.message.Message.{Message}
use Rattle.fabric_terms.specs.Sent.{from_all}
use Rattle.frames_fit.proofs.Arbiters as any
use Rattle.frames_fit.proofs.Nodes as any_node
use Rattle.frames_fit.proofs.Posting.{ActsInFormat, Sound}
use Rattle.frames_fit.proofs.Settled.{node_in_range}
use Rattle.ring_points.specs.declared.who.Who.{Who}
use Rattle.ring_rules.specs.Rings.{points_of}
use Rattle.unit_rules.specs.Units.{units}
use Rattle.world_rules.specs.Arbiters.{arbiter_step}
use Rattle.world_rules.specs.Nodes.{NodeState, node_step}
use Rattle.world_rules.specs.Uppers.{Did}
use Rattle.world_rules.specs.Worlds.{arbiter_who, posted}
use Rattle.fabric_fit.specs.Steps.{ArbitersBeginInFormat, ArbitersStayInFormat, NodeDoes, NodesBeginInFormat, NodesStayInFormat}
use Rattle.fabric_fit.proofs.Units.{units_send}

-- what was posted is sound, and what it was posted on
posted_parts : (from : Who) (sent : List (Who × Body)) (frames : List Message) → All Sound (posted from sent frames) → All Sound (from_all from sent) × All Sound frames
posted_parts from [] frames h = (All-nil Sound, h)
posted_parts from (s ∷ ss) frames h =
    let one : Message = record { from = from; to = s.0; body = s.1 } in
    let rest = posted_parts from ss (one ∷ frames) h in
    (All-cons Sound one (from_all from ss) (All-head Sound one frames rest.1) rest.0, All-tail Sound one frames rest.1)

all_sound : {S : Type 0} (who : Who) (d : Did S) → ActsInFormat units_send who d → All Sound (from_all who d.sent)
all_sound who d acts = (posted_parts who d.sent [] (acts.posts [] (All-nil Sound))).0

-- a configured node is one of those with a point
listed_points : (nodes : List NodeEntry) (node : ℕ) → list_any (λ p. p.0 == node) (points_of nodes) ≡ list_any (λ e. e.node == node) nodes
listed_points [] node = refl
listed_points (e ∷ es) node = ap (λ b. (e.node == node) || b) (listed_points es node)

node_did : (c : FabricConfig) (d : Did (NodeState units)) → any_node.NodeActs units units_send c d → NodeDoes c d
unfolding units_send
node_did c d acts = record {
  state = λ f. let s = acts.state f in record { ring = s.ring; above = s.above };
  records = acts.acts.records;
  frames = all_sound d.state.ring.me d acts.acts;
  reports = acts.acts.told;
}

pub nodes_begin : NodesBeginInFormat
unfolding units_send
nodes_begin whole c node records sound listed kept =
    let named = node_in_range c sound node (listed_points c.nodes node ∙ listed) in
    node_did c (node_begun_in units whole c node records) (any_node.node_begins_in units units_send c sound node records named listed kept whole)

pub nodes_stay : NodesStayInFormat
unfolding units_send
nodes_stay c now i s sound reads fits live =
    node_did c (node_step units c now i s)
    (any_node.node_acts units units_send c sound now i s reads fits (λ f. let r = live f in record { ring = r.ring; above = r.above }))

pub arbiters_begin : ArbitersBeginInFormat
unfolding units_send
arbiters_begin c arbiter records sound kept =
    let s = any.arbiter_begins units units_send c sound arbiter records kept in record { table = s.table; beside = s.beside }

pub arbiters_stay : ArbitersStayInFormat
unfolding units_send
arbiters_stay c arbiter m s sound h fine =
    let acts = any.arbiter_acts units units_send c sound arbiter m h s (record { table = fine.table; beside = fine.beside }) in
    record {
      state = record { table = acts.state.table; beside = acts.state.beside };
      records = acts.acts.records;
      frames = all_sound (arbiter_who arbiter) (arbiter_step units c arbiter m s) acts.acts;
      reports = acts.acts.told;
    }
