-- The start of a node by who begins with the whole ring, and that in the first life it is the start of a schedule.
use Rattle.std.proofs.Common.{◌≡◌, ℕ, Bool, true, false, List, refl, sym, ◌∙◌}
use Rattle.fabric_terms.specs.declared.config.FabricConfig.{FabricConfig}
use Rattle.fabric_terms.specs.declared.record.Record.{Record}
use Rattle.ring_points.specs.declared.who.Who.{Who}
use Rattle.ring_points.specs.Whos.{node_instance}
use Rattle.ring_rules.proofs.Rows.{node_started-is}
use Rattle.ring_rules.specs.Starts.{node_started}
use Rattle.world_rules.proofs.Rows.{node_begun-is}
use Rattle.world_rules.specs.Nodes.{begun_as, instance_begun, is_spent, node_begun}
use Rattle.world_rules.specs.Starts.{first_whole, node_begun_in, start_in, started_in}
use Rattle.world_rules.specs.Uppers.{Upper}

-- by what it is
pub started_in-is : (whole : Who) (c : FabricConfig) (me : Who) (spent : Bool) → started_in whole c me spent ≡ start_in whole c me spent
unfolding started_in
started_in-is whole c me spent = refl

pub node_begun_in-is : (a : Upper) (whole : Who) (c : FabricConfig) (node : ℕ) (records : List Record) →
    let me : Who = node_instance node (instance_begun records) in
    node_begun_in a whole c node records ≡ begun_as a c me records (started_in whole c me (is_spent records))
unfolding node_begun_in
node_begun_in-is a whole c node records = refl

-- in the first life it is the start of a schedule

pub started_first : (c : FabricConfig) (me : Who) (spent : Bool) → started_in (first_whole c) c me spent ≡ node_started c me spent
started_first c me true = started_in-is (first_whole c) c me true
started_first c me false = started_in-is (first_whole c) c me false ∙ sym (node_started-is c me false)

pub begun_first : (a : Upper) (c : FabricConfig) (node : ℕ) (records : List Record) →
    node_begun_in a (first_whole c) c node records ≡ node_begun a c node records
begun_first a c node records =
    let me : Who = node_instance node (instance_begun records) in
    node_begun_in-is a (first_whole c) c node records
    ∙ ((λ i. begun_as a c me records (started_first c me (is_spent records) i)) ∙ sym (node_begun-is a c node records))
