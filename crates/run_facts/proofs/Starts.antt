-- What a start leaves, whoever begins with the whole ring.
use Rattle.std.proofs.Common.{◌≡◌, ℕ, ◌+◌, Bool, true, false, List, refl, sym, ◌∙◌}
use Rattle.std.specs.List.{list_any}
use Rattle.std.proofs.lemmas.List.Folds.{list_any-append}
use Rattle.fabric_terms.specs.declared.config.FabricConfig.{FabricConfig}
use Rattle.fabric_terms.specs.declared.record.Record.{Record}
use Rattle.fabric_terms.specs.Places.{tells_leave}
use Rattle.join_phases.specs.Phases.{is_left}
use Rattle.ring_points.specs.declared.who.Who.{Who}
use Rattle.ring_points.specs.Whos.{same_who, node_instance}
use Rattle.ring_rules.specs.Arbiters.{Table, table_after}
use Rattle.ring_rules.specs.Rings.{Work}
use Rattle.ring_rules.specs.Starts.{node_started, start_first}
use Rattle.run_facts.proofs.Said.{or_false}
use Rattle.run_facts.proofs.Steps.{Begun, begun_accuses, begun_boots, begun_told, started_as}
use Rattle.world_rules.specs.Nodes.{NodeState, boots_of, instance_begun, is_spent, node_begun}
use Rattle.world_rules.specs.Starts.{node_begun_in, start_in, started_in}
use Rattle.world_rules.specs.Uppers.{Upper, Did}

start_first_as : (c : FabricConfig) (me : Who) (b : Bool) →
    let k : Work = start_first c me b in (k.ring.me ≡ me) × (list_any tells_leave k.told ≡ is_left k.ring.phase)
start_first_as c me true = (refl, refl)
start_first_as c me false = (refl, refl)

pub start_in_as : (whole : Who) (c : FabricConfig) (me : Who) (spent : Bool) →
    let k : Work = start_in whole c me spent in (k.ring.me ≡ me) × (list_any tells_leave k.told ≡ is_left k.ring.phase)
start_in_as whole c me true = started_as c me true
start_in_as whole c me false = start_first_as c me (same_who me whole)

pub started_in_as : (whole : Who) (c : FabricConfig) (me : Who) (spent : Bool) →
    let k : Work = started_in whole c me spent in (k.ring.me ≡ me) × (list_any tells_leave k.told ≡ is_left k.ring.phase)
unfolding started_in
started_in_as whole c me spent = start_in_as whole c me spent

pub begun_in_told : (a : Upper) (whole : Who) (c : FabricConfig) (node : ℕ) (records : List Record) →
    let d : Did (NodeState a) = node_begun_in a whole c node records in
    Begun c (node_instance node (instance_begun records)) d.state.ring d.told
unfolding node_begun_in
begun_in_told a whole c node records =
    let me : Who = node_instance node (instance_begun records) in
    let start = started_in_as whole c me (is_spent records) in
    begun_told a c me records (started_in whole c me (is_spent records)) start.0 start.1

spent_told : (whole : Who) (c : FabricConfig) (me : Who) (spent : Bool) → spent ≡ true → list_any tells_leave (started_in whole c me spent).told ≡ true
unfolding started_in node_started
spent_told whole c me true h = refl
spent_told whole c me false h = absurd (cc (h))

pub begun_in_spent : (a : Upper) (whole : Who) (c : FabricConfig) (node : ℕ) (records : List Record) → is_spent records ≡ true →
    list_any tells_leave (node_begun_in a whole c node records).told ≡ true
unfolding node_begun_in
begun_in_spent a whole c node records h =
    let me : Who = node_instance node (instance_begun records) in
    let k : Work = started_in whole c me (is_spent records) in
    list_any-append tells_leave k.told _ ∙ (or_false (list_any tells_leave k.told) ∙ spent_told whole c me (is_spent records) h)

-- it records what any start records

same_records : (a : Upper) (whole : Who) (c : FabricConfig) (node : ℕ) (records : List Record) →
    (node_begun_in a whole c node records).records ≡ (node_begun a c node records).records
unfolding node_begun_in node_begun
same_records a whole c node records = refl

pub begun_in_boots : (a : Upper) (whole : Who) (c : FabricConfig) (node : ℕ) (records : List Record) →
    instance_begun records ≡ boots_of records + boots_of (node_begun_in a whole c node records).records
begun_in_boots a whole c node records =
    begun_boots a c node records ∙ (λ i. boots_of records + boots_of (sym (same_records a whole c node records) i))

pub begun_in_accuses : (a : Upper) (whole : Who) (c : FabricConfig) (node : ℕ) (records : List Record) (table : Table) →
    table_after table (node_begun_in a whole c node records).records ≡ table
begun_in_accuses a whole c node records table =
    (λ i. table_after table (same_records a whole c node records i)) ∙ begun_accuses a c node records table
