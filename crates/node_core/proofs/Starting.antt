-- A start of a whole node, from what its records amount to.
use Rattle.std.proofs.Common.{◌≡◌, ℕ, ◌+◌, Bool, true, false, List, [], ◌∷◌, nat_le, refl, sym, ap, ◌∙◌, if◌then◌else◌}
use Rattle.std.specs.Prelude.{Err, IfOk, Ok, Result}
use Rattle.fabric_terms.specs.declared.config.FabricConfig.{FabricConfig}
use Rattle.fabric_terms.specs.declared.record.Record.{Record}
use Rattle.fabric_terms.specs.declared.record.Record.TheVariants.{Boot}
use Rattle.fabric_terms.specs.declared.report.Report.{Report}
use Rattle.ring_node.specs.Nodes.{Node, Step, step}
use Rattle.ring_node.specs.Steps.{begun, own_told, started_with}
use Rattle.ring_points.specs.declared.who.Who.{Who}
use Rattle.ring_points.specs.Whos.{node_instance, same_who}
use Rattle.ring_rules.specs.Rings.{Work, settings_of}
use Rattle.world_rules.specs.Starts.{node_begun_in, started_in}
use Rattle.ring_rules.specs.Starts.{node_started, start_first}
use Rattle.token_core.specs.Tokens.{last_number}
use Rattle.unit_rules.specs.ReplicaStates.{ReplicaState}
use Rattle.node_core.specs.Begins.{part_begun}
use Rattle.world_rules.specs.Nodes.{boots_of, instance_begun, is_spent}
use Rattle.unit_rules.specs.Fabric.{fabric}
use Rattle.node_core.specs.declared.kept.NodeKept.{NodeKept}
use Rattle.node_core.specs.declared.outcome.Outcome.{Outcome}
use Rattle.node_core.specs.Nodes.{Amounts, Does, GoesBy, core_of}

first_named : (c : FabricConfig) (me : Who) (b : Bool) → (start_first c me b).ring.me ≡ me
first_named c me true = refl
first_named c me false = refl

named : (c : FabricConfig) (me : Who) (whole spent : Bool) → (started_with c me whole spent).ring.me ≡ me
unfolding node_started
named c me whole true = refl
named c me whole false = first_named c me whole

-- the instance that is named begins with the whole ring
with_in : (whole : Who) (c : FabricConfig) (me : Who) (spent : Bool) → started_with c me (same_who me whole) spent ≡ started_in whole c me spent
unfolding started_in
with_in whole c me true = refl
with_in whole c me false = refl

pub starts_by : (c : FabricConfig) (me : Who) (whole spent : Bool) (new : Node) (told : List Report) (states : List (ℕ × ReplicaState)) → step new [] told ≡ begun c me whole spent → GoesBy c (core_of new (part_begun c states))
starts_by c me whole spent new told states e = record {
  settings =
      ap (λ (s : Step). s.settings) e
      ∙ ap (λ (w : Who). settings_of c w.actor) (sym (ap (λ (s : Step). s.work.ring.me) e ∙ named c me whole spent));
  domains = refl;
}

-- by what is kept
pub does_start : (c : FabricConfig) (whole : Who) (node : ℕ) (records : List Record) (k : NodeKept) (instance : ℕ) (first spent : Bool) (new : Node) (told : List Report) (o : Outcome) → Amounts records k
    → spent ≡ nat_le last_number k.boots → instance ≡ (if nat_le last_number k.boots then k.boots else k.boots + 1)
    → first ≡ same_who (node_instance node instance) whole → step new [] told ≡ begun c (node_instance node instance) first spent → o.records ≡ (if spent then [] else Boot instance ∷ []) → o.frames ≡ [] → o.reports ≡ told
    → Does (node_begun_in fabric whole c node records) (core_of new (part_begun c k.states)) o
unfolding node_begun_in
does_start c whole node records k instance first spent new told o a s n w e r f t =
    let p : spent ≡ nat_le last_number (boots_of records) = s ∙ ap (nat_le last_number) (sym a.boots) in
    let q : instance ≡ instance_begun records = n ∙ ap (λ (b : ℕ). if nat_le last_number b then b else b + 1) (sym a.boots) in
    let me : Who = node_instance node (instance_begun records) in
    let d : step new [] told ≡ own_told (settings_of c node) (started_in whole c me (is_spent records)) =
    e
    ∙ (ap (λ (b : Bool). begun c (node_instance node instance) b spent) w
    ∙ (ap (λ (i : ℕ). begun c (node_instance node i) (same_who (node_instance node i) whole) spent) q
    ∙ (ap (λ (b : Bool). begun c me (same_who me whole) b) p
    ∙ ap (λ (k : Work). own_told (settings_of c node) k) (with_in whole c me (is_spent records))))) in
    record {
      state =
          ap (λ (x : Step). record { ring = x.work.ring; above = record { managed = record { units = []; reconfigs = [] }; states = k.states } }) d
          ∙ ap (λ (states : List (ℕ × ReplicaState)). record { ring = (started_in whole c me (is_spent records)).ring; above = record { managed = record { units = []; reconfigs = [] }; states = states } }) (sym a.states);
      records = r ∙ ap (λ (i : ℕ). if spent then [] else Boot i ∷ []) q ∙ ap (λ (x : Bool). if x then [] else Boot (instance_begun records) ∷ []) p;
      frames = f;
      reports = t ∙ ap (λ (x : Step). x.work.told) d;
    }

-- by what a call answers
pub ok_map : {T E : Type 0} {P Q : T → Type 0} (r : Result T E) → ((x : T) → P x → Q x) → IfOk r P → IfOk r Q
ok_map (Ok x) f h = f x h
ok_map (Err e) f h = h
