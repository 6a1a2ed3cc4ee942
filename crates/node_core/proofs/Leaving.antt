-- What stands in the effects is what the step leaves.
use Rattle.std.proofs.Common.{◌≡◌, ℕ, List, [], ◌++◌, sym, ap, ◌∙◌}
use Rattle.std.proofs.lemmas.List.{append-nil}
use Rattle.fabric_terms.specs.declared.config.FabricConfig.{FabricConfig}
use Rattle.fabric_terms.specs.declared.message.Body.{Body}
use Rattle.fabric_terms.specs.declared.message.Message.{Message}
use Rattle.fabric_terms.specs.declared.record.Record.{Record}
use Rattle.fabric_terms.specs.declared.report.Report.{Report}
use Rattle.fabric_terms.specs.Sent.{from_all}
use Rattle.ring_node.specs.declared.ownership.Owned.{Owned}
use Rattle.ring_node.specs.Nodes.{Node, step}
use Rattle.ring_node.specs.Owned.{own_since, owned_of}
use Rattle.ring_node.specs.Steps.{taken}
use Rattle.ring_points.specs.declared.who.Who.{Who}
use Rattle.ring_rules.specs.declared.input.Input.{Input}
use Rattle.unit_desk.specs.declared.unit_effects.UnitEffects as above
use Rattle.unit_desk.specs.UnitEffects.{Does as DoesAbove}
use Rattle.node_core.specs.UnitParts.{Part}
use Rattle.unit_rules.specs.Deeds.{Acted, did, frames_of, records_of, reports_of}
use Rattle.unit_rules.specs.Steps.{Failover}
use Rattle.world_rules.specs.Nodes.{above_acts, node_step}
use Rattle.unit_rules.specs.Fabric.{fabric}
use Rattle.node_core.specs.declared.node_effects.NodeEffects.{NodeEffects}
use Rattle.node_core.specs.declared.outcome.Outcome.{Outcome}
use Rattle.node_core.specs.NodeEffects.{IsClear}
use Rattle.node_core.specs.Nodes.{Does, GoesBy, core_of}
use Rattle.node_core.proofs.Sending.{OnlySends}
use Rattle.node_core.proofs.Steps.{does_step}

-- what a row above the ring leaves is in its effects
pub does_left : (c : FabricConfig) (now : ℕ) (i : Input) (n : Node) (p : Part) (new : Node) (q : Part) (sent : List (Who × Body)) (told : List Report) (o : Outcome) (a : Acted Failover)
    (before : NodeEffects) (after : above.UnitEffects) (owned : Owned)
    → GoesBy c (core_of n p) → step new sent told ≡ taken now i n → above_acts fabric c now i (core_of n p).state new.ring ≡ did a
    → IsClear before → DoesAbove a q.state before.units after → owned ≡ owned_of n
    → o.records ≡ before.records.items ++ after.records
    → o.frames ≡ (before.frames.items ++ from_all new.ring.me sent) ++ from_all new.ring.me after.out
    → o.reports ≡ ((before.reports.items ++ told) ++ after.told) ++ own_since owned new
    → Does (node_step fabric c now i (core_of n p).state) (core_of new q) o
does_left c now i n p new q sent told o a before after owned g e acts clear d own records frames reports =
    let kept : after.records ≡ records_of a.deeds = d.left.records ∙ ap (λ (rs : List Record). rs ++ records_of a.deeds) clear.units.records in
    let out : after.out ≡ frames_of a.deeds = d.left.sent ∙ ap (λ (ms : List (Who × Body)). ms ++ frames_of a.deeds) clear.units.sent in
    let tells : after.told ≡ reports_of a.deeds = d.left.told ∙ ap (λ (rs : List Report). rs ++ reports_of a.deeds) clear.units.told in
    does_step c now i n p new q sent told o a g e acts d.state
    (records ∙ ap (λ (rs : List Record). rs ++ after.records) clear.left.records ∙ kept)
    (frames ∙ ap (λ (ms : List Message). (ms ++ from_all new.ring.me sent) ++ from_all new.ring.me after.out) clear.left.frames ∙ ap (λ (ms : List (Who × Body)). from_all new.ring.me sent ++ from_all new.ring.me ms) out)
    (reports ∙ ap (λ (rs : List Report). ((rs ++ told) ++ after.told) ++ own_since owned new) clear.left.reports
    ∙ ap (λ (rs : List Report). (told ++ rs) ++ own_since owned new) tells
    ∙ ap (λ (x : Owned). (told ++ reports_of a.deeds) ++ own_since x new) own)

-- a firing has handed over what it sends
pub does_fired : (c : FabricConfig) (now : ℕ) (i : Input) (n : Node) (p : Part) (new : Node) (sent : List (Who × Body)) (told : List Report) (o : Outcome) (a : Acted Failover)
    (before : NodeEffects) (owned : Owned) (handed fired : List Message)
    → GoesBy c (core_of n p) → step new sent told ≡ taken now i n → above_acts fabric c now i (core_of n p).state new.ring ≡ did a
    → IsClear before → a.state ≡ p.state → OnlySends a.deeds → owned ≡ owned_of n
    → handed ≡ before.frames.items ++ from_all new.ring.me sent → fired ≡ handed ++ from_all new.ring.me (frames_of a.deeds)
    → o.records ≡ before.records.items ++ before.units.records → o.frames ≡ fired
    → o.reports ≡ ((before.reports.items ++ told) ++ before.units.told) ++ own_since owned new
    → Does (node_step fabric c now i (core_of n p).state) (core_of new p) o
does_fired c now i n p new sent told o a before owned handed fired g e acts clear state sends own first second records frames reports =
    does_step c now i n p new p sent told o a g e acts (sym state)
    (records ∙ ap (λ (rs : List Record). rs ++ before.units.records) clear.left.records ∙ clear.units.records ∙ sym sends.records)
    (frames ∙ second ∙ ap (λ (ms : List Message). ms ++ from_all new.ring.me (frames_of a.deeds)) (first ∙ ap (λ (ms : List Message). ms ++ from_all new.ring.me sent) clear.left.frames))
    (reports ∙ ap (λ (rs : List Report). ((rs ++ told) ++ before.units.told) ++ own_since owned new) clear.left.reports
    ∙ ap (λ (rs : List Report). (told ++ rs) ++ own_since owned new) (clear.units.told ∙ sym sends.told)
    ∙ ap (λ (x : Owned). (told ++ reports_of a.deeds) ++ own_since x new) own)

-- nothing more is handed over
pub none_more : (fs : List Message) (me : Who) (out above : List (Who × Body)) → out ≡ [] → above ≡ [] → (fs ++ from_all me out) ++ from_all me above ≡ fs
none_more fs me out above a b = rw (a, b) (ap (λ (ms : List Message). ms ++ []) (append-nil fs) ∙ append-nil fs)
