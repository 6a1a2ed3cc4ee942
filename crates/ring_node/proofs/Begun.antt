-- An instance that begins in one of its ways is as the rules begin it.
use Rattle.std.proofs.Common.{◌≡◌, ◌∙◌, Bool, true, false, List, [], refl, ap}
use Rattle.fabric_terms.specs.declared.config.FabricConfig.{FabricConfig}
use Rattle.fabric_terms.specs.declared.report.Report.{Report}
use Rattle.join_phases.specs.declared.phases.Phase.{Phase}
use Rattle.ring_node.specs.Begins.{begun_phase, begun_ranges, begun_told}
use Rattle.ring_node.specs.Nodes.{Node, Step, step}
use Rattle.ring_node.specs.Steps.{begun}
use Rattle.ring_points.specs.declared.interval.Interval.{Interval}
use Rattle.ring_points.specs.declared.who.Who.{Who}
use Rattle.ring_rules.specs.Rings.{settings_of}
use Rattle.ring_rules.specs.Starts.{new_ring, node_started}

abbrev begun_as : FabricConfig → Who → Phase → List Interval → List Report → Step
begun_as c me phase ranges told =
    record { settings = settings_of c me.actor; work = record { ring = new_ring c me phase ranges; sent = []; told = told } }

begun_is : (c : FabricConfig) (me : Who) (whole spent : Bool) → begun_as c me (begun_phase whole spent) (begun_ranges whole spent) (begun_told spent (begun_ranges whole spent)) ≡ begun c me whole spent
unfolding node_started
begun_is c me true true = refl
begun_is c me true false = refl
begun_is c me false true = refl
begun_is c me false false = refl

pub begun_by : (c : FabricConfig) (me : Who) (whole spent : Bool) (n : Node) (phase : Phase) (ranges : List Interval) (told : List Report) → n.settings ≡ settings_of c me.actor → n.ring ≡ new_ring c me phase ranges
    → phase ≡ begun_phase whole spent → ranges ≡ begun_ranges whole spent → told ≡ begun_told spent ranges → step n [] told ≡ begun c me whole spent
begun_by c me whole spent n phase ranges told settings ring p q t =
    let parts : step n [] told ≡ begun_as c me phase ranges (begun_told spent ranges) = λ k. record { settings = settings k; work = record { ring = ring k; sent = []; told = t k } } in
    parts
    ∙ (ap (λ (x : Phase). begun_as c me x ranges (begun_told spent ranges)) p
    ∙ (ap (λ (x : List Interval). begun_as c me (begun_phase whole spent) x (begun_told spent x)) q ∙ begun_is c me whole spent))
