-- One text at most is written of a schedule.
use Rattle.std.proofs.Common.{◌≡◌, ℕ, List, ◌++◌, length, Option, Some, None, ap, sym, ◌∙◌}
use Rattle.fabric_terms.specs.Places.{place_of}
use Rattle.fabric_terms.specs.Reports.{told}
use Rattle.fabric_terms.specs.declared.config.FabricConfig.{FabricConfig}
use Rattle.point_places.proofs.OneText.{one_text}
use Rattle.ring_points.specs.Whos.{node_instance}
use Rattle.unit_rules.specs.Ruled.{ruled}
use Rattle.point_places.specs.Holders.{holds_in}
use Rattle.unit_rules.specs.Fabric.{fabric}
use Rattle.world_rules.specs.Runs.{History, run_of}
use Rattle.schedule_rules.specs.Laws.{OneOutput}
use Rattle.schedule_rules.specs.Output.{IsReport, IsWhole, IsOutputAt, end_line, lines_of_run}
use Rattle.schedule_rules.specs.Schedule.{Judged}
use Rattle.fabric_status.specs.declared.status.Refusal.{Refusal}

one_report : (c : FabricConfig) (h : History) (text other : List ℕ) → IsReport c h text → IsReport c h other → text ≡ other
one_report c h text other a b =
    let places : a.places ≡ b.places = one_text (place_of (node_instance c.first 1) (told (run_of fabric c h))) (holds_in (run_of fabric c h)) a.places b.places a.placed b.placed in
    a.written ∙ (ap (λ p. lines_of_run (run_of fabric c h) ++ (p ++ end_line (length h) (ruled c h).count)) places ∙ sym b.written)

one_whole : (o : Option FabricConfig) (h : History) (text other : List ℕ) → IsWhole o h text → IsWhole o h other → text ≡ other
one_whole None h text other a b = absurd a
one_whole (Some c) h text other a b = one_report c h text other a b

one_at : (j : Judged) (refused : Option Refusal) (text other : List ℕ) → IsOutputAt j refused text → IsOutputAt j refused other → text ≡ other
one_at j None text other a b = one_whole j.config j.history text other a b
one_at j (Some refusal) text other a b = a ∙ sym b

pub one_output_lem : OneOutput
one_output_lem j text other a b = one_at j j.refused text other a b
