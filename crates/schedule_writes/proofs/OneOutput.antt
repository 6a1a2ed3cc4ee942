-- One text at most is written of a schedule.
use Rattle.std.proofs.Common.{◌≡◌, List, ℕ, ◌++◌, Option, None, Some, sym, ap, ◌∙◌, length}
use Rattle.fabric_status.specs.declared.status.Refusal.{Refusal}
use Rattle.fabric_terms.specs.declared.config.FabricConfig.{FabricConfig}
use Rattle.unit_rules.specs.Ruled.{ruled}
use Rattle.schedule_rules.specs.Output.{end_line}
use Rattle.schedule_rules.specs.Schedule.{Judged}
use Rattle.world_rules.specs.Runs.{History}
use Rattle.schedule_writes.specs.Laws.{OneOutput}
use Rattle.schedule_writes.specs.Writes.{IsKeptOf, IsOutputAt}
use Rattle.schedule_writes.proofs.SameLines.{same_lines}

one_kept : (o : Option FabricConfig) (h : History) (text other : List ℕ) → IsKeptOf o h text → IsKeptOf o h other → text ≡ other
one_kept None h text other a b = absurd a
one_kept (Some c) h text other a b =
    a.written
    ∙ (ap (λ l. l ++ end_line (length h) (ruled c h).count) (same_lines a.logs b.logs a.rise b.rise (λ p d. a.committed p d ∙ sym (b.committed p d)))
    ∙ sym b.written)

one_at : (j : Judged) (refusal : Option Refusal) (text other : List ℕ) → IsOutputAt j refusal text → IsOutputAt j refusal other → text ≡ other
one_at j None text other a b = one_kept j.config j.history text other a b
one_at j (Some refusal) text other a b = a ∙ sym b

pub one_output_lem : OneOutput
one_output_lem j text other a b = one_at j j.refused text other a b
