-- What the words tell, and what a report is.
use Rattle.std.proofs.Common.{◌≡◌, ℕ, List, [], ◌∷◌, ◌++◌, Option, Some, None, refl, ap, ◌∙◌, append_assoc}
use Rattle.unit_rules.specs.Fabric.{fabric}
use Rattle.fabric_terms.specs.declared.config.FabricConfig.{FabricConfig}
use Rattle.fabric_terms.specs.declared.event.Event.{Event}
use Rattle.fabric_status.specs.declared.status.Refusal.{Refusal}
use Rattle.fabric_status.specs.declared.status.Status.{Status}
use Rattle.fabric_status.specs.Codes.{status_of}
use Rattle.fabric_status.specs.Faults.{fault_line}
use Rattle.ring_world.specs.Answers.{Takes, entry_of}
use Rattle.unit_rules.specs.Ruled.{ruled}
use Rattle.ring_world.specs.declared.world.Acted.{Acted}
use Rattle.ring_world.specs.declared.world.World.{World}
use Rattle.world_rules.specs.Events.{world_step}
use Rattle.world_rules.specs.Runs.{History, run_of, moment_of}
use Rattle.schedule_replay.specs.Acts.{told_lines}
use Rattle.schedule_rules.specs.Endings.{EndsSo}
use Rattle.schedule_rules.specs.Output.{IsOutput, IsOutputAt, IsWhole, entry_lines, lines_of_run}
use Rattle.schedule_rules.specs.Replays.{run_lines, Writes}
use Rattle.schedule_rules.specs.Schedule.{Judged}
use Rattle.schedule_rules.specs.Telling.{IsTold, IsToldAt, IsToldWhole, lines_told, lines_judged}
use Rattle.schedule_rules.specs.Tellings.{moment_lines, newest, replay_telling}
use Rattle.schedule_rules.specs.Traces.{clocks_line, group}
use Rattle.fabric_terms.specs.Runs.{Clocks, clocks_of}
use Rattle.schedule_rules.proofs.Endings.{ends_as}

-- what an actor told is what stands in the moment of the event
pub told_seen : (a : World) (c : FabricConfig) (h : History) (line : ℕ) (e : Event) (acted : Option Acted) → Takes a c h line e acted → told_lines acted ≡ moment_lines (moment_of {a = fabric} line (world_step fabric c (ruled c h) e))
told_seen a c h line e None takes = ap (entry_lines line (world_step fabric c (ruled c h) e).world.time) takes.entry
told_seen a c h line e (Some acted) takes =
    ap (λ l. entry_lines l acted.time (entry_of (Some acted))) takes.seen.0
    ∙ (ap (λ t. entry_lines line t (entry_of (Some acted))) takes.seen.1 ∙ ap (entry_lines line (world_step fabric c (ruled c h) e).world.time) takes.entry)

same_lines : (c : FabricConfig) (h : History) → lines_told replay_telling c h ≡ lines_of_run (run_of fabric c h)
same_lines c [] = refl
same_lines c (e ∷ h) = ap (λ l. l ++ newest moment_lines (run_of fabric c (e ∷ h))) (same_lines c h)

same_judged : (o : Option FabricConfig) (h : History) → lines_judged replay_telling o h ≡ run_lines o h
same_judged None h = refl
same_judged (Some c) h = same_lines c h

whole_report : (o : Option FabricConfig) (h : History) (text : List ℕ) → IsToldWhole replay_telling o h text → IsWhole o h text
whole_report None h text told = told
whole_report (Some c) h text told = record {
  places = told.1.0;
  placed = told.1.1;
  written = told.2 ∙ (ap (λ l. l ++ told.0) (same_lines c h) ∙ ap (λ e. lines_of_run (run_of fabric c h) ++ e) told.1.2);
}

output_at : (j : Judged) (refusal : Option Refusal) (text : List ℕ) → IsToldAt replay_telling j refusal text → IsOutputAt j refusal text
output_at j None text told = whole_report j.config j.history text told
output_at j (Some refusal) text told = told ∙ ap (λ l. l ++ fault_line (status_of refusal)) (same_judged j.config j.history)

output_of : (j : Judged) (text : List ℕ) → IsTold replay_telling j text → IsOutput j text
output_of j text told = output_at j j.refused text told

-- what the reports' teller writes is what `replay` writes
pub replay_writes : (ended : Status) (j : Judged) (left : Option (List ℕ)) (failed : Type 0) (old new : Option (List ℕ)) → EndsSo (IsTold replay_telling) (lines_judged replay_telling) ended j left failed old new → Writes ended j left failed old new
replay_writes ended j left failed old new w =
    ends_as (IsTold replay_telling) IsOutput (lines_judged replay_telling) run_lines j (output_of j) same_judged ended left failed old new w

-- the group of an event: its clocks, and what was told
pub traced : (a : World) (c : FabricConfig) (h : History) (line : ℕ) (e : Event) (acted : Option Acted) (clocks : Clocks) (old mid new : List ℕ) → Takes a c h line e acted → clocks ≡ clocks_of (run_of fabric c ((line, e) ∷ h)) → mid ≡ old ++ clocks_line line clocks → new ≡ mid ++ told_lines acted → new ≡ old ++ newest group (run_of fabric c ((line, e) ∷ h))
traced a c h line e acted clocks old mid new takes shown first second =
    let m = moment_of {a = fabric} line (world_step fabric c (ruled c h) e) in
    second
    ∙ (ap (λ t. t ++ told_lines acted) (first ∙ ap (λ k. old ++ clocks_line line k) shown)
    ∙ (append_assoc old (clocks_line line m.clocks) (told_lines acted)
    ∙ ap (λ t. old ++ (clocks_line line m.clocks ++ t)) (told_seen a c h line e acted takes)))
