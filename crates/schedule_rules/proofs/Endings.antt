-- What a sink has more at each status, said in other words.
use Rattle.std.proofs.Common.{◌≡◌, ℕ, List, ◌++◌, Option, None, ap, subst, ◌∙◌}
use Rattle.edge_io.specs.Edge.{GrewByFront}
use Rattle.fabric_terms.specs.declared.config.FabricConfig.{FabricConfig}
use Rattle.fabric_status.specs.declared.status.Refusal.{Refusal}
use Rattle.fabric_status.specs.declared.status.Status.{Status}
use Rattle.fabric_status.specs.declared.status.Status.TheVariants as status
use Rattle.fabric_status.specs.Faults.{fault_line}
use Rattle.world_rules.specs.Runs.{History}
use Rattle.schedule_rules.specs.Endings.{EndsSo, WritesText, WritesFront, accepted, whole, stopped, StoppedText}
use Rattle.schedule_rules.specs.Schedule.{Judged}

-- two ways to say which text is written of a judgement, and which lines are told of a history
module _ (Text Other : Judged → List ℕ → Type 0) (lines others : Option FabricConfig → History → List ℕ) (j : Judged)
    (texts : (text : List ℕ) → Text j text → Other j text) (same : (o : Option FabricConfig) (h : History) → lines o h ≡ others o h) where
  text_as : (refusal : Option Refusal) (old new : Option (List ℕ)) → WritesText Text j refusal old new → WritesText Other j refusal old new
  text_as refusal old new w = record { refused = w.refused; text = w.text; output = texts w.text w.output; grew = w.grew }

  stopped_as : (left : Option (List ℕ)) (text : List ℕ) → StoppedText lines j left text → StoppedText others j left text
  stopped_as left text s = (s.0, s.1, s.2, s.3 ∙ ap (λ l. l ++ fault_line status.ReadFault) (same s.0 s.1))

  front_as : (left : Option (List ℕ)) (failed : Type 0) (old new : Option (List ℕ)) → WritesFront Text lines j left failed old new → WritesFront Other others j left failed old new
  front_as left failed old new (accepted grew) = accepted (subst (λ l. GrewByFront old new l) (same j.config j.history) grew)
  front_as left failed old new (whole text told grew) = whole text (texts text told) grew
  front_as left failed old new (stopped text cause output grew) = stopped text cause (stopped_as left text output) grew

  pub ends_as : (ended : Status) (left : Option (List ℕ)) (failed : Type 0) (old new : Option (List ℕ)) → EndsSo Text lines ended j left failed old new → EndsSo Other others ended j left failed old new
  ends_as status.Ok left failed old new w = text_as None old new w
  ends_as status.OutOfMemory left failed old new w = front_as left failed old new w
  ends_as status.ReadFault left failed old new w = record { text = w.text; output = stopped_as left w.text w.output; grew = w.grew }
  ends_as status.WriteFault left failed old new w = front_as left failed old new w
  ends_as (status.BadConfig e) left failed old new w = text_as _ old new w
  ends_as (status.BadLine n) left failed old new w = text_as _ old new w
  ends_as (status.DriftBroken n) left failed old new w = text_as _ old new w
  ends_as (status.NoSuch n) left failed old new w = text_as _ old new w
  ends_as (status.TooLarge n) left failed old new w = text_as _ old new w
  ends_as status.Usage left failed old new w = absurd w
  ends_as status.KeepFault left failed old new w = absurd w
  ends_as status.LinkFault left failed old new w = absurd w
  ends_as (status.ClockBack former latter) left failed old new w = absurd w
  ends_as (status.Left why) left failed old new w = absurd w
  ends_as (status.BadKeep i) left failed old new w = absurd w
  ends_as status.TableFull left failed old new w = absurd w
