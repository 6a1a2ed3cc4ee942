-- What an actor does in a step, and what runs above the ring at a node and beside the accusations at an arbitrator.
use Rattle.std.specs.Prelude.{ℕ, List, []}
use Rattle.ring_points.specs.declared.who.Who.{Who}
use Rattle.fabric_terms.specs.declared.config.FabricConfig.{FabricConfig}
use Rattle.fabric_terms.specs.declared.message.Body.{Body}
use Rattle.fabric_terms.specs.declared.message.Message.{Message}
use Rattle.fabric_terms.specs.declared.record.Record.{Record}
use Rattle.fabric_terms.specs.declared.report.Report.{Report}
use Rattle.ring_rules.specs.declared.input.Input.{Input}
use Rattle.ring_rules.specs.Rings.{Ring}

-- what is done in a step: the new state, what is recorded before a frame leaves, what is sent to whom, and what is told
pub record Did (S : Type 0) : Type 0 where
  pub state : S
  pub records : List Record
  pub sent : List (Who × Body)
  pub told : List Report

-- nothing
abbrev pub idle : {S : Type 0} → S → Did S
idle s = record { state = s; records = []; sent = []; told = [] }

-- The states of what runs above and beside, how each begins from the kept records, and its steps: above with the reading
-- and the ring after the ring's own step, beside with a frame. What is told beside is not seen.
pub record Upper : Type 1 where
  pub Above : Type 0
  pub Beside : Type 0
  pub above_begun : FabricConfig → Who → List Record → Above
  pub above_step : FabricConfig → ℕ → Ring → Above → Input → Did Above
  pub beside_begun : FabricConfig → ℕ → List Record → Beside
  pub beside_step : FabricConfig → ℕ → Beside → Message → Did Beside
