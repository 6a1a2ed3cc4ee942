-- What runs above the ring at a node and beside the accusations at an arbitrator keeps to the ranges of frames.
use Rattle.std.specs.Prelude.{ℕ, List, All, IsTrue}
use Rattle.fabric_terms.specs.declared.config.FabricConfig.{FabricConfig}
use Rattle.fabric_terms.specs.declared.message.Message.{Message}
use Rattle.fabric_terms.specs.declared.record.Record.{Record}
use Rattle.fabric_terms.specs.Sound.{IsSound}
use Rattle.ring_points.specs.declared.who.Who.{Who}
use Rattle.ring_rules.specs.declared.input.Input.{Input}
use Rattle.ring_rules.specs.Rings.{Ring}
use Rattle.fabric_terms.specs.Fields.{is_who}
use Rattle.fabric_terms.specs.Messages.{is_sound}
use Rattle.fabric_terms.specs.Ranges.{IsNumber}
use Rattle.world_rules.specs.Uppers.{Upper, Did}
use Rattle.frames_fit.specs.Formats.{InputInFormat, ReportInRange, in_format}
use Rattle.frames_fit.specs.InRange.{IsInRange}
use Rattle.frames_fit.specs.Tables.{RecordInRange}

-- a step leaves a state that is in range, records and tells what is, and sends only frames in their format
pub record DidInFormat {S : Type 0} (InRange : S → Type 0) (Kept : Record → Type 0) (d : Did S) : Type 0 where
  pub state : InRange d.state
  pub records : All Kept d.records
  pub sent : All (λ m. IsTrue (in_format m)) d.sent
  pub told : All ReportInRange d.told

-- The states above and beside that are in range, and the records that they keep; each state begins in range, and each
-- step that is given what is in range keeps it so.
pub record SendsInFormat (a : Upper) : Type 1 where
  pub Above : FabricConfig → a.Above → Type 0
  pub Beside : FabricConfig → a.Beside → Type 0
  -- of the kinds of records that are not the ring's
  pub Kept : Record → Type 0
  pub above_begun : (c : FabricConfig) (me : Who) (records : List Record) → IsSound c → IsTrue (is_who me) → All (RecordInRange Kept) records →
      Above c (a.above_begun c me records)
  pub above_step : (c : FabricConfig) (now : ℕ) (r : Ring) (s : a.Above) (i : Input) → IsSound c → IsNumber now → IsInRange c r → Above c s →
      InputInFormat i → DidInFormat (Above c) (RecordInRange Kept) (a.above_step c now r s i)
  pub beside_begun : (c : FabricConfig) (arbiter : ℕ) (records : List Record) → IsSound c → All (RecordInRange Kept) records →
      Beside c (a.beside_begun c arbiter records)
  pub beside_step : (c : FabricConfig) (arbiter : ℕ) (s : a.Beside) (m : Message) → IsSound c → Beside c s → IsTrue (is_sound m) →
      DidInFormat (Beside c) (RecordInRange Kept) (a.beside_step c arbiter s m)
