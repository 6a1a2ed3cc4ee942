-- In which effects a world's steps are done tells in no history.
use Rattle.std.proofs.Common.{◌≡◌, ℕ, List, [], ap, ◌∙◌}
use Rattle.std.specs.Prelude.{Option, Box, Result, Ok, Err}
use Rattle.std.specs.declared.alloc.Global.{Global}
use Rattle.fabric_terms.specs.declared.config.FabricConfig.{FabricConfig}
use Rattle.fabric_terms.specs.declared.memory.OutOfMemory.{OutOfMemory as NoMemory}
use Rattle.fabric_terms.specs.declared.message.Message.{Message}
use Rattle.fabric_terms.specs.declared.record.Record.{Record}
use Rattle.fabric_terms.specs.declared.report.Report.{Report}
use Rattle.node_core.specs.NodeEffects.{left_in}
use Rattle.node_core.specs.declared.node_effects.NodeEffects.{NodeEffects}
use Rattle.node_core.specs.declared.outcome.Outcome.{Outcome}
use Rattle.unit_rules.specs.Fabric.{fabric}
use Rattle.world_rules.specs.Runs.{History}
use Rattle.world_rules.specs.Worlds.{Stepped}
use Rattle.ring_world.specs.Answers.{StandsFor}
use Rattle.ring_world.specs.Moves.{Steps}
use Rattle.ring_world.specs.declared.world.Acted.{Acted}
use Rattle.ring_world.specs.declared.world.World.{World}

pub steps_beside : (old new : World) (d e : Option (Box NodeEffects Global)) (st : Stepped fabric) (line : ℕ) (r : Result Acted NoMemory) → Steps (record old { effects = d }) new st line r → Steps old (record new { effects = e }) st line r
steps_beside old new d e st line (Ok acted) m = record { config = m.config; events = m.events; state = m.state; places = m.places; entry = m.entry; seen = m.seen }
steps_beside old new d e st line (Err short) m = record { seen = m.seen; places = m.places }

pub stands_beside : (a : World) (e : Option (Box NodeEffects Global)) (c : FabricConfig) (h : History) → StandsFor a c h → StandsFor (record a { effects = e }) c h
stands_beside a e c h s = record {
  config = s.config;
  sound = s.sound;
  fits = s.fits;
  valid = s.valid;
  keeps = record { state = s.keeps.state; events = s.keeps.events; places = s.keeps.places };
}

abbrev pub outcome : List Record → List Message → List Report → Outcome
outcome records frames reports = record { records = records; frames = frames; reports = reports }

-- the frames that are sent from the effects, and the reports that were taken out of them before, are what the step left
pub taken_out : (before after : NodeEffects) (frames : List Message) (reports : List Report) → frames ≡ (left_in after).frames → left_in after ≡ record (left_in before) { reports = [] } → reports ≡ (left_in before).reports
    → outcome before.records.items frames reports ≡ left_in before
taken_out before after frames reports sent rest told =
    ap (λ (fs : List Message). outcome before.records.items fs reports) (sent ∙ ap (λ (o : Outcome). o.frames) rest)
    ∙ ap (λ (rs : List Report). outcome before.records.items before.frames.items rs) told
