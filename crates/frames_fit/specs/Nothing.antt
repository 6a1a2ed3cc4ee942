-- That nothing above the ring keeps to the ranges of frames: it sends and records nothing.
use Rattle.std.proofs.lemmas.List.Elements.{All-nil}
use Rattle.std.specs.Prelude.{IsTrue}
use Rattle.world_rules.specs.Nothing.{nothing}
use Rattle.world_rules.specs.Uppers.{idle}
use Rattle.frames_fit.specs.Above.{DidInFormat, SendsInFormat}
use Rattle.frames_fit.specs.Formats.{ReportInRange, in_format}
use Rattle.frames_fit.specs.Tables.{RecordInRange}

-- of an actor that does nothing, all that it does is in its format
idle_in_format : DidInFormat {S = Unit {0}} (λ s. Unit {0}) (RecordInRange (λ r. Unit {0})) (idle tt)
idle_in_format = record { state = tt; records = All-nil (RecordInRange (λ r. Unit {0})); sent = All-nil (λ m. IsTrue (in_format m)); told = All-nil ReportInRange }

pub nothing_sends : SendsInFormat nothing
nothing_sends = record {
  Above = λ c s. Unit {0};
  Beside = λ c s. Unit {0};
  Kept = λ r. Unit {0};
  above_begun = λ c me records sound h kept. tt;
  above_step = λ c now r s i sound reads h above fits. idle_in_format;
  beside_begun = λ c arbiter records sound kept. tt;
  beside_step = λ c arbiter s m sound h k. idle_in_format;
}
