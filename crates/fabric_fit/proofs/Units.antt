-- Managers and replicas above the ring, and registers beside, keep to the ranges of frames.
use Rattle.std.proofs.Common.{refl, arith}
use Rattle.std.specs.Prelude.{[], IsTrue}
use Rattle.std.proofs.lemmas.List.Elements.{All-nil}
use Rattle.fabric_terms.specs.Fields.{is_short}
use Rattle.frames_fit.specs.Above.{SendsInFormat}
use Rattle.frames_fit.specs.Laws.{FramesAreInFormat, ReportsAreInRange}
use Rattle.frames_fit.proofs.Valid.{frames_in_format, reports_in_range}
use Rattle.unit_rules.specs.Loads.{site_of}
use Rattle.unit_rules.specs.Steps.{failover_step}
use Rattle.unit_rules.specs.Units.{units}
use Rattle.fabric_fit.specs.Failovers.{FailoverInRange}
use Rattle.fabric_fit.specs.Managers.{ReconfigInRange, UnitInRange, UnitsInRange}
use Rattle.fabric_fit.specs.Records.{UnitRecord}
use Rattle.fabric_fit.specs.Registers.{RegisterInRange, RegistersInRange}
use Rattle.fabric_fit.proofs.Answers.{question_in_format}
use Rattle.fabric_fit.proofs.Deeds.{did_in_format}
use Rattle.fabric_fit.proofs.Ranges.{after_in_range}
use Rattle.fabric_fit.proofs.Rows.{step_in_range}
use Rattle.fabric_fit.proofs.Starts.{states_begun_in_range}

-- no unit is known at the start
pub none_known : UnitsInRange []
none_known = record {
  rise = refl;
  few = omega arith;
  numbers = All-nil (λ e. IsTrue (is_short e.0));
  each = All-nil (λ e. UnitInRange e.1);
}

-- those above that step a node need its ranges, so it unfolds
unfoldable pub units_send : SendsInFormat units
units_send = record {
  Above = λ c s. FailoverInRange s;
  Beside = λ c s. RegistersInRange s;
  Kept = UnitRecord;
  above_begun = λ c me records sound h kept.
      record {
        managed = record { units = none_known; reconfigs = All-nil (λ e. ReconfigInRange e.1) };
        states = states_begun_in_range records kept;
      };
  above_step = λ c now r s i sound reads h above fits.
      did_in_format FailoverInRange (failover_step (site_of c r.me.actor) now r s i) (step_in_range s above c sound now r i fits);
  beside_begun = λ c arbiter records sound kept. after_in_range [] records (All-nil RegisterInRange) kept;
  beside_step = λ c arbiter s m sound h fits. question_in_format m s h fits;
}

pub units_in_format : FramesAreInFormat units
units_in_format = frames_in_format units units_send

pub units_tell_in_range : ReportsAreInRange units
units_tell_in_range = reports_in_range units units_send
