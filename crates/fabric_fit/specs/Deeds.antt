-- What a row does, in range: what it records is, what it sends a frame can carry, and what it tells a line can.
use Rattle.std.specs.Prelude.{All, IsTrue}
use Rattle.frames_fit.specs.Formats.{ReportInRange, in_format}
use Rattle.unit_rules.specs.Deeds.{Acted, Deed, Keep, Send, Tell}
use Rattle.fabric_fit.specs.Records.{KeptRecord}

abbrev pub DeedInRange : Deed → Type 0
DeedInRange (Keep r) = KeptRecord r
DeedInRange (Send to b) = IsTrue (in_format (to, b))
DeedInRange (Tell r) = ReportInRange r

-- what stands after a row is in range, and what was done in it
pub record ActedInRange {S : Type 0} (InRange : S → Type 0) (a : Acted S) : Type 0 where
  pub state : InRange a.state
  pub deeds : All DeedInRange a.deeds
