-- Events that are read.
use Rattle.std.specs.Prelude.{◌≡◌, Option, Some}
use Rattle.fabric_terms.specs.declared.event.Event.{Event}
use Rattle.fabric_terms.specs.Ranges.{Fits}

-- an event, if one is read, has its numbers, texts and lists in their ranges
pub record FitsIfRead (read : Option Event) : Type 0 where
  pub fits : (e : Event) → read ≡ Some e → Fits e
