-- How the refusal of an event refuses a schedule.
use Rattle.std.specs.Prelude.{ℕ, Option, Some, None}
use Rattle.fabric_status.specs.declared.status.Refusal.{Refusal}
use Rattle.fabric_status.specs.declared.status.Refusal.TheVariants.{DriftBroken, NoSuch, TooLarge}
use Rattle.ring_world.specs.declared.world.EventRefusal.{EventRefusal}

-- how an event at line n is refused, but for want of memory
abbrev pub refusal_at : EventRefusal → ℕ → Option Refusal
refusal_at EventRefusal.NoSuch n = Some (NoSuch n)
refusal_at (EventRefusal.DriftBroken broken) n = Some (DriftBroken n)
refusal_at EventRefusal.TooLarge n = Some (TooLarge n)
refusal_at EventRefusal.OutOfMemory n = None
