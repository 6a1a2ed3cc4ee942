-- An actor that runs has been started from good records, and its steps have come since.
use Rattle.std.specs.Prelude.{◌≡◌, ℕ, List, [], ◌∷◌, Option, All}
use Rattle.fabric_terms.specs.declared.config.FabricConfig.{FabricConfig}
use Rattle.fabric_terms.specs.declared.record.Record.{Record}
use Rattle.fabric_terms.specs.Ranges.{IsNumber}
use Rattle.frames_fit.specs.Formats.{InputInFormat}
use Rattle.ring_points.specs.declared.who.Who.{Who}
use Rattle.ring_rules.specs.declared.input.Input.{Input}
use Rattle.turn_rules.specs.Recalled.{IsGoodFor}
use Rattle.turn_rules.specs.Steps.{Member, begun, present, stepped}

-- what came to it: in which turn, at which last reading of the clock, and what
pub record Came : Type 0 where
  pub turn : ℕ
  pub last : Option ℕ
  pub input : Input

-- what comes is in its ranges, be it forged or not
pub record FitsCame (x : Came) : Type 0 where
  pub reading : IsNumber (present x.last)
  pub input : InputInFormat x.input

-- an actor after all of this, the newest first
abbrev pub member_after : FabricConfig → Member → List Came → Member
member_after c m [] = m
member_after c m (x ∷ xs) = (stepped c x.turn x.last x.input (member_after c m xs)).member

-- the actor runs as this
pub record Lives (c : FabricConfig) (actor : ℕ) (m : Member) : Type 0 where
  pub whole : Who
  pub turn : ℕ
  pub last : Option ℕ
  pub records : List Record
  pub good : IsGoodFor actor records
  pub came : List Came
  pub fits : All FitsCame came
  pub is : m ≡ member_after c (begun c whole turn last actor records).member came
