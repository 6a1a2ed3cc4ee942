-- Fences that do not fall.
use Rattle.std.specs.Prelude.{◌≡◌, ℕ, ◌+◌, ◌≤◌, false, Option, Some, None}
use Rattle.ring_rules.specs.declared.input.Input.{Input}
use Rattle.ring_rules.specs.declared.link.Link.{Link}
use Rattle.ring_rules.specs.Rings.{Ring, Settings, Slots}
use Rattle.ring_rules.specs.Slots.{fence_of, slot_at}
use Rattle.ring_rules.specs.Steps.{ring_step}
use Rattle.span_safety.specs.Lengths.{gives_length}

-- each link of the table has this length
abbrev pub HaveLength : ℕ → Slots → Type 0
HaveLength len slots = (i : ℕ) (l : Link) → slot_at i slots ≡ Some l → l.len ≡ len

-- the fence, if there is one, is no sooner
abbrev pub NoSooner : ℕ → Option ℕ → Type 0
NoSooner least None = Unit {0}
NoSooner least (Some fence) = least ≤ fence

-- all links have the configured length, and the fence is no sooner than this
pub record Keeps (set : Settings) (least : ℕ) (slots : Slots) : Type 0 where
  pub lengths : HaveLength set.lease slots
  pub fence : NoSooner least (fence_of set.answer slots)

-- In a step that names no length this stays, for each time that a new link of the configured length would reach. The node may
-- leave: then it has no links, and owns nothing.
abbrev pub StepsKeepFences : Type 0
StepsKeepFences =
    (set : Settings) (now least : ℕ) (i : Input) (r : Ring) → gives_length i ≡ false → least ≤ now + set.lease + set.answer →
    Keeps set least r.slots → Keeps set least (ring_step set now i r).ring.slots
