-- What a sink has more where a text is written last, and with which status that ends.
use Rattle.std.specs.Prelude.{◌≡◌, ◌⊎◌, ℕ, List, Option}
use Rattle.edge_io.specs.Edge.{Grew, GrewByFront, HasRisen}
use Rattle.fabric_status.specs.declared.status.Status.{Status}
use Rattle.fabric_status.specs.declared.status.Status.TheVariants as status

-- the text was written whole with the status, or a front of it with that of a sink that wants memory or failed
abbrev pub Wrote : Status → List ℕ → Status → Option (List ℕ) → Option (List ℕ) → ℕ → ℕ → Type 0
Wrote wanted text ended old new before now =
    ((ended ≡ wanted) × Grew old new text)
    ⊎ (((ended ≡ status.OutOfMemory) × GrewByFront old new text) ⊎ ((ended ≡ status.WriteFault) × GrewByFront old new text × HasRisen before now))
