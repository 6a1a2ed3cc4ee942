-- When frames leave, beside the records on which they rest.
use Rattle.std.specs.Prelude.{◌≡◌, ◌⊎◌, ℕ, Bool, true, false, List, [], ◌++◌, Option, Some, None}
use Rattle.edge_io.specs.declared.datagram.Datagram.{Datagram}

-- the records of each actor, where they are told
abbrev pub Records : Type 0
Records = ℕ → Option (List (List ℕ))

-- nothing is pending: all that was appended is kept for good
abbrev pub AllKept : Records → Records → Type 0
AllKept kept appended = (any : ℕ) → kept any ≡ appended any

-- Never before the sync: where anything left, all that was appended before it is kept for good.
abbrev pub NeverBeforeSync : Option (List Datagram) → Option (List Datagram) → Records → Records → Type 0
NeverBeforeSync old new kept appended = (new ≡ old) ⊎ AllKept kept appended

-- frames wait: they are held back, or others wait before them
abbrev pub waits : Bool → List Datagram → Bool
waits held [] = held
waits held _ = true

-- what is sent once all that waits is sent
abbrev pub with_queue : Option (List Datagram) → List Datagram → Option (List Datagram)
with_queue None queue = None
with_queue (Some sent) queue = Some (sent ++ queue)

-- How a process stands: a frame leaves at once only where nothing waits before it and nothing is pending, and after a
-- failure no frame does.
pub record IsSound (failed holds : Bool) (queue : List Datagram) (kept appended : Records) : Type 0 where
  pub settled : holds ≡ false → AllKept kept appended
  pub empty : holds ≡ false → queue ≡ []
  pub silent : failed ≡ true → holds ≡ true
