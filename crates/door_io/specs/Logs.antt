-- What becomes of a line of the log.
use Rattle.std.specs.Prelude.{◌≡◌, ℕ, ◌⊎◌, List, [], ◌∷◌, Option}
use Rattle.edge_io.specs.Edge.{Grew}
use Rattle.edge_io.specs.Plan.{counted}

-- the line is in the log, where the log tells, or else it is counted as dropped
abbrev pub LogsOrDrops : List ℕ → Option (List (List ℕ)) → Option (List (List ℕ)) → ℕ → ℕ → Type 0
LogsOrDrops line logged logged' dropped dropped' =
    (Grew logged logged' (line ∷ []) × (dropped' ≡ dropped)) ⊎ ((logged' ≡ logged) × (dropped' ≡ counted dropped))
