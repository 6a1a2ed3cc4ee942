-- What arrives at an actor, and which actors listen.
use Rattle.std.specs.Prelude.{◌≡◌, ◌==◌, ℕ, List, [], ◌∷◌, length, take, drop, Option, Some, None, IsTrue}
use Rattle.std.specs.List.{list_any}
use Rattle.edge_io.specs.declared.endpoint.Endpoint.{Endpoint}

-- an endpoint of the actor was opened
abbrev pub IsListening : ℕ → List Endpoint → Type 0
IsListening actor opened = IsTrue (list_any (λ e. e.actor == actor) opened)

-- the next of what is to arrive: a datagram's bytes, or None where it is absent or nothing is left
abbrev pub next_arrival : List (Option (List ℕ)) → Option (List ℕ)
next_arrival [] = None
next_arrival (arrival ∷ rest) = arrival

-- the answer of a receive that finds this, and the buffer after it
abbrev pub Hands : Option (List ℕ) → Option ℕ → List ℕ → Type 0
Hands None answer into = answer ≡ None
Hands (Some bytes) answer into = (answer ≡ Some (length bytes)) × (take (length bytes) into ≡ bytes)

-- where it tells what is to arrive, the next of it was handed over
abbrev pub Receives : Option (List (Option (List ℕ))) → Option ℕ → List ℕ → Option (List (Option (List ℕ))) → Type 0
Receives old answer into new = (arrivals : List (Option (List ℕ))) → old ≡ Some arrivals → Hands (next_arrival arrivals) answer into × (new ≡ Some (drop 1 arrivals))
