-- Which actors of a process listen.
use Rattle.std.specs.Prelude.{ℕ, ◌<◌, List}
use Rattle.edge_io.specs.declared.endpoint.Endpoint.{Endpoint}
use Rattle.edge_io.specs.Arrivals.{IsListening}

-- the actors below this number
abbrev pub AllListen : ℕ → List Endpoint → Type 0
AllListen count opened = (actor : ℕ) → actor < count → IsListening actor opened
