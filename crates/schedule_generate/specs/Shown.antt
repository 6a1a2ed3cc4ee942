-- Readings, by the clocks that show them.
use Rattle.std.specs.Prelude.{ℕ, List, map}
use Rattle.ring_points.specs.declared.who.Who.{Who}

-- the nodes of these clocks, each with this reading
abbrev pub shown : ℕ → List (Who × ℕ) → List (ℕ × ℕ)
shown time clocks = map (λ clock. (clock.0.actor, time)) clocks

abbrev pub nodes_of : List (ℕ × ℕ) → List ℕ
nodes_of readings = map (λ r. r.0) readings
