-- Actors and instances.
use Rattle.std.specs.Prelude.{ℕ, ◌+◌, Bool, ◌&&◌, ◌==◌}
use Rattle.ring_points.specs.declared.who.Who.{Who}

abbrev pub same_who : Who → Who → Bool
same_who v w = v.actor == w.actor && v.instance == w.instance

abbrev pub node_instance : ℕ → ℕ → Who
node_instance node instance = record { actor = node; instance = instance }

-- arbitrator a is this actor
abbrev pub arbiter_actor : ℕ → ℕ
arbiter_actor a = 32768 + a
