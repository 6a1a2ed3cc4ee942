-- Actors: a node's number, or an arbitrator's behind the letter a.
use Rattle.std.specs.Prelude.{ℕ, ◌-◌, List, ◌++◌, codes, decimal, nat_lt, if◌then◌else◌}
use Rattle.ring_points.specs.Limits.{most_arbiters, most_node_number}
use Rattle.ring_points.specs.Whos.{arbiter_actor}
use Rattle.text_fields.specs.Fields.{Field, made_at, behind}
use Rattle.text_fields.specs.Numbers.{number_in}

abbrev pub node_at : List ℕ → Field ℕ
node_at = number_in 1 most_node_number

-- an arbitrator, behind its letter
abbrev pub arbiter_at : List ℕ → Field ℕ
arbiter_at = made_at arbiter_actor (number_in 1 most_arbiters)

abbrev pub actor_at : List ℕ → Field ℕ
actor_at = behind (codes "a") arbiter_at node_at

abbrev pub actor_text : ℕ → List ℕ
actor_text actor = if nat_lt (arbiter_actor 0) actor then codes "a" ++ decimal (actor - arbiter_actor 0) else decimal actor
