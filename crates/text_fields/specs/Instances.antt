-- Instances: a node, a point and the number of its start; or an arbitrator.
use Rattle.std.specs.Prelude.{ℕ, ◌-◌, List, ◌++◌, codes, decimal, nat_lt, if◌then◌else◌}
use Rattle.ring_points.specs.Limits.{most_counter}
use Rattle.ring_points.specs.declared.who.Who.{Who}
use Rattle.ring_points.specs.Whos.{arbiter_actor}
use Rattle.text_fields.specs.Actors.{node_at, arbiter_at}
use Rattle.text_fields.specs.Fields.{Field, made_at, pair_at, behind}
use Rattle.text_fields.specs.Numbers.{number_in}

abbrev pub instance_made : ℕ × ℕ → Who
instance_made w = record { actor = w.0; instance = w.1 }

-- an arbitrator's instance is 0
abbrev pub arbiter_made : ℕ → Who
arbiter_made actor = record { actor = actor; instance = 0 }

abbrev pub instance_at : List ℕ → Field Who
instance_at = made_at instance_made (pair_at node_at (codes ".") (number_in 1 most_counter))

abbrev pub who_at : List ℕ → Field Who
who_at = behind (codes "a") (made_at arbiter_made arbiter_at) instance_at

abbrev pub who_text : Who → List ℕ
who_text w =
    if nat_lt (arbiter_actor 0) w.actor
    then codes "a" ++ decimal (w.actor - arbiter_actor 0)
    else decimal w.actor ++ (codes "." ++ decimal w.instance)
