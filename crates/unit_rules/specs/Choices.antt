-- What is chosen of the answers: the configuration that was done last, and the replica with the greatest log.
use Rattle.std.specs.Prelude.{ℕ, Bool, not, ◌&&◌, ◌||◌, ◌==◌, List, [], ◌∷◌, Option, Some, None, nat_lt, if◌then◌else◌}
use Rattle.std.specs.List.{list_any}
use Rattle.ring_points.specs.declared.unit.Config.{Config}
use Rattle.ring_points.specs.Epochs.{is_older}
use Rattle.unit_rules.specs.declared.reconfig.Standing.{Standing}
use Rattle.unit_rules.specs.Epochs.{is_behind}

abbrev pub is_among : ℕ → List ℕ → Bool
is_among n ns = list_any (λ m. m == n) ns

-- Of the configurations that were carried, the one of highest epoch; of two equal ones the first.

abbrev pub higher : Config → Option Config → Option Config
higher c None = Some c
higher c (Some d) = if is_older c.epoch d.epoch then Some d else Some c

abbrev pub higher_if : Option Config → Option Config → Option Config
higher_if None rest = rest
higher_if (Some c) rest = higher c rest

abbrev pub highest_done : List (ℕ × Option Config) → Option Config
highest_done [] = None
highest_done (a ∷ answers) = higher_if a.1 (highest_done answers)

-- Of the replicas that answered, the one with the greatest log: by its epoch, then by its last entry, then the lower number.

abbrev pub has_less : ℕ × Standing → ℕ × Standing → Bool
has_less a b = is_behind a.1.at a.1.last b.1.at b.1.last

abbrev pub is_ahead_of : ℕ × Standing → ℕ × Standing → Bool
is_ahead_of a b = has_less b a || (not (has_less a b) && nat_lt a.0 b.0)

abbrev pub ahead_of : ℕ × Standing → Option (ℕ × Standing) → Option (ℕ × Standing)
ahead_of a None = Some a
ahead_of a (Some b) = if is_ahead_of a b then Some a else Some b

abbrev pub furthest : List (ℕ × Standing) → Option (ℕ × Standing)
furthest [] = None
furthest (a ∷ answers) = ahead_of a (furthest answers)
