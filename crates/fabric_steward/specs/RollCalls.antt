-- Whether the members of a configuration were there when it was made.
use Rattle.std.specs.Prelude.{ℕ, ◌==◌, Bool, false, not, ◌&&◌, nat_lt, List, [], ◌∷◌, Option, Some, None, is_some, if◌then◌else◌}
use Rattle.std.specs.List.{list_any}
use Rattle.ring_points.specs.declared.who.Who.{Who}
use Rattle.fabric_steward.specs.declared.roll_call.RollCall.{RollCall}
use Rattle.fabric_steward.specs.declared.roll_call.RollCall.TheVariants.{NotBegun, Begun, Whole}
use Rattle.fabric_steward.specs.Facts.{Facts}
use Rattle.fabric_steward.specs.Times.{later}

abbrev pub instance_in : Option Who → ℕ
instance_in None = 0
instance_in (Some who) = who.instance

-- the sum of the instances of nodes that were heard last, on top of another sum
abbrev pub instances_heard : Facts → List ℕ → (sum : ℕ) → ℕ
instances_heard f [] sum = sum
instances_heard f (n ∷ ns) sum = instances_heard f ns (later sum (instance_in (f.heard n 0)))

-- a node was heard, but not since a reading
abbrev pub is_unheard : Facts → (since node : ℕ) → Bool
is_unheard f since n = is_some (f.heard n 0) && not (is_some (f.heard n since))

abbrev pub has_unheard : Facts → (since : ℕ) → List ℕ → Bool
has_unheard f since ns = list_any (λ n. is_unheard f since n) ns

abbrev pub roll_seen : Facts → (now : ℕ) → (members : List ℕ) → RollCall → RollCall
roll_seen f now ms NotBegun = Begun now (instances_heard f ms 0)
roll_seen f now ms (Begun since instances) =
    if instances_heard f ms 0 == instances && not (has_unheard f since ms) then Whole else Begun since instances
roll_seen f now ms Whole = Whole

-- a member was heard in a later instance before all were heard
abbrev pub is_missed : Facts → (members : List ℕ) → RollCall → Bool
is_missed f ms (Begun since instances) = nat_lt instances (instances_heard f ms 0)
is_missed f ms _ = false
