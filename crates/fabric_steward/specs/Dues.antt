-- When a pause or a time of the policy is over next.
use Rattle.std.specs.Prelude.{ℕ, ◌*◌, min, nat_lt, List, [], ◌∷◌, Option, Some, None, if◌then◌else◌}
use Rattle.fabric_steward.specs.declared.node_watch.NodeWatch.{NodeWatch}
use Rattle.fabric_steward.specs.declared.unit_watch.UnitWatch.{UnitWatch}
use Rattle.fabric_steward.specs.Policies.{Policy}
use Rattle.fabric_steward.specs.Times.{greatest_reading, later, look_time}

-- the sooner of two readings, if the first is still to come
abbrev pub sooner : (now reading due : ℕ) → ℕ
sooner now reading due = if nat_lt now reading then min reading due else due

abbrev pub sooner_after : (now ticks : ℕ) → Option ℕ → (due : ℕ) → ℕ
sooner_after now ticks None due = due
sooner_after now ticks (Some reading) due = sooner now (later reading ticks) due

abbrev pub node_due : (now lease : ℕ) → NodeWatch → (due : ℕ) → ℕ
node_due now lease n due = sooner_after now (lease * 2) n.greeted (sooner_after now lease n.asked due)

abbrev pub nodes_due : (now lease : ℕ) → List NodeWatch → (due : ℕ) → ℕ
nodes_due now lease [] due = due
nodes_due now lease (n ∷ ns) due = nodes_due now lease ns (node_due now lease n due)

abbrev pub unit_due : (now lease heal_after : ℕ) → UnitWatch → (due : ℕ) → ℕ
unit_due now lease heal_after w due =
    sooner_after now w.pause w.commanded (
    sooner_after now (lease * 2) w.commanded (
    sooner_after now heal_after w.down (
    sooner_after now heal_after w.few (sooner_after now heal_after w.missed due))))

abbrev pub units_due : (now lease heal_after : ℕ) → List UnitWatch → (due : ℕ) → ℕ
units_due now lease heal_after [] due = due
units_due now lease heal_after (w ∷ ws) due = units_due now lease heal_after ws (unit_due now lease heal_after w due)

-- those of the policy itself
abbrev pub own_due : (now : ℕ) → Policy → ℕ
own_due now s = sooner now s.join_due (
    sooner_after now (s.lease * 2) s.manager_asked (
    sooner_after now (look_time s.lease s.heal_after) s.manages_since greatest_reading))

-- the first reading after this one at which something is over that the policy waits for
abbrev pub due : (now : ℕ) → Policy → ℕ
due now s = units_due now s.lease s.heal_after s.units (nodes_due now s.lease s.nodes (own_due now s))
