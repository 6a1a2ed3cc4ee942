-- The rules of the policy, in the order of their table: the first one that applies gives the command.
use Rattle.std.specs.Prelude.{ℕ, ◌-◌, ◌*◌, ◌==◌, min, max, Bool, true, false, not, ◌&&◌, ◌||◌, nat_le, nat_lt, List, [], ◌∷◌, find, count_by, slice_get, option_map, Option, Some, None, is_some, is_none, if◌then◌else◌}
use Rattle.std.specs.List.{list_any}
use Rattle.ring_points.specs.declared.who.Who.{Who}
use Rattle.fabric_terms.specs.declared.command.Command.{Command}
use Rattle.fabric_terms.specs.declared.command.Command.TheVariants as command
use Rattle.fabric_steward.specs.declared.advice.Advice.{Advice}
use Rattle.fabric_steward.specs.declared.advice.Advice.TheVariants.{Join, Look, Greet, LookForManager, Create, Learn, Heal}
use Rattle.fabric_steward.specs.declared.advice.Deed.{Deed}
use Rattle.fabric_steward.specs.declared.advice.Deed.TheVariants as deed
use Rattle.fabric_steward.specs.declared.node_watch.NodeWatch.{NodeWatch}
use Rattle.fabric_steward.specs.declared.unit_watch.UnitWatch.{UnitWatch}
use Rattle.fabric_steward.specs.Domains.{domains_up}
use Rattle.fabric_steward.specs.Facts.{Facts}
use Rattle.fabric_steward.specs.Greetings.{greet_rule}
use Rattle.fabric_steward.specs.Policies.{Policy}
use Rattle.fabric_steward.specs.Times.{is_over, lasts, look_time}

-- reconfigurations of the policy that are under way when a further heal may begin: fewer than this
abbrev pub most_at_once : ℕ
most_at_once = 8

-- join: the node does not route, and the time of the next node has come
abbrev pub join_rule : Facts → (now : ℕ) → Policy → Option Advice
join_rule f now s = if not f.routes && nat_le s.join_due now then option_map Join (slice_get s.joins s.turn) else None

-- another node was not heard for a lease, and not asked for a lease
abbrev pub is_lost : Facts → (now : ℕ) → Policy → NodeWatch → Bool
is_lost f now s n = not (n.node == s.me) && is_none (f.heard n.node (now - s.lease)) && is_over now s.lease n.asked

-- look: the node manages, and another node is lost
abbrev pub look_rule : Facts → (now : ℕ) → Policy → Option Advice
look_rule f now s = if f.manages now then option_map (λ n. Look n.point) (find (is_lost f now s) s.nodes) else None

-- look for a manager: the node routes and does not manage, and did not ask for two leases
abbrev pub manager_rule : Facts → (now : ℕ) → Policy → Option Advice
manager_rule f now s =
    if f.routes && not (f.manages now) && is_over now (s.lease * 2) s.manager_asked then Some LookForManager else None

-- no reconfiguration is under way, and the pause is over
abbrev pub is_free : Facts → (now : ℕ) → UnitWatch → Bool
is_free f now w = not (f.is_changing w.partition) && is_over now w.pause w.commanded

-- it manages long enough for the partition
abbrev pub is_long : (now domains : ℕ) → Policy → UnitWatch → Bool
is_long now domains s w = nat_le w.replicas domains || lasts now (look_time s.lease s.heal_after) s.manages_since

-- how many replicas there can be
abbrev pub count_for : (domains : ℕ) → UnitWatch → ℕ
count_for domains w = max 1 (min w.replicas domains)

abbrev pub is_to_create : Facts → (now domains : ℕ) → Policy → UnitWatch → Bool
is_to_create f now domains s w = w.missing && is_free f now w && is_long now domains s w

-- create: the last answer was that there is no such partition
abbrev pub create_rule : Facts → (now domains : ℕ) → Policy → Option Advice
create_rule f now domains s =
    if f.manages now
    then option_map (λ w. Create w.partition (count_for domains w)) (find (is_to_create f now domains s) s.units)
    else None

-- reconfigurations of the policy that are under way
abbrev pub under_way : Policy → ℕ
under_way s = count_by (λ w. is_some w.deed) s.units

abbrev pub is_learn : Option Deed → Bool
is_learn (Some deed.Learn) = true
is_learn _ = false

-- a learning heal of the partition is under way, and began within two leases: one that waits longer holds no other up
abbrev pub is_being_learnt : (now : ℕ) → Policy → UnitWatch → Bool
is_being_learnt now s w = is_learn w.deed && not (is_over now (s.lease * 2) w.commanded)

abbrev pub is_learning : (now : ℕ) → Policy → Bool
is_learning now s = list_any (is_being_learnt now s) s.units

abbrev pub is_to_learn : Facts → (now domains : ℕ) → Policy → UnitWatch → Bool
is_to_learn f now domains s w = not w.learnt && is_free f now w && is_long now domains s w

-- Learn: the partition is not learnt since the node manages, no other one is being learnt, and few reconfigurations are
-- under way. Where the arbitrators know a later epoch than this node, the heal is a question: it places nothing, and ends
-- with that epoch.
abbrev pub learn_rule : Facts → (now domains : ℕ) → Policy → Option Advice
learn_rule f now domains s =
    if f.manages now && not (is_learning now s) && nat_lt (under_way s) most_at_once
    then option_map (λ w. Learn w.partition (count_for domains w)) (find (is_to_learn f now domains s) s.units)
    else None

abbrev pub is_another : Who → Option Who → Bool
is_another who None = false
is_another who (Some now) = not (now.instance == who.instance)

-- the node of the primary was heard in another instance than when the partition was configured
abbrev pub began_again : Facts → Option Who → Bool
began_again f None = false
began_again f (Some who) = is_another who (f.heard who.actor 0)

-- the primary is down, it began again, too few members are up, or one may have missed the configuration
abbrev pub has_cause : Facts → (now heal_after : ℕ) → UnitWatch → Bool
has_cause f now heal_after w =
    lasts now heal_after w.down || began_again f w.served_by || lasts now heal_after w.few || lasts now heal_after w.missed

abbrev pub is_to_heal : Facts → (now : ℕ) → Policy → UnitWatch → Bool
is_to_heal f now s w = w.learnt && is_free f now w && has_cause f now s.heal_after w

-- heal: the partition is learnt and has a cause, and few reconfigurations are under way
abbrev pub heal_rule : Facts → (now domains : ℕ) → Policy → Option Advice
heal_rule f now domains s =
    if f.manages now && nat_lt (under_way s) most_at_once
    then option_map (λ w. Heal w.partition (count_for domains w)) (find (is_to_heal f now s) s.units)
    else None

abbrev pub first_some : {A : Type 0} → List (Option A) → Option A
first_some [] = None
first_some (Some x ∷ xs) = Some x
first_some (None ∷ xs) = first_some xs

abbrev pub advice_in : Facts → (now domains : ℕ) → Policy → Option Advice
advice_in f now domains s = first_some (
    join_rule f now s ∷
    look_rule f now s ∷
    greet_rule f now domains s ∷
    manager_rule f now s ∷
    create_rule f now domains s ∷
    learn_rule f now domains s ∷
    heal_rule f now domains s ∷ [])

abbrev pub advice : Facts → (now : ℕ) → Policy → Option Advice
advice f now s = advice_in f now (domains_up f now s.nodes) s

-- the command of each rule
abbrev pub command_of : Advice → Command
command_of (Join node) = command.Join node
command_of (Look point) = command.Find point
command_of (Greet node) = command.Link node
command_of LookForManager = command.Find (record { 0 = 0 })
command_of (Create partition count) = command.Create partition count
command_of (Learn partition count) = command.Heal partition count
command_of (Heal partition count) = command.Heal partition count
