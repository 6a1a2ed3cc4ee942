-- The members of a configuration are nodes.
use Rattle.std.proofs.Common.{◌≡◌, ℕ, ◌≤◌, Bool, true, false, ◌&&◌, ◌||◌, List, [], ◌∷◌, length, IsTrue, refl, subst, arith}
use Rattle.std.specs.Prelude.{◌==◌, All, nat_le, nat_lt}
use Rattle.std.specs.List.{list_any}
use Rattle.std.proofs.lemmas.Bool.{and_from, and_parts, eqb-true, leb-true, lt-ltb, ltb-true}
use Rattle.std.proofs.lemmas.List.Elements.{All-cons, All-head, All-nil, All-tail}
use Rattle.fabric_terms.specs.Fields.{has_members, is_config, is_epoch, is_node, is_short, is_unit, rises_above}
use Rattle.frames_fit.proofs.Facts.{within_from, within_parts}
use Rattle.ring_points.specs.declared.unit.Config.{Config}
use Rattle.unit_rules.specs.Choices.{is_among}
use Rattle.fabric_fit.specs.Managers.{are_members}

pub rising_nodes : (below : ℕ) (nodes : List ℕ) → rises_above below nodes ≡ true → All (λ n. IsTrue (is_node n)) nodes
rising_nodes below [] h = All-nil (λ n. IsTrue (is_node n))
rising_nodes below (n ∷ ns) h =
    let parts = and_parts (nat_lt below n && nat_le n 999) (rises_above n ns) h in
    let ends = and_parts (nat_lt below n) (nat_le n 999) parts.0 in
    let low = ltb-true below n ends.0 in
    All-cons (λ n. IsTrue (is_node n)) n ns (within_from 1 999 n (omega arith) (leb-true n 999 ends.1)) (rising_nodes n ns parts.1)

-- what is among such is such
pub among_all : (P : ℕ → Type 0) (n : ℕ) (ns : List ℕ) → All P ns → is_among n ns ≡ true → P n
among_all P n [] h e = absurd (cc)
among_all P n (m ∷ ms) h e = by (m == n) refl (among_all P n ms (All-tail P m ms h)) e
  where
    by : (b : Bool) → (m == n) ≡ b → (is_among n ms ≡ true → P n) → (b || is_among n ms) ≡ true → P n
    by true f rest g = subst P (eqb-true m n f) (All-head P m ms h)
    by false f rest g = rest g

pub record ConfigParts (c : Config) : Type 0 where
  pub unit : IsTrue (is_unit c.partition c.epoch)
  pub epoch : IsTrue (is_epoch c.epoch)
  pub members : IsTrue (are_members c.members)
  pub primary : IsTrue (is_among c.primary c.members)

pub config_parts : (c : Config) → IsTrue (is_config c) → ConfigParts c
config_parts c h =
    let parts = and_parts ((is_unit c.partition c.epoch && is_short c.primary) && nat_le (length c.members) 7) (has_members c) h in
    let few = and_parts (is_unit c.partition c.epoch && is_short c.primary) (nat_le (length c.members) 7) parts.0 in
    let unit = and_parts (is_unit c.partition c.epoch) (is_short c.primary) few.0 in
    let has = and_parts (rises_above 0 c.members) (list_any (λ n. n == c.primary) c.members) parts.1 in
    record {
      unit = unit.0;
      epoch = (and_parts (is_short c.partition) (is_epoch c.epoch) unit.0).1;
      members = and_from (nat_le (length c.members) 7) (rises_above 0 c.members) few.1 has.0;
      primary = has.1;
    }

pub members_nodes : (nodes : List ℕ) → IsTrue (are_members nodes) → All (λ n. IsTrue (is_node n)) nodes
members_nodes nodes h = rising_nodes 0 nodes (and_parts (nat_le (length nodes) 7) (rises_above 0 nodes) h).1

pub member_node : (n : ℕ) (nodes : List ℕ) → IsTrue (are_members nodes) → IsTrue (is_among n nodes) → IsTrue (is_node n)
member_node n nodes h k = among_all (λ m. IsTrue (is_node m)) n nodes (members_nodes nodes h) k

-- such members, with one of them as the primary, make a configuration
pub config_from : (c : Config) → IsTrue (is_unit c.partition c.epoch) → IsTrue (are_members c.members) → IsTrue (is_among c.primary c.members)
    → IsTrue (is_config c)
config_from c unit members primary =
    let parts = and_parts (nat_le (length c.members) 7) (rises_above 0 c.members) members in
    let node = within_parts 1 999 c.primary (member_node c.primary c.members members primary) in
    let high : c.primary ≤ 999 = node.1 in
    let short : IsTrue (is_short c.primary) = lt-ltb c.primary 65536 (omega arith) in
    and_from ((is_unit c.partition c.epoch && is_short c.primary) && nat_le (length c.members) 7) (has_members c)
    (and_from (is_unit c.partition c.epoch && is_short c.primary) (nat_le (length c.members) 7)
    (and_from (is_unit c.partition c.epoch) (is_short c.primary) unit short) parts.0)
    (and_from (rises_above 0 c.members) (list_any (λ n. n == c.primary) c.members) parts.1 primary)
