-- Whom a manager greets: a node of a fault domain in which it has heard nobody, while it needs more domains. A greeting goes
-- to the address of the node, so it needs no way over the ring, and whoever takes it answers.
use Rattle.std.specs.Prelude.{ℕ, ◌*◌, ◌==◌, Bool, true, false, not, ◌&&◌, nat_le, nat_lt, List, [], ◌∷◌, count_by, Option, Some, None, option_map, if◌then◌else◌}
use Rattle.std.specs.List.{list_any}
use Rattle.fabric_steward.specs.declared.advice.Advice.{Advice}
use Rattle.fabric_steward.specs.declared.advice.Advice.TheVariants.{Greet}
use Rattle.fabric_steward.specs.declared.node_watch.NodeWatch.{NodeWatch}
use Rattle.fabric_steward.specs.Domains.{is_domain_up}
use Rattle.fabric_steward.specs.Facts.{Facts}
use Rattle.fabric_steward.specs.Policies.{Policy}
use Rattle.fabric_steward.specs.Times.{is_over}

-- greetings without an answer when a further one may go: fewer than this
abbrev pub most_greeted : ℕ
most_greeted = 4

-- a partition is to have more replicas than there are domains
abbrev pub is_short : (domains : ℕ) → Policy → Bool
is_short domains s = list_any (λ w. nat_lt domains w.replicas) s.units

-- another node, in whose domain nobody is up
abbrev pub is_missing : Facts → (now : ℕ) → Policy → NodeWatch → Bool
is_missing f now s n = not (n.node == s.me) && not (is_domain_up f now n.domain s.nodes)

-- it was greeted within two leases
abbrev pub is_awaited : Facts → (now : ℕ) → Policy → NodeWatch → Bool
is_awaited f now s n = is_missing f now s n && not (is_over now (s.lease * 2) n.greeted)

abbrev pub awaited : Facts → (now : ℕ) → Policy → ℕ
awaited f now s = count_by (is_awaited f now s) s.nodes

abbrev pub is_to_greet : Facts → (now : ℕ) → Policy → NodeWatch → Bool
is_to_greet f now s n = is_missing f now s n && is_over now (s.lease * 2) n.greeted

-- the first one comes no later; what never was comes before all
abbrev pub is_earlier : Option ℕ → Option ℕ → Bool
is_earlier None other = true
is_earlier (Some reading) None = false
is_earlier (Some reading) (Some other) = nat_le reading other

abbrev pub earlier_of : NodeWatch → Option NodeWatch → NodeWatch
earlier_of n None = n
earlier_of n (Some other) = if is_earlier n.greeted other.greeted then n else other

-- of those to be greeted the one whose last greeting is the longest ago
abbrev pub longest_ago : Facts → (now : ℕ) → Policy → List NodeWatch → Option NodeWatch
longest_ago f now s [] = None
longest_ago f now s (n ∷ ns) =
    if is_to_greet f now s n then Some (earlier_of n (longest_ago f now s ns)) else longest_ago f now s ns

-- greet: the node manages and needs more domains, another domain is missing, and few greetings are out
abbrev pub greet_rule : Facts → (now domains : ℕ) → Policy → Option Advice
greet_rule f now domains s =
    if f.manages now && is_short domains s && nat_lt (awaited f now s) most_greeted
    then option_map (λ n. Greet n.node) (longest_ago f now s s.nodes)
    else None
