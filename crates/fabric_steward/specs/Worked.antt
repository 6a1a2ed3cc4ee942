-- A worked cluster of three nodes in three domains, and one declared partition. The policy is that of node 3.
use Rattle.std.specs.Prelude.{ℕ, ◌==◌, ◌&&◌, nat_lt, true, false, if◌then◌else◌, [], ◌∷◌, Some, None}
use Rattle.ring_points.specs.declared.unit.Config.{Config}
use Rattle.fabric_terms.specs.declared.command.Command.TheVariants as command
use Rattle.fabric_terms.specs.declared.report.Reason.TheVariants.{NoUnit}
use Rattle.fabric_terms.specs.declared.report.Report.TheVariants.{Configured, Refused, Superseded}
use Rattle.fabric_terms.specs.declared.report.Verb.TheVariants as verb
use Rattle.ring_rules.specs.declared.input.Input.TheVariants.{Fire, Do}
use Rattle.fabric_steward.specs.declared.node_watch.NodeWatch.{NodeWatch}
use Rattle.fabric_steward.specs.Afterwards.{advised}
use Rattle.fabric_steward.specs.Facts.{Facts}
use Rattle.fabric_steward.specs.Noted.{noted}
use Rattle.fabric_steward.specs.Policies.{Policy, unit_watched}

abbrev pub worked_node : ℕ → NodeWatch
worked_node n = record { node = n; point = record { 0 = n }; domain = n; asked = None; greeted = None }

-- a lease of 1,000 ticks, so a pause has 250 at first
abbrev pub worked_policy : Policy
worked_policy = record {
  me = 3;
  lease = 1000;
  heal_after = 1000;
  joins = 1 ∷ 2 ∷ [];
  turn = 0;
  join_due = 0;
  join_pause = 250;
  nodes = worked_node 1 ∷ worked_node 2 ∷ worked_node 3 ∷ [];
  manager_asked = None;
  manages_since = None;
  units = unit_watched 1000 (record { partition = 7; replicas = 3 }) ∷ [];
}

-- the node routes nothing yet
abbrev pub seeking : Facts
seeking = record {
  routes = false;
  manages = λ now. false;
  is_up = λ node now. node == 3;
  heard = λ node since. None;
  config_of = λ partition. None;
  is_changing = λ partition. false;
}

-- all nodes are up, and this one manages
abbrev pub managing : Facts
managing = record {
  routes = true;
  manages = λ now. true;
  is_up = λ node now. true;
  heard = λ node since. Some (record { actor = node; instance = 1 });
  config_of = λ partition. None;
  is_changing = λ partition. false;
}

-- partition 7 has all three members, and node 1 is its primary
abbrev pub whole : Config
whole = record { partition = 7; epoch = record { data_loss = 0; configuration = 1 }; primary = 1; members = 1 ∷ 2 ∷ 3 ∷ [] }

abbrev pub known_whole : Facts
known_whole = record managing { config_of = λ partition. Some whole }

-- the primary is down
abbrev pub without_primary : Facts
without_primary = record known_whole { is_up = λ node now. if node == 1 then false else true }

-- the node of the primary began again
abbrev pub primary_anew : Facts
primary_anew = record known_whole { heard = λ node since. Some (record { actor = node; instance = 2 }) }

-- node 2 was heard last at 250
abbrev pub silent_two : Facts
silent_two = record known_whole {
  heard = λ node since. if node == 2 && nat_lt 250 since then None else Some (record { actor = node; instance = 1 });
}

-- node 2 began again
abbrev pub two_anew : Facts
two_anew = record known_whole { heard = λ node since. Some (record { actor = node; instance = if node == 2 then 2 else 1 }) }

-- the policy that joined node 1, and then node 2
abbrev pub joined_once : Policy
joined_once = advised seeking 0 worked_policy

abbrev pub joined_twice : Policy
joined_twice = advised seeking 250 joined_once

-- the manager that has asked for partition 7 and was told that there is none
abbrev pub told_missing : Policy
told_missing = noted (Do (command.Heal 7 3)) (Refused verb.Heal NoUnit ∷ []) (advised managing 0 worked_policy)

-- the manager that has created it, at the reading 250
abbrev pub created : Policy
created = noted Fire (Configured 7 (record { data_loss = 0; configuration = 1 }) ∷ []) (advised managing 250 told_missing)

-- it has seen the primary up at 300, and down at 400
abbrev pub seen_down : Policy
seen_down = advised without_primary 400 (advised known_whole 300 created)

-- node 2 was not heard since 7 was configured, and then began again
abbrev pub seen_missing : Policy
seen_missing = advised two_anew 400 (advised silent_two 300 created)

-- all were heard since then, and node 2 began again later
abbrev pub seen_whole : Policy
seen_whole = advised two_anew 500 (advised known_whole 400 (advised known_whole 300 created))

-- node 1 is gone: two domains are up, and nothing is known of partition 7
abbrev pub without_one : Facts
without_one = record managing { is_up = λ node now. if node == 1 then false else true }

-- the manager has greeted node 1
abbrev pub greeted_one : Policy
greeted_one = advised without_one 100 worked_policy

-- it has asked for the partition at 850, and heard that there is a later epoch
abbrev pub told_later : Policy
told_later = noted Fire (Superseded 7 (record { data_loss = 0; configuration = 5 }) ∷ []) (advised without_one 850 greeted_one)

-- two partitions are declared, and the manager has asked for the first one, whose reconfiguration waits
abbrev pub two_declared : Policy
two_declared = record worked_policy {
  units = unit_watched 1000 (record { partition = 7; replicas = 3 }) ∷ unit_watched 1000 (record { partition = 8; replicas = 3 }) ∷ [];
}

abbrev pub first_waits : Facts
first_waits = record managing { is_changing = λ partition. partition == 7 }

abbrev pub first_asked : Policy
first_asked = advised managing 0 two_declared
