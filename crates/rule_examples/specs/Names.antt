-- Names: what a primary answers about them, of a small log and in a run of the whole product.
use Rattle.std.specs.Prelude.{◌≡◌, ℕ, List, [], ◌∷◌, ◌++◌, Option, Some, None, codes}
use Rattle.fabric_lemmas.specs.Maps.{at}
use Rattle.fabric_terms.specs.declared.command.Command.{Command}
use Rattle.fabric_terms.specs.declared.command.Command.TheVariants as command
use Rattle.fabric_terms.specs.declared.event.Event.TheVariants.{Do}
use Rattle.fabric_terms.specs.declared.report.Report.TheVariants as report
use Rattle.fabric_terms.specs.declared.report.Reason.TheVariants as reason
use Rattle.fabric_terms.specs.declared.report.Verb.TheVariants as verb
use Rattle.replica_core.specs.declared.entry.Entry.{Entry}
use Rattle.replica_core.specs.declared.role.Role.TheVariants.{ActiveSecondary, Primary}
use Rattle.rule_examples.specs.Lines.{interval, on_lines}
use Rattle.world_rules.specs.Runs.{world_after}
use Rattle.world_rules.specs.Worlds.{World, Running}
use Rattle.unit_rules.specs.Deeds.{Deed, Tell, acted, refuse}
use Rattle.unit_rules.specs.Loads.{site_of}
use Rattle.unit_rules.specs.ReplicaStates.{ReplicaState, replica_put}
use Rattle.unit_rules.specs.Answers.{resolve_commanded, names_commanded}
use Rattle.unit_rules.specs.Steps.{command_row}
use Rattle.unit_rules.specs.Units.{units}
use Rattle.rule_examples.specs.Values.{e1, e2, replica, leading, begun_with}
use Rattle.rule_examples.specs.Runs.{solo, print_of, created_events, created_lines, first_committed, tells}

-- an entry of the first epoch with this text
abbrev pub said : ℕ → List ℕ → Entry
said lsn text = record { epoch = e1; lsn = lsn; bytes = text }

-- a primary whose log sets a name, sets another one and deletes the first; it committed entries up to this one
abbrev pub naming : ℕ → ReplicaState
naming committed =
    replica_put (leading [] committed)
    (record (replica e1 e1 Primary []) { log = said 1 (codes "set a 7") ∷ said 2 (codes "set b 8") ∷ said 3 (codes "del a") ∷ [] })

pub record NamesAnswered : Type 0 where
  -- what is accepted and not committed is not answered from
  pub first : resolve_commanded (codes "a") (naming 1) ≡ acted (naming 1) (Tell (report.Resolved 1 (codes "a") (codes "7")) ∷ [])
  pub uncommitted : resolve_commanded (codes "b") (naming 1) ≡ acted (naming 1) (Tell (report.Unresolved 1 (codes "b")) ∷ [])
  pub deleted : resolve_commanded (codes "a") (naming 3) ≡ acted (naming 3) (Tell (report.Unresolved 1 (codes "a")) ∷ [])
  -- names come by their points: a at af63dc4c8601ec8c, b at af63df4c8601f1a5
  pub both :
      names_commanded (interval 0 18446744073709551615) (naming 2)
      ≡ acted (naming 2) (Tell (report.NameList 1 (codes "a" ∷ codes "b" ∷ [])) ∷ [])
  pub one :
      names_commanded (interval 0 12638187200555641996) (naming 2) ≡ acted (naming 2) (Tell (report.NameList 1 (codes "a" ∷ [])) ∷ [])
  pub none : names_commanded (interval 0 5) (naming 2) ≡ acted (naming 2) (Tell (report.NameList 1 []) ∷ [])
  -- of an activation that has reported nothing committed nothing is answered, whatever it has
  pub not_ready : resolve_commanded (codes "a") (begun_with [] 2) ≡ refuse verb.Resolve reason.NotReady (begun_with [] 2)
  pub not_listed : names_commanded (interval 0 5) (begun_with [] 2) ≡ refuse verb.Names reason.NotReady (begun_with [] 2)
  -- that it is no primary comes first
  pub elsewhere :
      resolve_commanded (codes "a") (record (begun_with [] 2) { replica = replica e1 e1 ActiveSecondary [] })
      ≡ refuse verb.Resolve reason.NotPrimary (record (begun_with [] 2) { replica = replica e1 e1 ActiveSecondary [] })
  pub promised_away :
      names_commanded (interval 0 5) (record (naming 1) { replica = replica e2 e1 Primary [] })
      ≡ refuse verb.Names reason.NotPrimary (record (naming 1) { replica = replica e2 e1 Primary [] })

-- a partition is created, and asked before anything is written to it
abbrev pub AsksTooEarly : Type 0
AsksTooEarly =
    print_of (created_events ++ Do 1 (command.Resolve 1 (codes "a")) ∷ Do 1 (command.Names 2 (interval 0 5)) ∷ [])
    ≡ created_lines
    ++ tells 15 (report.Refused verb.Resolve reason.NotReady ∷ []) (0, 0)
    ∷ tells 16 (report.Refused verb.Names reason.NotPrimary ∷ []) (0, 0) ∷ []

-- A name is set; it stands for its value, another one for nothing, and it is the one between a000000000000000 and
-- bfffffffffffffff.

abbrev pub world_named : World units
world_named = world_after units solo (on_lines 2 (created_events ++ Do 1 (command.Write 1 (codes "set a 7")) ∷ []) [])

-- what a running node does at a command to its replicas
abbrev pub does_at : Option (Running units) → Command → List Deed
does_at None d = []
does_at (Some s) d = (command_row (site_of solo s.node.ring.me.actor) s.reading s.node.ring d s.node.above).deeds

abbrev pub node_does : Command → List Deed
node_does d = does_at (at 1 world_named.nodes) d

pub record SetsAName : Type 0 where
  pub printed : print_of (created_events ++ Do 1 (command.Write 1 (codes "set a 7")) ∷ []) ≡ created_lines ++ first_committed ∷ []
  pub found : node_does (command.Resolve 1 (codes "a")) ≡ Tell (report.Resolved 1 (codes "a") (codes "7")) ∷ []
  pub missing : node_does (command.Resolve 1 (codes "b")) ≡ Tell (report.Unresolved 1 (codes "b")) ∷ []
  pub listed :
      node_does (command.Names 1 (interval 11529215046068469760 13835058055282163711)) ≡ Tell (report.NameList 1 (codes "a" ∷ [])) ∷ []
  pub elsewhere : node_does (command.Resolve 2 (codes "a")) ≡ Tell (report.Refused verb.Resolve reason.NotPrimary) ∷ []
