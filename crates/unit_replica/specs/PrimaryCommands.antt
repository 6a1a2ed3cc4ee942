-- The commands to the primary of a partition: a write, and the questions about names.
use Rattle.std.specs.Prelude.{ℕ, Bool}
use Rattle.fabric_terms.specs.declared.report.Reason.TheVariants as reason
use Rattle.fabric_terms.specs.declared.report.Verb.{Verb}
use Rattle.fabric_terms.specs.declared.report.Verb.TheVariants as verb
use Rattle.unit_rules.specs.Answers.{names_commanded, resolve_commanded}
use Rattle.unit_rules.specs.Deeds.{Acted, refuse}
use Rattle.unit_rules.specs.ReplicaStates.{ReplicaState}
use Rattle.unit_rules.specs.Writes.{write_commanded}
use Rattle.unit_replica.specs.declared.primary_command.PrimaryCommand.{PrimaryCommand}
use Rattle.unit_replica.specs.declared.primary_command.PrimaryCommand.TheVariants.{Write, Resolve, Names}
use Rattle.unit_replica.specs.Limits.{most_peers}
use Rattle.unit_replica.specs.Memory.{is_ready, is_ready_at, stores}
use Rattle.unit_replica.specs.Tables.{ReplicaStates, at_standing}

-- the verb of the report that refuses it
abbrev pub verb_of : PrimaryCommand → Verb
verb_of (Write text) = verb.Write
verb_of (Resolve name) = verb.Resolve
verb_of (Names range) = verb.Names

-- its row at a replica
abbrev pub commanded : PrimaryCommand → ReplicaState → Acted ReplicaState
commanded (Write text) s = write_commanded text.now s
commanded (Resolve name) s = resolve_commanded name.now s
commanded (Names range) s = names_commanded range.now s

-- at the replica of a partition; where none stands it is refused
abbrev pub command_at : ℕ → PrimaryCommand → ReplicaStates → Acted ReplicaStates
command_at partition command states = at_standing partition (commanded command) (refuse (verb_of command) reason.NotPrimary states) states

-- the most messages that the row sends
abbrev pub most_sent : PrimaryCommand → ℕ
most_sent (Write text) = most_peers
most_sent (Resolve name) = 0
most_sent (Names range) = 0

-- the row wants memory: a write that stores its entry, and a question that is answered
abbrev pub wants_memory : PrimaryCommand → ReplicaState → Bool
wants_memory (Write text) s = stores (write_commanded text.now s)
wants_memory (Resolve name) s = is_ready s
wants_memory (Names range) s = is_ready s

abbrev pub wants_memory_at : ℕ → PrimaryCommand → ReplicaStates → Bool
wants_memory_at partition (Write text) states = stores (command_at partition (Write text) states)
wants_memory_at partition (Resolve name) states = is_ready_at partition states
wants_memory_at partition (Names range) states = is_ready_at partition states
