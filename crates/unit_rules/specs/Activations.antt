-- Activate: a replica takes its role of a configuration.
use Rattle.std.specs.Prelude.{ℕ, Bool, true, false, [], ◌∷◌, Some, None, Ok, Err, if◌then◌else◌}
use Rattle.ring_points.specs.declared.unit.Config.{Config}
use Rattle.ring_points.specs.declared.who.Who.{Who}
use Rattle.fabric_terms.specs.declared.message.Body.TheVariants as body
use Rattle.fabric_terms.specs.declared.report.Report.TheVariants as report
use Rattle.replica_core.specs.declared.role.Role.{Role}
use Rattle.replica_core.specs.declared.role.Role.TheVariants.{None as NoRole, IdleSecondary, ActiveSecondary, Primary}
use Rattle.replica_core.specs.Replicas.{Replica}
use Rattle.replica_core.specs.Calls.{Outcome, activate_call}
use Rattle.unit_rules.specs.Deeds.{Deed, Send, Tell, Acted, acted}
use Rattle.unit_rules.specs.ReplicaStates.{ReplicaState, last_of}
use Rattle.unit_rules.specs.Progress.{first_progress}
use Rattle.unit_rules.specs.Promises.{say_older}

abbrev pub same_role : Role → Role → Bool
same_role NoRole NoRole = true
same_role IdleSecondary IdleSecondary = true
same_role ActiveSecondary ActiveSecondary = true
same_role Primary Primary = true
same_role _ _ = false

abbrev pub say_activated : Who → Config → Deed
say_activated asker config = Send asker (body.Activated config.partition config.epoch)

-- a new primary says so, and begins to lead
abbrev pub role_begun : ℕ → Who → Config → ReplicaState → Replica → Role → Acted ReplicaState
role_begun me asker config s r Primary =
    acted (record s { replica = r; progress = Some (first_progress me config (last_of r)) })
    (Tell (report.IsPrimary config.partition config.epoch) ∷ say_activated asker config ∷ [])
role_begun me asker config s r _ = acted (record s { replica = r; progress = None }) (say_activated asker config ∷ [])

-- a replica that has the role of this epoch already only answers; a role of a lower epoch was lost with the Sync
abbrev pub activate_answered : ℕ → Who → Config → ReplicaState → Outcome Role → Acted ReplicaState
activate_answered me asker config s (Err refusal, r) = acted s (say_older asker config.partition config.epoch refusal)
activate_answered me asker config s (Ok role, r) =
    if same_role s.replica.role role then acted s (say_activated asker config ∷ []) else role_begun me asker config s r role

unfoldable pub activate_received : ℕ → Who → Config → ReplicaState → Acted ReplicaState
activate_received me asker config s = activate_answered me asker config s (activate_call me config s.replica)
