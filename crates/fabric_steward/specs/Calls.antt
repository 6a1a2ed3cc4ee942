-- A row of calls of the policy, the newest first, and what it commanded of a partition.
use Rattle.std.specs.Prelude.{ℕ, ◌+◌, ◌==◌, ◌≤◌, Bool, false, List, [], ◌∷◌, Option, Some, None, IfSome, ⊤, if◌then◌else◌}
use Rattle.fabric_terms.specs.declared.command.Command.{Command}
use Rattle.fabric_terms.specs.declared.command.Command.TheVariants.{Create, Heal}
use Rattle.fabric_terms.specs.declared.report.Report.{Report}
use Rattle.ring_rules.specs.declared.input.Input.{Input}
use Rattle.fabric_steward.specs.Afterwards.{advised, command_given}
use Rattle.fabric_steward.specs.Facts.{Facts}
use Rattle.fabric_steward.specs.Noted.{noted}
use Rattle.fabric_steward.specs.Policies.{Policy}

pub data Call : Type 0 where
  Advised : (f : Facts) (now : ℕ) → Call
  Noted : (input : Input) (told : List Report) → Call

abbrev pub policy_after : Policy → List Call → Policy
policy_after s [] = s
policy_after s (Advised f now ∷ before) = advised f now (policy_after s before)
policy_after s (Noted input told ∷ before) = noted input told (policy_after s before)

abbrev pub is_of : (partition : ℕ) → Command → Bool
is_of partition (Create other count) = other == partition
is_of partition (Heal other count) = other == partition
is_of partition _ = false

-- the command, if there is one, is for the partition
abbrev pub is_for : (partition : ℕ) → Option Command → Bool
is_for partition None = false
is_for partition (Some command) = is_of partition command

-- the readings at which the policy commanded the partition, the newest first
abbrev pub commands_for : (partition : ℕ) → Policy → List Call → List ℕ
commands_for p s [] = []
commands_for p s (Advised f now ∷ before) =
    if is_for p (command_given f now (policy_after s before)) then now ∷ commands_for p s before else commands_for p s before
commands_for p s (Noted input told ∷ before) = commands_for p s before

abbrev pub newest : List ℕ → Option ℕ
newest [] = None
newest (reading ∷ before) = Some reading

-- each reading is at least a pause after the one before
abbrev pub ArePaused : (pause : ℕ) → List ℕ → Type 0
ArePaused pause [] = ⊤
ArePaused pause (reading ∷ before) = IfSome (newest before) (λ last. last + pause ≤ reading) × ArePaused pause before
