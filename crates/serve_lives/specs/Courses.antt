-- The policy of a node: its steward, and how it leaves.
use Rattle.std.specs.Prelude.{ℕ, ◌&&◌, nat_le, Bool, false, List, Option, Some, None, if◌then◌else◌}
use Rattle.fabric_steward.specs.Afterwards.{advised, command_given}
use Rattle.fabric_steward.specs.Departures.{Plan, departure_of, left, parting}
use Rattle.fabric_steward.specs.Dues.{due}
use Rattle.fabric_steward.specs.Facts.{Facts}
use Rattle.fabric_steward.specs.Links.{Links}
use Rattle.fabric_steward.specs.Noted.{noted}
use Rattle.fabric_steward.specs.Policies.{Policy, fresh_policy}
use Rattle.fabric_steward.specs.declared.leaving.Parting.{Parting}
use Rattle.fabric_steward.specs.declared.leaving.Parting.TheVariants as parted
use Rattle.fabric_terms.specs.declared.command.Command.{Command}
use Rattle.fabric_terms.specs.declared.command.Command.TheVariants.{GiveAll, Heal, Part, Swap}
use Rattle.fabric_terms.specs.declared.config.FabricConfig.{FabricConfig}
use Rattle.fabric_terms.specs.declared.report.Report.{Report}
use Rattle.node_core.specs.Nodes.{Core}
use Rattle.ring_points.specs.Limits.{most_members, most_node_number}
use Rattle.ring_rules.specs.declared.input.Input.{Input}
use Rattle.serve_lives.specs.Known.{facts_of, links_of}
use Rattle.serve_turns.specs.declared.policy.Advice.{Advice}
use Rattle.serve_turns.specs.declared.policy.Advice.TheVariants as advice
use Rattle.service_file.specs.declared.settings.ServiceSettings.{ServiceSettings}

-- The steward, until the node is told to leave, and its plan to leave from then on; the reading of the last turn; and when a
-- node that leaves looks again.
pub record Course : Type 0 where
  pub steward : Option Policy
  pub plan : Option Plan
  pub seen : ℕ
  pub until : ℕ

abbrev pub fresh_course : FabricConfig → ServiceSettings → (me : ℕ) → Course
fresh_course c s me = record { steward = Some (fresh_policy c s me); plan = None; seen = 0; until = 0 }

-- What it says.

abbrev pub is_number : ℕ → Bool
is_number node = nat_le 1 node && nat_le node most_node_number

abbrev pub is_count : ℕ → Bool
is_count count = nat_le 1 count && nat_le count most_members

-- it is a command of a node that leaves, with numbers that nodes and partitions have
abbrev pub is_leaving_word : Command → Bool
is_leaving_word (Heal partition count) = is_count count
is_leaving_word (Swap partition node) = is_number node
is_leaving_word (GiveAll node) = is_number node
is_leaving_word (Part node) = is_number node
is_leaving_word _ = false

abbrev pub steward_advice : Option Command → Advice
steward_advice None = advice.Nothing
steward_advice (Some command) = advice.Say command

abbrev pub parting_advice : Parting → Advice
parting_advice (parted.Say command) = if is_leaving_word command then advice.Say command else advice.Nothing
parting_advice (parted.Wait reading) = advice.Nothing
parting_advice parted.Gone = advice.Gone

abbrev pub advice_by : Facts → Links → (now : ℕ) → Option Policy → Option Plan → Advice
advice_by f l now (Some s) plan = steward_advice (command_given f now s)
advice_by f l now None (Some plan) = parting_advice (parting f l now plan)
advice_by f l now None None = advice.Nothing

-- of this node at this reading
abbrev pub advice_of : Core → (now : ℕ) → Course → Advice
advice_of n now c = advice_by (facts_of n) (links_of n) now c.steward c.plan

-- What it remembers.

-- where nothing is to wait for, it looks again at once
abbrev pub until_of : (now : ℕ) → Parting → ℕ
until_of now (parted.Wait reading) = reading
until_of now _ = now

abbrev pub course_by : Facts → Links → (now : ℕ) → Option Policy → Option Plan → Course → Course
course_by f l now (Some s) plan c = record c { steward = Some (advised f now s); seen = now }
course_by f l now None (Some plan) c = record c { plan = Some (left f l now plan); seen = now; until = until_of now (parting f l now plan) }
course_by f l now None None c = record c { seen = now }

abbrev pub course_after : Core → (now : ℕ) → Course → Course
course_after n now c = course_by (facts_of n) (links_of n) now c.steward c.plan c

-- a node that leaves notes nothing
abbrev pub noted_by : Input → List Report → Option Policy → Option Policy
noted_by i told None = None
noted_by i told (Some s) = Some (noted i told s)

-- the steward stops, and the node begins to leave, once
abbrev pub leaves_by : (now : ℕ) → Option Policy → Course → Course
leaves_by now None c = c
leaves_by now (Some s) c = record c { steward = None; plan = Some (departure_of s now); until = now }

-- When it looks again, and how long the node stays away.

abbrev pub due_by : Option Policy → Course → ℕ
due_by None c = c.until
due_by (Some s) c = due c.seen s

-- a node that leaves does not come again
abbrev pub pause_by : Option Policy → ℕ
pause_by None = 0
pause_by (Some s) = s.join_pause
