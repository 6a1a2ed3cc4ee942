-- What an answer says: each fact, and how it is spelled.
use Rattle.std.specs.Prelude.{ℕ, List, [], ◌∷◌, Option, codes, decimal}
use Rattle.ring_points.specs.declared.interval.Interval.{Interval}
use Rattle.ring_points.specs.declared.unit.Epoch.{Epoch}
use Rattle.ring_points.specs.declared.who.Who.{Who}
use Rattle.fabric_terms.specs.declared.report.Head.{Head}
use Rattle.fabric_terms.specs.declared.report.Report.{Report}
use Rattle.join_phases.specs.declared.phases.Phase.{Phase}
use Rattle.join_phases.specs.declared.phases.Phase.TheVariants as phase
use Rattle.replica_core.specs.declared.role.Role.{Role}
use Rattle.replica_core.specs.declared.role.Role.TheVariants as role
use Rattle.ring_rules.specs.declared.link.LinkState.{LinkState}
use Rattle.ring_rules.specs.declared.link.LinkState.TheVariants as link
use Rattle.hex.specs.Hex.{encode_lower}
use Rattle.text_fields.specs.Epochs.{epoch_text}
use Rattle.text_fields.specs.Instances.{who_text}
use Rattle.text_fields.specs.Intervals.{ranges_text}
use Rattle.text_fields.specs.Numbers.{optional_text}
use Rattle.text_fields.specs.Points.{point_text}
use Rattle.text_fields.specs.Texts.{spaced, listed}
use Rattle.line_format.specs.Reports.{report_words}
use Rattle.door_lines.specs.declared.fault.Fault.{Fault}
use Rattle.door_lines.specs.declared.fault.Fault.TheVariants as fault

-- what the words of one line of an answer say
pub data Words : Type 0 where
  -- a report of a step
  Reports : (head : Head) (report : Report) → Words
  -- an entry of a log
  Entry : (partition : ℕ) (epoch : Epoch) (lsn : ℕ) (text : List ℕ) → Words
  -- a node, how far it has come, the reading of its clock, and its fence
  Node : (who : Who) (phase : Phase) (reading : ℕ) (fence : Option ℕ) → Words
  -- an arbitrator, and how many entries it has
  Arbiter : (arbiter : ℕ) (entries : ℕ) → Words
  -- the points that the node owns
  Owns : (ranges : List Interval) → Words
  -- a link, and its length in ticks
  Link : (peer : Who) (state : LinkState) (length : ℕ) → Words
  -- the nodes that are up
  Up : (nodes : List ℕ) → Words
  -- a replica, its epoch, its role, and its last entry
  Replica : (partition : ℕ) (epoch : Epoch) (role : Role) (last : ℕ) → Words
  -- a reconfiguration that is under way, its epoch, and for how many ticks it is
  Changing : (partition : ℕ) (epoch : Epoch) (ticks : ℕ) → Words
  -- how many answers are open
  Open : (answers : ℕ) → Words
  -- how many clients watch
  Watchers : (count : ℕ) → Words
  -- a parent may serve the point for so many ticks
  Held : (point : ℕ) (ticks : ℕ) → Words
  Unheld : (point : ℕ) → Words
  -- the replica of a partition is primary of an epoch
  Leads : (partition : ℕ) (epoch : Epoch) → Words
  Follows : (partition : ℕ) → Words
  -- nothing is said of what becomes of the command
  Unknown : Words
  -- the time of the answer is over
  Late : Words
  -- the line is refused
  Faults : (fault : Fault) → Words

abbrev pub phase_text : Phase → List ℕ
phase_text (phase.Seeking _) = codes "seeking"
phase_text (phase.Linked _) = codes "linked"
phase_text (phase.Routing _) = codes "routing"
phase_text (phase.Left _) = codes "left"

abbrev pub link_text : LinkState → List ℕ
link_text link.Hello = codes "hello"
link_text link.Offered = codes "offered"
link_text link.Bound = codes "bound"
link_text link.Parting = codes "parting"
link_text link.Accused = codes "accused"
link_text link.Discharged = codes "discharged"
link_text link.Heir = codes "heir"

abbrev pub role_text : Role → List ℕ
role_text role.None = codes "none"
role_text role.IdleSecondary = codes "idle"
role_text role.ActiveSecondary = codes "secondary"
role_text role.Primary = codes "primary"

abbrev pub fault_text : Fault → List ℕ
fault_text fault.Line = codes "line"
fault_text fault.NoSuch = codes "nosuch"
fault_text fault.Large = codes "large"
fault_text fault.Busy = codes "busy"

-- how it is spelled
abbrev pub words_text : Words → List ℕ
words_text (Reports head report) = report_words head report
words_text (Entry partition epoch lsn text) = spaced (codes "entry" ∷ decimal partition ∷ epoch_text epoch ∷ decimal lsn ∷ encode_lower text ∷ [])
words_text (Node who phase reading fence) = spaced (codes "node" ∷ who_text who ∷ phase_text phase ∷ decimal reading ∷ optional_text fence ∷ [])
words_text (Arbiter arbiter entries) = spaced (codes "arbiter" ∷ decimal arbiter ∷ decimal entries ∷ [])
words_text (Owns ranges) = spaced (codes "owns" ∷ ranges_text ranges ∷ [])
words_text (Link peer state length) = spaced (codes "link" ∷ who_text peer ∷ link_text state ∷ decimal length ∷ [])
words_text (Up nodes) = spaced (codes "up" ∷ listed decimal nodes ∷ [])
words_text (Replica partition epoch role last) = spaced (codes "replica" ∷ decimal partition ∷ epoch_text epoch ∷ role_text role ∷ decimal last ∷ [])
words_text (Changing partition epoch ticks) = spaced (codes "changing" ∷ decimal partition ∷ epoch_text epoch ∷ decimal ticks ∷ [])
words_text (Open answers) = spaced (codes "open" ∷ decimal answers ∷ [])
words_text (Watchers count) = spaced (codes "watchers" ∷ decimal count ∷ [])
words_text (Held point ticks) = spaced (codes "held" ∷ point_text point ∷ decimal ticks ∷ [])
words_text (Unheld point) = spaced (codes "unheld" ∷ point_text point ∷ [])
words_text (Leads partition epoch) = spaced (codes "leads" ∷ decimal partition ∷ epoch_text epoch ∷ [])
words_text (Follows partition) = spaced (codes "follows" ∷ decimal partition ∷ [])
words_text Unknown = codes "unknown"
words_text Late = codes "late"
words_text (Faults fault) = spaced (codes "fault" ∷ fault_text fault ∷ [])
