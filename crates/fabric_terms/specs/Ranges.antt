-- The ranges of what schedules are made of: numbers, points, texts, commands and events.
use Rattle.std.specs.Prelude.{◌⊎◌, ◌≡◌, ◌≢◌, ℕ, ◌≤◌, ◌<◌, ◌^◌, List, length, Option, Some, None, All, IsTrue}
use Rattle.ring_points.specs.Limits.{least_lease, most_arbiters, most_frame, most_lease, most_listed_names}
use Rattle.ring_points.specs.Limits.{most_members, most_name, most_name_value, most_node_number, most_nodes}
use Rattle.ring_points.specs.Limits.{most_reading, most_write}
use Rattle.ring_points.specs.declared.interval.Interval.{Interval}
use Rattle.ring_points.specs.declared.unit.Epoch.{Epoch}
use Rattle.ring_points.specs.declared.who.Who.{Who}
use Rattle.ring_points.specs.Ranges.{is_proper}
use Rattle.ring_points.specs.Whos.{arbiter_actor}
use Rattle.fabric_terms.specs.declared.command.Command.{Command}
use Rattle.fabric_terms.specs.declared.command.Command.TheVariants.{Link, LinkFor, Part, GiveNear, GiveAll, Join, Find, Create, Swap, Heal, Lose, Write, Units, Resolve, Names}
use Rattle.fabric_terms.specs.declared.event.Event.{Event}
use Rattle.fabric_terms.specs.declared.event.Event.TheVariants.{Start, Stop, Tick, Fire, Give, Do, Junk}
use Rattle.fabric_terms.specs.declared.report.Head.{Head}
use Rattle.fabric_terms.specs.declared.report.Reason.{Reason}
use Rattle.fabric_terms.specs.declared.report.Reason.TheVariants.{TooFew}
use Rattle.fabric_terms.specs.declared.report.Report.{Report}
use Rattle.fabric_terms.specs.declared.report.Report.TheVariants as report

-- no number of a line is above this
abbrev pub most : ℕ
most = most_reading

abbrev pub IsNumber : ℕ → Type 0
IsNumber n = n ≤ most

abbrev pub IsNode : ℕ → Type 0
IsNode n = (1 ≤ n) × (n ≤ most_node_number)

abbrev pub IsArbiter : ℕ → Type 0
IsArbiter a = (arbiter_actor 1 ≤ a) × (a ≤ arbiter_actor most_arbiters)

abbrev pub IsActor : ℕ → Type 0
IsActor a = IsNode a ⊎ IsArbiter a

abbrev pub IsPoint : ℕ → Type 0
IsPoint p = p < 2 ^ 64

abbrev pub IsByte : ℕ → Type 0
IsByte b = b < 256

abbrev pub IsPartition : ℕ → Type 0
IsPartition p = p ≤ 65535

abbrev pub IsMembers : ℕ → Type 0
IsMembers c = (1 ≤ c) × (c ≤ most_members)

abbrev pub IsLease : ℕ → Type 0
IsLease ticks = (least_lease ≤ ticks) × (ticks ≤ most_lease)

abbrev pub IsText : List ℕ → Type 0
IsText text = (1 ≤ length text) × (length text ≤ most_write) × All (λ b. (32 ≤ b) × (b ≤ 126)) text

-- a visible sign, but for the comma
abbrev pub IsNameByte : ℕ → Type 0
IsNameByte b = (33 ≤ b) × (b ≤ 126) × (b ≢ 44)

abbrev pub IsName : List ℕ → Type 0
IsName name = (1 ≤ length name) × (length name ≤ most_name) × All IsNameByte name

abbrev pub IsSpan : Interval → Type 0
IsSpan i = IsPoint i.lo × IsPoint i.hi × (i.lo ≤ i.hi)

-- the numbers and texts of a command are in their ranges
abbrev pub FitsCommand : Command → Type 0
FitsCommand (Link node) = IsNode node
FitsCommand (LinkFor node length) = IsNode node × IsLease length
FitsCommand (Part node) = IsNode node
FitsCommand (GiveNear node) = IsNode node
FitsCommand (GiveAll node) = IsNode node
FitsCommand (Join node) = IsNode node
FitsCommand (Find key) = IsPoint key.0
FitsCommand (Create partition count) = IsPartition partition × IsMembers count
FitsCommand (Swap partition node) = IsPartition partition × IsNode node
FitsCommand (Heal partition count) = IsPartition partition × IsMembers count
FitsCommand (Lose partition node) = IsPartition partition × IsNode node
FitsCommand (Write partition text) = IsPartition partition × IsText text
FitsCommand (Units part) = IsSpan part
FitsCommand (Resolve partition name) = IsPartition partition × IsName name
FitsCommand (Names partition part) = IsPartition partition × IsSpan part

abbrev pub IsReading : ℕ × ℕ → Type 0
IsReading r = IsNode r.0 × IsNumber r.1

abbrev pub AreReadings : List (ℕ × ℕ) → Type 0
AreReadings readings = (length readings ≤ most_nodes) × All IsReading readings

abbrev pub IsJunk : List ℕ → Type 0
IsJunk bytes = (1 ≤ length bytes) × (length bytes ≤ most_frame) × All IsByte bytes

-- the numbers, texts and lists of an event are in their ranges
abbrev pub Fits : Event → Type 0
Fits (Start actor None) = IsArbiter actor
Fits (Start actor (Some reading)) = IsNode actor × IsNumber reading
Fits (Stop actor) = IsActor actor
Fits (Tick advance readings) = IsNumber advance × AreReadings readings
Fits (Fire node) = IsNode node
Fits (Give frame) = IsNumber frame
Fits (Do node command) = IsNode node × FitsCommand command
Fits (Junk actor bytes) = IsActor actor × IsJunk bytes

-- a number of 4 or of 8 bytes
abbrev pub IsWord : ℕ → Type 0
IsWord n = n < 2 ^ 32

abbrev pub IsLong : ℕ → Type 0
IsLong n = n < 2 ^ 64

abbrev pub IsOptional : Option ℕ → Type 0
IsOptional None = Unit {0}
IsOptional (Some n) = IsLong n

-- an instance of a node
abbrev pub IsInstance : Who → Type 0
IsInstance w = IsNode w.actor × (1 ≤ w.instance) × IsWord w.instance

-- an instance of a node, or an arbitrator, whose instance is 0
abbrev pub IsWho : Who → Type 0
IsWho w = IsInstance w ⊎ (IsArbiter w.actor × (w.instance ≡ 0))

abbrev pub IsEpoch : Epoch → Type 0
IsEpoch e = IsWord e.data_loss × IsWord e.configuration

-- the list of a range set
abbrev pub AreRanges : List Interval → Type 0
AreRanges ranges = IsTrue (is_proper ranges)

-- what a name stands for
abbrev pub IsNameValue : List ℕ → Type 0
IsNameValue value = (1 ≤ length value) × (length value ≤ most_name_value) × All (λ b. (32 ≤ b) × (b ≤ 126)) value

abbrev pub FitsReason : Reason → Type 0
FitsReason (TooFew n) = IsByte n
FitsReason _ = Unit {0}

-- the numbers, texts and lists of a report are in their ranges
abbrev pub FitsReport : Report → Type 0
FitsReport (report.Own ranges fence) = AreRanges ranges × IsOptional fence
FitsReport (report.Accused who) = IsWho who
FitsReport (report.Discharged who) = IsWho who
FitsReport (report.Heir who ripe) = IsWho who × IsLong ripe
FitsReport (report.TookOver who ranges) = IsWho who × AreRanges ranges
FitsReport (report.Gave to flight ranges) = IsWho to × IsWord flight × AreRanges ranges
FitsReport (report.Took from flight ranges) = IsWho from × IsWord flight × AreRanges ranges
FitsReport (report.Returned to flight ranges) = IsWho to × IsWord flight × AreRanges ranges
FitsReport (report.LeftRing why) = Unit {0}
FitsReport report.Stopped = Unit {0}
FitsReport (report.Found key who) = IsPoint key.0 × IsWho who
FitsReport (report.Nowhere key) = IsPoint key.0
FitsReport (report.Promised partition epoch) = IsPartition partition × IsEpoch epoch
FitsReport (report.Adopted partition epoch last) = IsPartition partition × IsEpoch epoch × IsWord last
FitsReport (report.Accepted partition epoch lsn) = IsPartition partition × IsEpoch epoch × IsWord lsn
FitsReport (report.IsPrimary partition epoch) = IsPartition partition × IsEpoch epoch
FitsReport (report.Committed partition epoch lsn) = IsPartition partition × IsEpoch epoch × IsWord lsn
FitsReport (report.Configured partition epoch) = IsPartition partition × IsEpoch epoch
FitsReport (report.Superseded partition epoch) = IsPartition partition × IsEpoch epoch
FitsReport (report.UnitList partitions) = All IsPartition partitions
FitsReport (report.Resolved partition name value) = IsPartition partition × IsName name × IsNameValue value
FitsReport (report.Unresolved partition name) = IsPartition partition × IsName name
FitsReport (report.NameList partition names) = IsPartition partition × (length names ≤ most_listed_names) × All IsName names
FitsReport (report.Refused command reason) = FitsReason reason

-- the reading of a node's clock; an arbitrator has none
abbrev pub FitsReading : Who → Option ℕ → Type 0
FitsReading w None = IsArbiter w.actor
FitsReading w (Some reading) = IsNode w.actor × IsLong reading

-- the numbers of a head are in their ranges
abbrev pub FitsHead : Head → Type 0
FitsHead head = IsLong head.line × IsOptional head.time × IsWho head.who × FitsReading head.who head.reading
