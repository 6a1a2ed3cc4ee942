use Rattle.std.proofs.Common.{◌≡◌, [], None, length}
use Rattle.line_format.specs.Lines.{lines_of}
use Rattle.transcript_audit.specs.Groups.{Group}
use Rattle.transcript_audit.specs.Places.{grows, TellsAs}
use Rattle.transcript_audit.proofs.group.read_told.Given as goal

-- what was told is that of a group, which the lines that are left lead to the same end as all lines
abbrev pub invariant-loop-rest : goal.invariant-loop-rest
invariant-loop-rest l = (g : Group) → g.who ≡ None → g.reports ≡ [] → (h : Group) × TellsAs l.told h × (grows (lines_of l.rest) h ≡ grows (lines_of l.bytes) g)

abbrev pub decreases-loop-rest : goal.decreases-loop-rest
decreases-loop-rest l = length l.rest
