use Rattle.std.proofs.Common.{◌≡◌, ◌≤◌, ℕ, List, Some, length}
use Rattle.transcript_audit.specs.Places.{Within}
use Rattle.transcript_audit.proofs.Following.{Follows}
use Rattle.transcript_audit.proofs.transcript.read_transcript.Given as goal

-- the lines of the text passed no limit, and their groups begin within it; what the source told of follows it
abbrev pub invariant-loop-number : goal.invariant-loop-number
invariant-loop-number g l = record {
  few : l.number ≤ 2000001;
  short : length l.text.items ≤ 1073741824;
  within : Within (length l.text.items) l.places;
  follows : (bytes : List ℕ) → g.S.Source.left l.fn.source ≡ Some bytes → Follows bytes l.text.items l.reader.waiting (g.S.Source.left l.source) l.places l.number;
  later : g.S.Source.faults l.fn.source ≤ g.S.Source.faults l.source;
}
