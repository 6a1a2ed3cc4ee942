use Rattle.std.proofs.Common.{◌≡◌, ◌+◌, ◌*◌, length}
use Rattle.line_format.specs.Lines.{bytes_of}
use Rattle.line_format.proofs.Lists.{put_before}
use Rattle.sched_text.proofs.event_line.junk.read_junk.Given as goal

-- the bytes so far, and then what is read of the rest
abbrev pub invariant-loop-rest : goal.invariant-loop-rest
invariant-loop-rest l =
    (2 * length l.bytes + length l.rest ≡ length l.digits)
    × (put_before l.bytes (bytes_of l.rest) ≡ bytes_of l.digits)

abbrev pub decreases-loop-rest : goal.decreases-loop-rest
decreases-loop-rest l = length l.rest
