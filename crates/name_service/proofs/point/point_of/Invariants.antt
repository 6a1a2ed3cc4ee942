use Rattle.std.proofs.Common.{◌≡◌, drop}
use Rattle.name_rules.specs.Names.{mixed_with, point_of}
use Rattle.name_service.proofs.point.point_of.Given as goal

-- the bytes so far are mixed in
abbrev pub invariant-loop-byte : goal.invariant-loop-byte
unfolding point_of
invariant-loop-byte l = point_of l.fn.name ≡ mixed_with l.h (drop l.byte-index l.fn.name)
