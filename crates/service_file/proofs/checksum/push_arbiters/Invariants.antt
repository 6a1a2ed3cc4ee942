use Rattle.std.proofs.Common.{◌≡◌, ◌++◌, take}
use Rattle.std.specs.List.{flat_map}
use Rattle.service_file.specs.Texts.{arbiter_line}
use Rattle.service_file.proofs.checksum.push_arbiters.Given as goal

abbrev pub invariant-loop-arbiter : goal.invariant-loop-arbiter
invariant-loop-arbiter l = l.into.items ≡ l.fn.into.items ++ flat_map arbiter_line (take l.arbiter-index l.arbiters)
