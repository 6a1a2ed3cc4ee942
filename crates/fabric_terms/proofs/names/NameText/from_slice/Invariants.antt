use Rattle.std.proofs.Common.{◌≡◌, take}
use Rattle.fabric_terms.proofs.names.NameText.from_slice.Given as goal

abbrev pub invariant-loop-byte : goal.invariant-loop-byte
invariant-loop-byte l = l.copy.items ≡ take l.byte-index l.bytes
