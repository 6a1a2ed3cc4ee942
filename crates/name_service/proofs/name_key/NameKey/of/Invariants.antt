use Rattle.std.proofs.Common.{◌≡◌, take}
use Rattle.name_service.proofs.name_key.NameKey.of.Given as goal

-- the bytes so far are copied
abbrev pub invariant-loop-byte : goal.invariant-loop-byte
invariant-loop-byte l = l.bytes.items ≡ take l.byte-index l.name
