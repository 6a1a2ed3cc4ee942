use Rattle.std.proofs.Common.{◌≡◌, drop}
use Rattle.name_rules.specs.Grammar.{every, is_name_byte}
use Rattle.name_service.proofs.name.has_name_bytes.Given as goal

-- the bytes so far pass
abbrev pub invariant-loop-b : goal.invariant-loop-b
invariant-loop-b l = every is_name_byte l.fn.bytes ≡ every is_name_byte (drop l.b-index l.fn.bytes)
