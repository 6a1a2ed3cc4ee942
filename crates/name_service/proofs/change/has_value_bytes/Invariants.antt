use Rattle.std.proofs.Common.{◌≡◌, drop}
use Rattle.name_rules.specs.Grammar.{every, is_value_byte}
use Rattle.name_service.proofs.change.has_value_bytes.Given as goal

-- the bytes so far pass
abbrev pub invariant-loop-b : goal.invariant-loop-b
invariant-loop-b l = every is_value_byte l.fn.bytes ≡ every is_value_byte (drop l.b-index l.fn.bytes)
