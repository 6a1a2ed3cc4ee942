use Rattle.std.proofs.Common.{◌≡◌, drop}
use Rattle.text_fields.specs.Numbers.{more_digits}
use Rattle.text_fields.proofs.number.more_digits.Given as goal

-- what is read of the rest is what is read of all
abbrev pub invariant-loop-i : goal.invariant-loop-i
invariant-loop-i l = more_digits l.hi l.n (drop l.i l.bytes) ≡ more_digits l.hi l.first l.bytes
