use Rattle.std.proofs.Common.{◌≡◌, take}
use Rattle.unit_replica.proofs.log_names.texts_of.Given as goal

-- the texts so far are the names so far
abbrev pub invariant-loop-name : goal.invariant-loop-name
invariant-loop-name l = l.texts.items ≡ take l.name-index l.names
