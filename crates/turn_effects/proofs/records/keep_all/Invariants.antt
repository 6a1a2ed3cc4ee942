use Rattle.std.proofs.Common.{map, take}
use Rattle.keep_log.specs.Spellings.{spelling}
use Rattle.turn_effects.specs.Carried.{KeptMore}
use Rattle.turn_effects.proofs.records.keep_all.Given as goal

-- the records so far are kept
abbrev pub invariant-loop-record : goal.invariant-loop-record
invariant-loop-record g l = KeptMore l.actor (map spelling (take l.record-index l.records)) (g.O.Outside.told l.fn.outside) (g.O.Outside.told l.outside)
