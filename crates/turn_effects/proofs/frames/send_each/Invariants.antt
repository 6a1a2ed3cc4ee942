use Rattle.std.proofs.Common.{take}
use Rattle.turn_effects.specs.Carried.{SentMore}
use Rattle.turn_effects.proofs.Sending.{datagrams_of}
use Rattle.turn_effects.proofs.frames.send_each.Given as goal

-- the datagrams so far were to be sent
abbrev pub invariant-loop-frame : goal.invariant-loop-frame
invariant-loop-frame g l = SentMore (datagrams_of l.config l.actor (take l.frame-index l.frames)) (g.O.Outside.told l.fn.outside) (g.O.Outside.told l.outside)
