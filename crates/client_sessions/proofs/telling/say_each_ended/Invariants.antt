use Rattle.std.proofs.Common.{take}
use Rattle.client_sessions.specs.Utterances.{Uttered}
use Rattle.client_sessions.specs.Sessions.{ended_replies}
use Rattle.client_sessions.proofs.telling.say_each_ended.Given as goal

-- the clients so far were told
abbrev pub invariant-loop-one : goal.invariant-loop-one
invariant-loop-one g l = Uttered (ended_replies l.head l.told (take l.one-index l.ended)) (g.C.Clients.told l.initial.clients) (g.C.Clients.told l.clients)
