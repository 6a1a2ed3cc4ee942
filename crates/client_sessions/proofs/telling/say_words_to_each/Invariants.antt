use Rattle.std.proofs.Common.{take}
use Rattle.client_sessions.specs.Utterances.{Uttered}
use Rattle.client_sessions.specs.Answers.{words_replies}
use Rattle.client_sessions.proofs.telling.say_words_to_each.Given as goal

-- the clients so far were told
abbrev pub invariant-loop-one : goal.invariant-loop-one
invariant-loop-one g l = Uttered (words_replies l.words (take l.one-index l.ended)) (g.C.Clients.told l.initial.clients) (g.C.Clients.told l.clients)
