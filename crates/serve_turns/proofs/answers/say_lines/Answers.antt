use Rattle.std.proofs.Common.{refl}
use Rattle.serve_turns.proofs.answers.say_lines.Goals as goal

-- the client was dropped
pub returns-clause-said : goal.returns-clause-said
returns-clause-said g c = λ v shows. record { in_turn = (g.C.Clients.told c.close.new.self, (c.close.ensures.says _, refl)) }
