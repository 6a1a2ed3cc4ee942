use Rattle.client_sessions.proofs.Chains.{uttered_one}
use Rattle.client_sessions.proofs.telling.say.Goals as goal

-- a client that is dropped is one to which any text was said
pub returns-in-Err : goal.returns-in-Err
returns-in-Err g c = λ whole is. uttered_one _ _ _ (c.close.ensures.says whole)
