use Rattle.client_sessions.proofs.Hearing.{each_hears}
use Rattle.client_sessions.proofs.laws.each_hears_its_replies.Goals as goal

pub returns : goal.returns
returns c = each_hears
