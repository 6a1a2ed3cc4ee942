use Rattle.text_fields.proofs.ActorLaws.{actor_is}
use Rattle.text_fields.proofs.actor.actors_have_one_text.Goals as goal

pub returns : goal.returns
returns c = actor_is
