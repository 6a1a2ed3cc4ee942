-- What an arbitrator's answer leaves to do.
use Rattle.std.specs.Prelude.{List, [], ◌∷◌}
use Rattle.std.specs.Option.{option_to_list}
use Rattle.arbiter_core.specs.declared.answer.Answer.{Answer}
use Rattle.arbiter_core.specs.declared.answer.Answer.TheVariants.{Reply, Nothing}
use Rattle.fabric_terms.specs.declared.message.Message.{Message}
use Rattle.fabric_terms.specs.declared.record.Record.{Record}
use Rattle.ring_points.specs.declared.who.Who.{Who}

abbrev pub answer_records : Answer → List Record
answer_records Nothing = []
answer_records (Reply kept to body) = option_to_list kept

abbrev pub answer_frames : Who → Answer → List Message
answer_frames from Nothing = []
answer_frames from (Reply kept to body) = record { from = from; to = to; body = body } ∷ []
