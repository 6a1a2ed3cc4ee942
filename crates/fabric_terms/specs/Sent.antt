-- What a step sends, as messages.
use Rattle.std.specs.Prelude.{List, map}
use Rattle.fabric_terms.specs.declared.message.Body.{Body}
use Rattle.fabric_terms.specs.declared.message.Message.{Message}
use Rattle.ring_points.specs.declared.who.Who.{Who}

-- what is sent, as messages of this instance
abbrev pub from_all : Who → List (Who × Body) → List Message
from_all me sent = map (λ m. record { from = me; to = m.0; body = m.1 }) sent
