-- What an arbitrator answers and records over time, whatever comes to it and however often it is restarted.
use Rattle.std.specs.Prelude.{◌≡◌, ◌⊎◌, ℕ, List, [], ◌∷◌, ◌++◌, Ok, Err}
use Rattle.std.specs.Option.{option_to_list}
use Rattle.ring_points.specs.declared.who.Who.{Who}
use Rattle.fabric_terms.specs.declared.message.Body.{Body}
use Rattle.fabric_terms.specs.declared.message.Message.{Message}
use Rattle.fabric_terms.specs.declared.record.Record.{Record}
use Rattle.arbiter_core.specs.Arbiters.{Arbiter, Outcome, fresh, frame_call, restored}
use Rattle.arbiter_core.specs.declared.answer.Answer.{Answer}
use Rattle.arbiter_core.specs.declared.answer.Answer.TheVariants.{Reply, Nothing}

-- a message comes, or the arbitrator is restarted from its records
pub data Happening : Type 0 where
  Comes : (m : Message) → Happening
  Restarts : Happening

-- an arbitrator, its records in their order, and its answers, the latest first
pub record Life : Type 0 where
  pub arbiter : Arbiter
  pub records : List Record
  pub answers : List (Who × Body)

-- after a call; one that is refused leaves all as it was
abbrev pub life_with : Life → Outcome Answer → Life
life_with l (Ok (Reply kept to said), a) =
    record { arbiter = a; records = l.records ++ option_to_list kept; answers = (to, said) ∷ l.answers }
life_with l (Ok Nothing, a) = record l { arbiter = a }
life_with l (Err e, a) = l

-- after all that happened, the latest first
abbrev pub life : ℕ → List Happening → Life
life number [] = record { arbiter = fresh number; records = []; answers = [] }
life number (Comes m ∷ hs) = life_with (life number hs) (frame_call m (life number hs).arbiter)
life number (Restarts ∷ hs) = record (life number hs) { arbiter = restored number (life number hs).records }

-- this was answered
abbrev pub Answered : List (Who × Body) → Who → Body → Type 0
Answered [] to said = ⊥
Answered (answer ∷ answers) to said = (answer ≡ (to, said)) ⊎ Answered answers to said
