-- What a policy may say.
use Rattle.std.specs.Prelude.{◌≡◌, List, Option, Result}
use Rattle.fabric_terms.specs.Ranges.{FitsCommand}
use Rattle.fabric_terms.specs.declared.command.Command.{Command}
use Rattle.serve_rules.specs.Events.{Event}
use Rattle.serve_turns.specs.Live.{Around, At, Beginning, Live, with_advice}
use Rattle.serve_turns.specs.Moves.{ComesTo}
use Rattle.serve_turns.specs.declared.policy.Advice.{Advice}
use Rattle.serve_turns.specs.declared.policy.Advice.TheVariants as advice
use Rattle.turn_rules.specs.Order.{TurnPosition}
use Rattle.turn_rules.specs.Plans.{Plan}
use Rattle.turn_rules.specs.declared.stop_cause.StopCause.{StopCause}

-- a command is in its ranges, and the policy has said it; else it has said no more than before
abbrev pub Advises : Option (List Command) → Advice → Option (List Command) → Type 0
Advises old (advice.Say command) new = FitsCommand command × (new ≡ with_advice command old)
Advises old advice.Nothing new = new ≡ old
Advises old advice.Gone new = new ≡ old

-- From one place of a life to another, where the policy has said this, of which nothing is done yet.
abbrev pub MovesBySaying : {A : Type 0} → Plan → Command → Around → Live → TurnPosition → Around → Live → TurnPosition → Result A StopCause → Type 0
MovesBySaying plan command b l p c l' p' result =
    (o : Beginning) (es : List Event) (before : Option (List Command)) → At plan o (record b { advised = before }) l es p → b.advised ≡ with_advice command before → ComesTo plan o c l' p' result
