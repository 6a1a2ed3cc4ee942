use Rattle.std.proofs.Common.{sym, ◌∙◌, arith}
use Rattle.ring_route.proofs.Hearing.{absent, is_of, heard_later, heard_older}
use Rattle.ring_route.proofs.known.hear_again.Goals as goal

pub returns-then-known-place-clause-heard : goal.returns-then-known-place-clause-heard
returns-then-known-place-clause-heard c = λ _ point. heard_later c.args.who point c.args.now c.args.known.now c.in-Some.place _ (sym c.in-Some.is ∙ c.place_of.ensures.place) c.in-Some.ensures.inside (omega arith)

pub returns-else-known-place-clause-heard : goal.returns-else-known-place-clause-heard
returns-else-known-place-clause-heard c = λ _ point. heard_older c.args.who point c.args.now c.args.known.now c.in-Some.place (record { who = record { actor = 0; instance = 0 }; point = 0; heard = 0 }) (sym c.in-Some.is ∙ c.place_of.ensures.place) c.in-Some.ensures.inside (omega arith)

pub returns-in-None-clause-found : goal.returns-in-None-clause-found
returns-in-None-clause-found c = absent (is_of c.args.who.actor) c.args.known.now (sym c.in-None.is ∙ c.place_of.ensures.place)
