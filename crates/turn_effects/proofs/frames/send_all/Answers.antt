use Rattle.std.proofs.Common.{arith}
use Rattle.std.proofs.lemmas.Bool.Decides.{nat_tests}
use Rattle.turn_effects.proofs.Sending.{none_to_send}
use Rattle.turn_effects.proofs.frames.send_all.Goals as goal

pub returns-then-is_empty : goal.returns-then-is_empty
returns-then-is_empty g c = none_to_send c.args.config.now c.args.actor c.args.frames.now _ (grind (arith, nat_tests))
