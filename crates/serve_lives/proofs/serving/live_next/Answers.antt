use Rattle.serve_lives.proofs.Going.{is_unbegun}
use Rattle.serve_lives.proofs.serving.live_next.Goals as goal

pub returns-in-Err : goal.returns-in-Err
returns-in-Err g c = record { goes = is_unbegun c.args.service.now.plan _ _; listens = tt }
