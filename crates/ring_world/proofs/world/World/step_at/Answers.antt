use Rattle.std.proofs.Common.{refl}
use Rattle.std.proofs.lemmas.Result.{err_from_is_err_and}
use Rattle.unit_rules.specs.Fabric.{fabric}
use Rattle.world_rules.specs.Events.{node_acts}
use Rattle.ring_world.proofs.Beside.{steps_beside}
use Rattle.ring_world.proofs.world.World.step_at.Goals as goal

pub step_with-acted-requires-clause-can : goal.step_with-acted-requires-clause-can
step_with-acted-requires-clause-can c = c.requires.can

pub returns-in_err-effects : goal.returns-in_err-effects
returns-in_err-effects c w node s st here there =
    let p = err_from_is_err_and c.from_residual.result c.from_residual.ensures.1 in
    rw p.1 (record { seen = refl; places = λ p lt. refl })

pub returns : goal.returns
returns c w node s st here there =
    steps_beside c.args.self.now c.step_with-acted.new.self c.take_from.new.kept c.keep_in.new.kept (node_acts fabric c.args.self.now.config w node c.args.input.now s) c.args.line c.step_with-acted.result
    (c.step_with-acted.ensures w node s st here there)
