use Rattle.std.proofs.Common.{arith, refl}
use Rattle.serve_lives.proofs.Going.{under_way_ends, under_way_first, under_way_next, under_way_spent}
use Rattle.serve_lives.proofs.serving.serve.Goals as goal

pub loop-life-init : goal.loop-life-init
loop-life-init g c = under_way_first _ _ _ c.requires.listens

pub loop-life-preserved : goal.loop-life-preserved
loop-life-preserved g c = under_way_next _ _ _ _ _ _ _ _ _ c.loop-life.invariant c.in-Ok.ensures.goes c.in-Ok.ensures.listens c.pass_time.ensures refl

pub returns-in-Err : goal.returns-in-Err
returns-in-Err g c = under_way_ends _ _ _ _ _ _ _ _ c.loop-life.invariant c.in-Err.ensures.goes

pub returns : goal.returns
returns g c = under_way_spent _ _ _ _ _ _ c.loop-life.invariant (omega arith)
