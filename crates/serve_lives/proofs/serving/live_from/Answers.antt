use Rattle.serve_lives.proofs.Going.{lives_last, lives_next}
use Rattle.serve_lives.proofs.serving.live_from.Goals as goal

pub returns-then-follows : goal.returns-then-follows
returns-then-follows g c = λ records at.
    lives_next c.args.service.now.plan _ c.args.live records _ c.live_on-end.result _ c.live_on-end.new.live c.args.kept c.follows.result c.is_leaving-leaving.result c.is_spent-spent.result c.into_sessions.result
    c.requires.can at (c.live_on-end.ensures records at) c.follows.ensures c.is_leaving-leaving.ensures c.is_spent-spent.ensures c.if-follows.true c.into_sessions.ensures

pub returns-else-follows : goal.returns-else-follows
returns-else-follows g c = λ records at.
    lives_last c.args.service.now.plan _ c.args.live records _ c.live_on-end.result _ c.live_on-end.new.live c.args.kept c.follows.result c.is_leaving-leaving.result c.is_spent-spent.result c.end_of.result
    c.requires.can at (c.live_on-end.ensures records at) c.follows.ensures c.is_leaving-leaving.ensures c.is_spent-spent.ensures c.if-follows.false c.end_of.ensures
