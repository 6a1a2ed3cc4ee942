use Rattle.std.proofs.Common.{inl, inr, arith}
use Rattle.ring_points.proofs.Swept.{closes, goes_on}
use Rattle.ring_points.proofs.ranges.sweep.Swept.pass.Goals as goal
use Rattle.ring_points.proofs.ranges.sweep.Swept.pass.Goals.{in-Some, in-None}

pub returns-then-not-inside : goal.returns-then-not-inside
returns-then-not-inside c = λ keep s l alike.
    closes keep c.args.self.now c.close.new.self c.args.at c.args.last c.close.result c.close.ensures.ok c.close.ensures.closed c.close.ensures.err c.close.ensures.too_many s l
    (λ p m n. cc (alike p m n))

pub returns : goal.returns
returns c = λ keep s l alike.
    goes_on keep c.args.self.now c.args.at c.args.last c.match-self.lo
    (elim c.match-self.branch [ in-Some w ↦ inr (w.in-Some.interval, w.in-Some.is, w.lo-is) | in-None w ↦ inl (w.in-None.is, w.lo-is) ])
    s l (omega arith) (λ p m n. cc (alike p m n))
