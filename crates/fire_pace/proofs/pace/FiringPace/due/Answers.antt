use Rattle.std.proofs.Common.{arith, ◌+◌, ap, sym, ◌∙◌}
use Rattle.fire_pace.specs.Pace.{due_from, wait_of}
use Rattle.fire_pace.proofs.Doublings.{due_capped}
use Rattle.fire_pace.proofs.pace.FiringPace.due.Goals as goal

pub returns-in-Some : goal.returns-in-Some
returns-in-Some c steps is =
    let all = due_capped _ steps c.args.lease c.args.left (omega arith) (omega arith) (c.self.view_is ∙ is) in
    ap (λ wait. c.in-Some.last + wait) c.wait.ensures.wait
    ∙ ap (λ fired. due_from fired (wait_of c.args.lease c.args.left c.self.inside.doublings)) (sym c.in-Some.is)
    ∙ all
