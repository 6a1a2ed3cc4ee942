use Rattle.std.proofs.Common.{Option, None, Some, sym, subst}
use Rattle.std.proofs.lemmas.List.{append-nil}
use Rattle.ring_world.specs.Answers.{Takes}
use Rattle.ring_world.specs.declared.world.Acted.{Acted}
use Rattle.schedule_writes.proofs.Feeding.{has_more, has_still, may_feed}
use Rattle.schedule_writes.proofs.Words.{on_ok}
use Rattle.schedule_writes.proofs.committed.CommittedRunObserver.tell.Goals as goal

pub returns-in-None-clause-told : goal.returns-in-None-clause-told
returns-in-None-clause-told c config h e known takes =
    let took : Takes c.args.world.now config h c.args._line e None = subst (λ (o : Option Acted). Takes c.args.world.now config h c.args._line e o) c.in-None.is takes in
    (has_still c.args.world.now config h c.args._line e c.args.self.now.book took known, sym (append-nil c.args._text.now.items))

pub returns-in-Some-clause-told : goal.returns-in-Some-clause-told
returns-in-Some-clause-told c config h e known takes =
    let acted = c.in-Some.acted in
    let took : Takes c.args.world.now config h c.args._line e (Some acted) = subst (λ (o : Option Acted). Takes c.args.world.now config h c.args._line e o) c.in-Some.is takes in
    on_ok c.feed.result _ _
    (λ by. (has_more c.args.world.now config h c.args._line e acted c.args.self.now.book c.feed.new.book took known by, sym (append-nil c.args._text.now.items)))
    (c.feed.ensures config _ took.stands (may_feed c.args.world.now config h c.args._line e acted c.args.self.now.book took known))
