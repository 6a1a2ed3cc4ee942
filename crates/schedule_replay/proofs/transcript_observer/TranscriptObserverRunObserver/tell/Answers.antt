use Rattle.std.proofs.Common.{Result, Ok, Err, OnOk}
use Rattle.schedule_replay.proofs.Words.{traced}
use Rattle.schedule_replay.proofs.transcript_observer.TranscriptObserverRunObserver.tell.Goals as goal

on_ok : {E : Type 0} (r : Result (Unit {0}) E) (P Q : Type 0) → (P → Q) → OnOk r P → OnOk r Q
on_ok (Ok u) P Q f p = f p
on_ok (Err e) P Q f p = p

pub returns-clause-told : goal.returns-clause-told
returns-clause-told c config h e known takes =
    on_ok c.push_told.result _ _ (λ told. (tt, traced c.args.world.now config h c.args.line e c.args.acted.now c.clocks.result.now c.args.text.now.items c.push_clocks.new.text.items c.push_told.new.text.items takes (c.clocks.ensures config _ takes.stands) c.in_ok-push_clocks.ensures.ok told)) c.push_told.ensures.ok
