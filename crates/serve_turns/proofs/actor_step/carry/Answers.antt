use Rattle.std.proofs.Common.{Err, Ok}
use Rattle.std.proofs.lemmas.Result.{err_from_is_err_and}
use Rattle.fabric_turns.specs.Steps.{work_in}
use Rattle.serve_turns.proofs.Carrying.{ended_at_frames, ended_at_records, kept_of, kept_silent, sent_silent}
use Rattle.serve_turns.proofs.actor_step.carry.Goals as goal

pub returns-in_err-keep_all-clause-carries : goal.returns-in_err-keep_all-clause-carries
returns-in_err-keep_all-clause-carries g c =
    let p = err_from_is_err_and c.from_residual.result c.from_residual.ensures.1 in
    rw (p.1, p.2)
    (ended_at_records (work_in c.args.service.now.plan.config c.args.deed.now) (g.O.Outside.told c.args.outside.now) (g.O.Outside.told c.keep_all.new.outside) c.in_err-keep_all.field-0.0
    (kept_of c.args.service.now.plan.config c.args.deed.now c.as_slice-records.result.now (g.O.Outside.told c.args.outside.now) (g.O.Outside.told c.keep_all.new.outside) (Err c.in_err-keep_all.field-0.0) c.as_slice-records.ensures c.in_err-keep_all.ensures))

pub returns-in_err-keep_all-clause-silent : goal.returns-in_err-keep_all-clause-silent
returns-in_err-keep_all-clause-silent g c =
    let work = work_in c.args.service.now.plan.config c.args.deed.now in
    kept_silent work.actor work.records (g.O.Outside.told c.args.outside.now) (g.O.Outside.told c.keep_all.new.outside) (Err c.in_err-keep_all.field-0.0)
    (kept_of c.args.service.now.plan.config c.args.deed.now c.as_slice-records.result.now (g.O.Outside.told c.args.outside.now) (g.O.Outside.told c.keep_all.new.outside) (Err c.in_err-keep_all.field-0.0) c.as_slice-records.ensures c.in_err-keep_all.ensures)
    c.requires.silent

pub returns-clause-carries : goal.returns-clause-carries
returns-clause-carries g c =
    let work = work_in c.args.service.now.plan.config c.args.deed.now in
    let kept = kept_of c.args.service.now.plan.config c.args.deed.now c.as_slice-records.result.now (g.O.Outside.told c.args.outside.now) (g.O.Outside.told c.keep_all.new.outside) (Ok c.in_ok-keep_all.field-0) c.as_slice-records.ensures c.in_ok-keep_all.ensures in
    ended_at_frames work (g.O.Outside.told c.args.outside.now) (g.O.Outside.told c.keep_all.new.outside) (g.O.Outside.told c.hand_and_send.new.outside) c.hand_and_send.result kept c.hand_and_send.ensures
    (kept_silent work.actor work.records (g.O.Outside.told c.args.outside.now) (g.O.Outside.told c.keep_all.new.outside) (Ok c.in_ok-keep_all.field-0) kept c.requires.silent)

pub returns-clause-silent : goal.returns-clause-silent
returns-clause-silent g c =
    let work = work_in c.args.service.now.plan.config c.args.deed.now in
    let kept = kept_of c.args.service.now.plan.config c.args.deed.now c.as_slice-records.result.now (g.O.Outside.told c.args.outside.now) (g.O.Outside.told c.keep_all.new.outside) (Ok c.in_ok-keep_all.field-0) c.as_slice-records.ensures c.in_ok-keep_all.ensures in
    sent_silent _ (g.O.Outside.told c.keep_all.new.outside) (g.O.Outside.told c.hand_and_send.new.outside) c.hand_and_send.result c.hand_and_send.ensures
    (kept_silent work.actor work.records (g.O.Outside.told c.args.outside.now) (g.O.Outside.told c.keep_all.new.outside) (Ok c.in_ok-keep_all.field-0) kept c.requires.silent)
