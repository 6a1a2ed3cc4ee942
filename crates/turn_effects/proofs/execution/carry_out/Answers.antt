use Rattle.std.proofs.lemmas.Result.{err_from_is_err_and}
use Rattle.turn_effects.proofs.Carrying.{ended_writing, ended_sending, ended_keeping}
use Rattle.turn_effects.proofs.execution.carry_out.Goals as goal
use Rattle.turn_rules.specs.Works.{work_with}

pub returns-in_err-keep_all : goal.returns-in_err-keep_all
returns-in_err-keep_all g c =
    let p = err_from_is_err_and c.from_residual.result c.from_residual.ensures.1 in
    rw (p.1, p.2) (ended_keeping (work_with c.args.config.now c.args.effects.now.head.now c.args.effects.now.records.now c.args.effects.now.frames.now c.args.effects.now.reports.now) _ _ c.in_err-keep_all.field-0.0 c.in_err-keep_all.ensures)

pub returns-in_err-send_each : goal.returns-in_err-send_each
returns-in_err-send_each g c =
    let p = err_from_is_err_and c.from_residual-in_err-send_each.result c.from_residual-in_err-send_each.ensures.1 in
    rw (p.1, p.2) (ended_sending (work_with c.args.config.now c.args.effects.now.head.now c.args.effects.now.records.now c.args.effects.now.frames.now c.args.effects.now.reports.now) _ _ _ c.in_err-send_each.field-0.0 c.in_ok-keep_all.ensures c.in_err-send_each.ensures)

pub returns : goal.returns
returns g c =
    ended_writing (work_with c.args.config.now c.args.effects.now.head.now c.args.effects.now.records.now c.args.effects.now.frames.now c.args.effects.now.reports.now) _ _ _ _ c.write_reports.result c.in_ok-keep_all.ensures c.in_ok-send_each.ensures c.write_reports.ensures
