use Rattle.std.proofs.Common.{◌≡◌, ap, ◌∙◌, ℕ, None}
use Rattle.std.proofs.lemmas.Result.{err_from_is_err_and}
use Rattle.arbiter_core.specs.declared.answer.ArbiterError.TheVariants.{TableFull}
use Rattle.fabric_terms.specs.declared.report.Head.{Head}
use Rattle.ring_points.specs.declared.who.Who.{Who}
use Rattle.turn_members.proofs.Rulings.{full_step, heard, number_kept}
use Rattle.turn_members.proofs.arbiter_steps.arbiter_hear.Goals as goal
use Rattle.turn_members.specs.Answers.{answer_frames}

pub returns-in_err-answer-clause-full : goal.returns-in_err-answer-clause-full
returns-in_err-answer-clause-full c =
    let p = err_from_is_err_and c.from_residual-in_err-answer.result c.from_residual-in_err-answer.ensures.1 in
    λ is c' last.
    let same : c.in_err-answer.field-0.0 ≡ TableFull = cc (is, p.1, p.2) in
    full_step c' c.args.turn last c.args.message.now c.args.arbiter.now c.in_err-answer.field-0.0 c.args.arbiter.now (c.in_err-answer.ensures.answers.1 (λ short. cc))

pub returns-clause-does : goal.returns-clause-does
returns-clause-does c = λ c' last.
    let head = c.arbiter_head-head.ensures ∙ ap (λ (n : ℕ). record { line = c.args.turn; time = None; who = record { actor = n; instance = 0 }; reading = None }) c.requires.named in
    heard c' c.args.turn last c.args.message.now c.args.arbiter.now c.on_frame.new.self c.in_ok-answer.answer _ c.requires.room c.in_ok-answer.ensures.answers head c.taking-outcome.ensures.records
    (c.taking-outcome.ensures.frames ∙ ap (λ (w : Who). answer_frames w c.in_ok-answer.answer) (ap (λ (h : Head). h.who) head)) c.taking-outcome.ensures.reports

pub returns-clause-number : goal.returns-clause-number
returns-clause-number c = λ c'. number_kept c' 0 None c.args.message.now c.args.arbiter.now c.on_frame.new.self c.in_ok-answer.answer c.in_ok-answer.ensures.answers
