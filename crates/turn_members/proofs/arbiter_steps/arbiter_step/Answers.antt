use Rattle.std.proofs.Common.{ap, ◌∙◌, ℕ, None}
use Rattle.turn_members.proofs.Begins.{bid_does, fire_does}
use Rattle.turn_members.proofs.arbiter_steps.arbiter_step.Goals as goal

pub returns-in-Fire-clause-does : goal.returns-in-Fire-clause-does
returns-in-Fire-clause-does c = λ c' last.
    fire_does c' c.args.turn last c.args.input.now c.args.arbiter.now _ c.in-Fire.is c.requires.room
    (c.arbiter_idle.ensures.head ∙ ap (λ (n : ℕ). record { line = c.args.turn; time = None; who = record { actor = n; instance = 0 }; reading = None }) c.requires.named)
    c.arbiter_idle.ensures.records c.arbiter_idle.ensures.frames c.arbiter_idle.ensures.reports

pub returns-in-Do-clause-does : goal.returns-in-Do-clause-does
returns-in-Do-clause-does c = λ c' last.
    bid_does c' c.args.turn last c.args.input.now c.in-Do.field-0 c.args.arbiter.now _ c.in-Do.is c.requires.room
    (c.arbiter_idle-in-Do.ensures.head ∙ ap (λ (n : ℕ). record { line = c.args.turn; time = None; who = record { actor = n; instance = 0 }; reading = None }) c.requires.named)
    c.arbiter_idle-in-Do.ensures.records c.arbiter_idle-in-Do.ensures.frames c.arbiter_idle-in-Do.ensures.reports
