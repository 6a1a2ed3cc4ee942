use Rattle.std.proofs.Common.{◌≡◌, ℕ, arith, subst, sym, ◌∙◌}
use Rattle.fabric_turns.specs.Windows.{IsTurnOf}
use Rattle.fabric_turns.proofs.Windows.{at_last, at_later, none_passed, one_passed, turn_passed}
use Rattle.fabric_turns.proofs.turn.turn_of.Goals as goal

pub loop-end-init : goal.loop-end-init
loop-end-init c = none_passed c.args.orders.now c.args.number c.args.first c.requires.first

pub loop-end-preserved : goal.loop-end-preserved
loop-end-preserved c =
    let o = c.turn_at.ensures in
    one_passed c.args.orders.now c.args.number c.args.first c.loop-end.end o.0 c.loop-end.invariant o.1.0 (sym o.1.1 ∙ c.if-turn_at-number.false)

pub returns-then-turn_at-number-clause-turn : goal.returns-then-turn_at-number-clause-turn
returns-then-turn_at-number-clause-turn c =
    let o = c.turn_at.ensures in
    turn_passed c.args.orders.now c.args.number c.args.first c.loop-end.end c.requires.first c.loop-end.invariant
    (at_later c.args.orders.now c.args.number c.args.first c.loop-end.end o.0 c.requires.rising c.requires.first c.loop-end.invariant o.1.0 (λ same. c.if-turn_at-number.true (o.1.1 ∙ same)))

pub returns-clause-turn : goal.returns-clause-turn
returns-clause-turn c =
    let last : c.loop-end.end ≡ c.len.result = let within = c.requires.first.within in omega (arith, within, c.len-end-end.ensures, c.len.ensures) in
    subst (λ (n : ℕ). IsTurnOf c.args.orders.now (record { number = c.args.number; first = c.args.first; end = n })) last
    (turn_passed c.args.orders.now c.args.number c.args.first c.loop-end.end c.requires.first c.loop-end.invariant
    (at_last c.args.orders.now c.args.number c.args.first c.loop-end.end c.loop-end.invariant (omega (arith, c.len-end-end.ensures))))
