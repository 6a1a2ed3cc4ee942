use Rattle.std.proofs.Common.{◌≡◌, subst, arith, Bool, true, false}
use Rattle.std.proofs.lemmas.Bool.Decides.{nat_tests}
use Rattle.turn_members.proofs.Begins.{begun_does, begun_full}
use Rattle.turn_members.proofs.Lives.{ok_map}
use Rattle.turn_members.proofs.start.begin_any.Goals as goal
use Rattle.turn_members.specs.Members.{seen}
use Rattle.turn_rules.specs.Recalled.{AreOf}
use Rattle.world_rules.specs.Events.{is_arbiter_actor}

pub returns-then-actor-gt-ARBITRATORS-clause-does : goal.returns-then-actor-gt-ARBITRATORS-clause-does
returns-then-actor-gt-ARBITRATORS-clause-does c =
    let high : is_arbiter_actor c.args.actor ≡ true = grind (arith, nat_tests, c.if-actor-gt-ARBITRATORS.true) in
    ok_map c.begin_arbiter.result
    (λ r d records last kept same.
    begun_does c.args.config.now c.args.whole 0 last c.args.actor records true (seen r.0) r.1 high (d c.args.config.now c.args.whole records last (subst (λ (b : Bool). AreOf b records) high kept.good.kind) kept.holds))
    c.begin_arbiter.ensures.does

pub returns-then-actor-gt-ARBITRATORS-clause-goes_on : goal.returns-then-actor-gt-ARBITRATORS-clause-goes_on
returns-then-actor-gt-ARBITRATORS-clause-goes_on c = ok_map c.begin_arbiter.result (λ r d. d c.args.config.now) c.begin_arbiter.ensures.goes_on

pub returns-then-actor-gt-ARBITRATORS-clause-full : goal.returns-then-actor-gt-ARBITRATORS-clause-full
returns-then-actor-gt-ARBITRATORS-clause-full c =
    let high : is_arbiter_actor c.args.actor ≡ true = grind (arith, nat_tests, c.if-actor-gt-ARBITRATORS.true) in
    λ is records last kept.
    begun_full c.args.config.now c.args.whole 0 last c.args.actor records true high (c.begin_arbiter.ensures.full is c.args.config.now c.args.whole records last (subst (λ (b : Bool). AreOf b records) high kept.good.kind) kept.holds)

pub returns-in-Ok-clause-does : goal.returns-in-Ok-clause-does
returns-in-Ok-clause-does c =
    let low : is_arbiter_actor c.args.actor ≡ false = grind (arith, nat_tests, c.if-actor-gt-ARBITRATORS.false) in
    λ records last kept same. begun_does c.args.config.now c.args.whole 0 last c.args.actor records false (seen c.in-Ok.begun.0) c.in-Ok.begun.1 low (c.in-Ok.ensures.does records last kept.holds same)
