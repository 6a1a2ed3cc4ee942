use Rattle.std.proofs.Common.{refl, Some}
use Rattle.turn_members.proofs.Lives.{ok_map, runs_by, step_deed}
use Rattle.turn_members.proofs.member.Member.step.Goals as goal
use Rattle.turn_members.specs.Members.{seen}

pub returns-clause-deed : goal.returns-clause-deed
returns-clause-deed c =
    ok_map c.act.result
    (λ deed d c' actor of. step_deed c' actor c.args.turn (Some c.args.now) c.args.input.now c.args.self.now (seen c.act.new.self) deed of c.requires.now c.requires.input (d c' (Some c.args.now) of.goes_on refl).makes)
    c.act.ensures.does

pub returns-clause-runs : goal.returns-clause-runs
returns-clause-runs c = λ c' actor of.
    runs_by (λ deed. deed) c' actor c.args.turn c.args.now c.args.input.now c.args.self.now c.act.new.self c.act.result c.requires.now c.requires.input c.act.ensures.does c.act.ensures.refused (c.act.ensures.goes_on c' of.goes_on) of
