use Rattle.std.proofs.Common.{refl, Some}
use Rattle.node_core.specs.NodeEffects.{left_in}
use Rattle.turn_members.proofs.Lives.{ok_map, runs_by, step_deed}
use Rattle.turn_members.proofs.member.Member.step_into.Goals as goal
use Rattle.turn_members.specs.Members.{seen}

pub returns-clause-deed : goal.returns-clause-deed
returns-clause-deed c =
    ok_map c.act_into.result
    (λ head d c' actor of. step_deed c' actor c.args.turn (Some c.args.now) c.args.input.now c.args.self.now (seen c.act_into.new.self) (record { head = head; outcome = left_in c.act_into.new.effects }) of c.requires.now c.requires.input (d c' (Some c.args.now) of.goes_on refl).makes)
    c.act_into.ensures.does

pub returns-clause-runs : goal.returns-clause-runs
returns-clause-runs c = λ c' actor of.
    runs_by (λ head. record { head = head; outcome = left_in c.act_into.new.effects }) c' actor c.args.turn c.args.now c.args.input.now c.args.self.now c.act_into.new.self c.act_into.result c.requires.now c.requires.input c.act_into.ensures.does c.act_into.ensures.refused (c.act_into.ensures.goes_on c' of.goes_on) of
