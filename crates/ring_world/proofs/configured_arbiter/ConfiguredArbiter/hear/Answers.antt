use Rattle.ring_world.proofs.ArbiterCalls.{hears_nothing, hears_reply, not_full}
use Rattle.ring_world.proofs.configured_arbiter.ConfiguredArbiter.hear.Goals as goal

pub unreachable-requires : goal.unreachable-requires
unreachable-requires c =
    let e = c.in-Err-TableFull.field-0-is in
    let h = c.in-Err-TableFull.ensures.answers.1 (λ z. absurd (cc (z, e))) in
    not_full c.args.message.now c.args.self.now.arbiter c.args.self.now.arbiter c.in-Err-TableFull.field-0 c.requires.rise c.requires.few h

pub returns-in-Ok-Nothing-clause-hears : goal.returns-in-Ok-Nothing-clause-hears
returns-in-Ok-Nothing-clause-hears c k =
    hears_nothing k c.args.message.now c.args.self.now c.on_frame.new.self c.in-Ok-Nothing.field-0 c.in-Ok-Nothing.ensures.answers c.in-Ok-Nothing.field-0-is

pub returns-in-Ok-Reply-clause-hears : goal.returns-in-Ok-Reply-clause-hears
returns-in-Ok-Reply-clause-hears c k =
    hears_reply k c.args.message.now c.args.self.now c.on_frame.new.self c.in-Ok-Reply.field-0 _ c.in-Ok-Reply.to c.in-Ok-Reply.body c.in-Ok-Reply.ensures.answers c.in-Ok-Reply.field-0-is
