use Rattle.std.proofs.Common.{◌≡◌, ℕ, ◌+◌, List, sym, ap, subst, ◌∙◌}
use Rattle.std.specs.Prelude.{All, IfSome, IsTrue, slice_set}
use Rattle.std.specs.Option.{option_to_list}
use Rattle.fabric_terms.specs.declared.message.Body.{Body}
use Rattle.ring_points.specs.Whos.{node_instance}
use Rattle.ring_points.specs.declared.who.Who.{Who}
use Rattle.fabric_terms.specs.Messages.{is_sound}
use Rattle.world_rules.specs.Worlds.{arbiter_who, posted}
use Rattle.ring_world.specs.Seen.{seen_of}
use Rattle.ring_world.specs.Steps.{IsSoundFrame}
use Rattle.ring_world.specs.declared.world.World.{World}
use Rattle.ring_world.proofs.ArbiterAnswer.{acted_answered, seen_answered}
use Rattle.ring_world.proofs.ArbiterStep.{reply_sound, rule_moves, sent_is}
use Rattle.ring_world.proofs.world.World.rule_at.Goals as goal

pub answer-sent-requires-clause-sound : goal.answer-sent-requires-clause-sound
answer-sent-requires-clause-sound c =
    let can = c.requires.can in
    let reply = c.in_ok-reply.reply in
    let sent = sent_is c.args.self.now can.0 c.args.place can.2.state c.args.message.now c.hear_at.new.self reply can.1 can.2.runs c.in_ok-reply.ensures.heard in
    let sound : All IsSoundFrame (posted (arbiter_who (c.args.place + 1)) (option_to_list reply) can.0.frames) =
    subst (λ (ms : List (Who × Body)). All IsSoundFrame (posted (arbiter_who (c.args.place + 1)) ms can.0.frames)) (sym sent) can.2.sound in
    subst (λ (n : ℕ). IfSome reply (λ r. IsTrue (is_sound (record { from = node_instance n 0; to = r.0; body = r.1 })))) (sym c.requires.actor)
    (reply_sound (arbiter_who (c.args.place + 1)) reply can.0.frames sound)

pub returns : goal.returns
returns c w s st there =
    let a = c.args.self.now in
    let heard = c.in_ok-reply.ensures.heard in
    let ms = option_to_list c.in_ok-reply.reply in
    let name : node_instance c.args.message.now.to.actor 0 ≡ arbiter_who (c.args.place + 1) = ap (λ (n : ℕ). node_instance n 0) c.requires.actor in
    rule_moves a w c.args.place s c.args.message.now c.hear_at.new.self c.in_ok-reply.reply st there heard _ c.args.line _ c.requires.events c.requires.frames
    (seen_answered a c.hear_at.new.self c.answer-sent.new.self (slice_set (seen_of a).seats c.args.place heard.after) (node_instance c.args.message.now.to.actor 0) (arbiter_who (c.args.place + 1)) ms heard.rest
    c.answer-sent.ensures.rest c.answer-sent.ensures.frames name)
    (ap (λ (x : World). x.places) c.answer-sent.ensures.rest ∙ heard.places)
    (acted_answered a c.hear_at.new.self c.answer-sent.new.self (slice_set (seen_of a).seats c.args.place heard.after) c.args.line (node_instance c.args.message.now.to.actor 0) (arbiter_who (c.args.place + 1)) ms c.answer-sent.result c.new-2.result heard.rest
    c.answer-sent.ensures.rest name c.answer-sent.ensures.numbers (c.new-2.ensures ∙ c.new.ensures.items))
