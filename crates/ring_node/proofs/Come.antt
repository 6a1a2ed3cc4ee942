-- A frame that passes is one that the links may hear.
use Rattle.std.proofs.Common.{◌≡◌, ℕ, Bool, true, false, ◌&&◌, IsTrue, refl}
use Rattle.fabric_terms.specs.declared.message.Body.{Body}
use Rattle.fabric_terms.specs.declared.message.Body.TheVariants as body
use Rattle.fabric_terms.specs.declared.message.Message.{Message}
use Rattle.link_core.specs.Frames.{is_ack, may_come}
use Rattle.link_core.specs.Ties.{is_search}
use Rattle.ring_points.specs.declared.who.Who.{Who}
use Rattle.ring_rules.specs.Frames.{is_arbiters_answer, is_between_nodes, is_node, may_send, passes}
use Rattle.ring_rules.specs.Rings.{Ring, Settings}
use Rattle.fabric_terms.specs.Messages.{is_sound, is_sound_body}

both : (a b : Bool) → (a && b) ≡ true → (a ≡ true) × (b ≡ true)
both true true h = (refl, refl)
both true false h = absurd cc
both false b h = absurd cc

comes : (c : Settings) (r : Ring) (from : Who) (b : Body) → is_sound_body b ≡ true → may_send c r from.actor (is_between_nodes b) (is_arbiters_answer b) ≡ true → may_come c.arbitrators from b ≡ true
comes c r from (body.RenewAck mine yours stamp version) h s = (both _ _ (both _ _ h).0).1
comes c r from (body.Ruled victim ruling) h s = s
comes c r from (body.Kept victim round claimer) h s = s
comes c r from _ h s = refl

pub may_hear : (c : Settings) (r : Ring) (m : Message) → IsTrue (is_sound m) → IsTrue (passes c r m) → IsTrue (may_come c.arbitrators m.from m.body)
may_hear c r m h p = comes c r m.from m.body (both _ _ h).1 (both _ _ p).1

node_sends : (c : Settings) (r : Ring) (actor : ℕ) (between answers : Bool) → may_send c r actor between answers ≡ true → answers ≡ false → is_node r actor ≡ true
node_sends c r actor between true s e = absurd (cc (e))
node_sends c r actor between false s e = (both _ _ s).0

-- whoever may send a frame that is no arbitrator's answer is a node
pub sender_is_node : (c : Settings) (r : Ring) (m : Message) → IsTrue (passes c r m) → is_arbiters_answer m.body ≡ false → is_node r m.from.actor ≡ true
sender_is_node c r m p e = node_sends c r m.from.actor (is_between_nodes m.body) (is_arbiters_answer m.body) (both _ _ p).1 e

-- an acknowledgement is of no search
pub acks_search_nothing : (b : Body) → is_ack b ≡ true → is_search b ≡ false
acks_search_nothing (body.Seek origin key hops) e = absurd (cc (e))
acks_search_nothing (body.Found key holder) e = absurd (cc (e))
acks_search_nothing b e = refl
