-- A step that names no length keeps all links at the configured one, and lets the fence not fall.
use Rattle.std.proofs.Common.{◌≡◌, ℕ, ◌+◌, ◌≤◌, Bool, true, false}
use Rattle.ring_points.specs.declared.who.Who.{Who}
use Rattle.fabric_terms.specs.declared.message.Body.{Body}
use Rattle.fabric_terms.specs.declared.message.Body.TheVariants as body
use Rattle.ring_rules.specs.declared.input.Input.{Input}
use Rattle.ring_rules.specs.declared.input.Input.TheVariants as input
use Rattle.ring_rules.specs.Rings.{Ring, Settings, Work}
use Rattle.ring_rules.specs.Frames as m
use Rattle.ring_rules.specs.Steps as s
use Rattle.ring_rules.specs.Starts.{begun}
use Rattle.span_safety.specs.Lengths.{gives_length, names_length}
use Rattle.span_safety.specs.Fences.{StepsKeepFences}
use Rattle.span_safety.proofs.Lasting.{AllLast, all_keeps, counts, keeps_all}
use Rattle.span_safety.proofs.FenceSessions.{hello_keeps, offer_keeps, take_keeps, renew_keeps, ack_keeps, transfer_keeps, gone_keeps}
use Rattle.span_safety.proofs.FenceRulings.{ruling_keeps, kept_keeps}
use Rattle.span_safety.proofs.FenceRows.{seek_keeps, found_received_keeps, command_keeps, timer_keeps}

module _ (set : Settings) (least now : ℕ) (soon : least ≤ now + set.lease + set.answer) where
  abbrev Fine : Work → Type 0
  Fine w = AllLast set.lease set.answer least w.ring.slots

  frame_keeps : (from : Who) (b : Body) (w : Work) → names_length b ≡ false → Fine w → Fine (m.frame_received set now from b w)
  unfolding m.frame_received
  frame_keeps from b w plain a = counts set.lease set.answer least w (m.frame_row set now from b w) a (row b plain)
    where
      row : (b : Body) → names_length b ≡ false → Fine (m.frame_row set now from b w)
      row (body.Hello mine) e = hello_keeps set least now soon from mine 1 w a
      row (body.HelloFor mine length) e = absurd (cc (e))
      row (body.Offer mine yours) e = offer_keeps set least now soon from mine yours w a
      row (body.OfferFor mine yours length) e = absurd (cc (e))
      row (body.Take mine yours) e = take_keeps set least now soon from mine yours w a
      row (body.Renew mine yours stamp version got want ranges) e = renew_keeps set least now soon from mine yours stamp version got want ranges w a
      row (body.RenewAck mine yours stamp version) e = ack_keeps set least now soon from mine yours stamp version w a
      row (body.Transfer mine yours flight ranges) e = transfer_keeps set least now soon from mine yours flight ranges w a
      row (body.Gone mine yours got bound) e = gone_keeps set least now soon from mine yours got bound w a
      row (body.Seek origin key hops) e = seek_keeps set least now soon origin key hops w a
      row (body.Found key holder) e = found_received_keeps set least now soon key holder w a
      row (body.Ruled victim ruling) e = ruling_keeps set least now soon from victim ruling w a
      row (body.Kept victim round claimer) e = kept_keeps set least now soon from victim round claimer w a
      row b e = a

  heard_keeps : (from : Who) (w : Work) → Fine w → Fine (m.sender_heard now from w)
  heard_keeps from w a = by_test _
    where
      by_test : (t : Bool) → Fine (m.heard_if now from w t)
      by_test true = a
      by_test false = a

  input_keeps : (i : Input) (w : Work) → gives_length i ≡ false → Fine w → Fine (s.input_taken set now i w)
  input_keeps input.Fire w e a = timer_keeps set least now soon w a
  input_keeps (input.Do o) w e a = command_keeps set least now soon o w e a
  input_keeps (input.Frame z) w e a = passed _
    where
      passed : (t : Bool) → Fine (s.frame_if set now z w t)
      passed true = frame_keeps z.from z.body (m.sender_heard now z.from w) e (heard_keeps z.from w a)
      passed false = a

  pub step_lasts : (i : Input) (r : Ring) → gives_length i ≡ false → AllLast set.lease set.answer least r.slots → Fine (s.ring_step set now i r)
  unfolding s.ring_step
  step_lasts i r e a = by_left _
    where
      by_fence : (t : Bool) → Fine (s.before_fence set now i (begun r) t)
      by_fence true = tt
      by_fence false = input_keeps i (begun r) e a

      by_left : (t : Bool) → Fine (s.step_if set now i (begun r) t)
      by_left true = a
      by_left false = by_fence _

pub steps_keep : StepsKeepFences
steps_keep set now least i r plain soon k =
    all_keeps set least (s.ring_step set now i r).ring.slots (step_lasts set least now soon i r plain (keeps_all set least r.slots k))
