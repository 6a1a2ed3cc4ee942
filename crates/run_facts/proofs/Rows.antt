-- What a step of the ring says of its node.
use Rattle.std.proofs.Common.{◌≡◌, ℕ, Bool, true, false, refl}
use Rattle.std.specs.Prelude.{length}
use Rattle.ring_points.specs.declared.who.Who.{Who}
use Rattle.fabric_terms.specs.declared.message.Body.{Body}
use Rattle.fabric_terms.specs.declared.message.Body.TheVariants as body
use Rattle.fabric_terms.specs.declared.report.Why.TheVariants.{Fence}
use Rattle.join_phases.specs.Phases.{is_left}
use Rattle.ring_rules.specs.declared.input.Input.{Input}
use Rattle.ring_rules.specs.declared.input.Input.TheVariants as input
use Rattle.ring_rules.specs.Rings.{Ring, Settings, Work}
use Rattle.ring_rules.specs.Frames as m
use Rattle.ring_rules.specs.Steps as s
use Rattle.ring_rules.specs.Starts.{begun}
use Rattle.run_facts.proofs.Said.{Says, says_leave, says_counted}
use Rattle.run_facts.proofs.SessionRows.{hello_says, offer_says, take_says, renew_says, ack_says, transfer_says, gone_says, ruling_says, kept_says}
use Rattle.run_facts.proofs.NodeRows.{seek_says, found_received_says, command_says, timer_says}

module _ (m0 : Who) where
  abbrev Fine : Work → Type 0
  Fine w = Says m0 w

  -- frames

  pub frame_says : (set : Settings) (now : ℕ) (from : Who) (b : Body) (w : Work) → Fine w → Fine (m.frame_received set now from b w)
  unfolding m.frame_received
  frame_says set now from b w a = says_counted m0 w (m.frame_row set now from b w) a (row b)
    where
      row : (b : Body) → Fine (m.frame_row set now from b w)
      row (body.Hello mine) = hello_says m0 set now from mine 1 set.lease w a
      row (body.HelloFor mine length) = hello_says m0 set now from mine 2 _ w a
      row (body.Offer mine yours) = offer_says m0 now from mine yours set.lease w a
      row (body.OfferFor mine yours length) = offer_says m0 now from mine yours length w a
      row (body.Take mine yours) = take_says m0 now from mine yours w a
      row (body.Renew mine yours stamp version got want ranges) = renew_says m0 from mine yours stamp version got want ranges w a
      row (body.RenewAck mine yours stamp version) = ack_says m0 from mine yours stamp version w a
      row (body.Transfer mine yours flight ranges) = transfer_says m0 from mine yours flight ranges w a
      row (body.Gone mine yours got bound) = gone_says m0 from mine yours got bound w a
      row (body.Seek origin key hops) = seek_says m0 origin key hops w a
      row (body.Found key holder) = found_received_says m0 set now key holder w a
      row (body.Ruled victim ruling) = ruling_says m0 set now from victim ruling w a
      row (body.Kept victim round claimer) = kept_says m0 set now from victim round claimer w a
      row b = a

  pub heard_says : (now : ℕ) (from : Who) (w : Work) → Fine w → Fine (m.sender_heard now from w)
  heard_says now from w a = by_test _
    where
      by_test : (t : Bool) → Fine (m.heard_if now from w t)
      by_test true = a
      by_test false = a

  pub input_says : (set : Settings) (now : ℕ) (i : Input) (w : Work) → Fine w → Fine (s.input_taken set now i w)
  input_says set now input.Fire w a = timer_says m0 set now w a
  input_says set now (input.Do o) w a = command_says m0 set now o w a
  input_says set now (input.Frame z) w a = passed _
    where
      passed : (t : Bool) → Fine (s.frame_if set now z w t)
      passed true = frame_says set now z.from z.body (m.sender_heard now z.from w) (heard_says now z.from w a)
      passed false = a

-- what a step of the ring says, where it has not left before
pub step_says : (set : Settings) (now : ℕ) (i : Input) (z : Ring) → is_left z.phase ≡ false → Says z.me (s.ring_step set now i z)
unfolding s.ring_step
step_says set now i z h = by_left (is_left z.phase) h
  where
    a : Says z.me (begun z)
    a = record { name = refl; owns = refl; leaves = h }

    by_fence : (t : Bool) → Says z.me (s.before_fence set now i (begun z) t)
    by_fence true = says_leave z.me Fence (begun z) a
    by_fence false = input_says z.me set now i (begun z) a

    by_left : (t : Bool) → t ≡ false → Says z.me (s.step_if set now i (begun z) t)
    by_left true e = absurd (cc (e))
    by_left false e = by_fence _
