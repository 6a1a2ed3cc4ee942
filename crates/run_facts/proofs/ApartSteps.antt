-- A step of the ring, and its start.
use Rattle.std.proofs.Common.{ℕ, Bool, true, false, ◌&&◌, ◌==◌, refl}
use Rattle.fabric_terms.specs.declared.message.Body.{Body}
use Rattle.fabric_terms.specs.declared.message.Body.TheVariants as body
use Rattle.fabric_terms.specs.declared.report.Why.TheVariants.{Fence}
use Rattle.join_phases.specs.Phases.{is_left}
use Rattle.ring_points.specs.declared.who.Who.{Who}
use Rattle.ring_rules.specs.declared.input.Input.{Input}
use Rattle.ring_rules.specs.declared.input.Input.TheVariants as input
use Rattle.ring_rules.specs.Frames as m
use Rattle.ring_rules.specs.Rings.{Settings, Work}
use Rattle.ring_rules.specs.Starts.{begun, node_started, start_first}
use Rattle.ring_rules.specs.Steps as s
use Rattle.run_facts.specs.RingApart.{StaysApart}
use Rattle.run_facts.specs.RingStaysApart.{StepsStayApart, StartsStayApart}
use Rattle.run_facts.proofs.ApartSaying.{leaves, counts}
use Rattle.run_facts.proofs.ApartSessions.{hello_received_apart, offer_received_apart, take_received_apart, renew_received_apart, ack_received_apart, transfer_received_apart, gone_received_apart, ruling_received_apart, kept_received_apart}
use Rattle.run_facts.proofs.ApartCommands.{seek_received_apart, found_received_apart, command_received_apart, timer_fired_apart}

frame_apart : (set : Settings) (now : ℕ) (from : Who) (b : Body) (w : Work) → StaysApart w → StaysApart (m.frame_received set now from b w)
unfolding m.frame_received
frame_apart set now from b w a = counts w (m.frame_row set now from b w) a (row b)
  where
    row : (b : Body) → StaysApart (m.frame_row set now from b w)
    row (body.Hello mine) = hello_received_apart set now from mine 1 set.lease w a
    row (body.HelloFor mine length) = hello_received_apart set now from mine 2 _ w a
    row (body.Offer mine yours) = offer_received_apart now from mine yours set.lease w a
    row (body.OfferFor mine yours length) = offer_received_apart now from mine yours length w a
    row (body.Take mine yours) = take_received_apart now from mine yours w a
    row (body.Renew mine yours stamp version got want ranges) = renew_received_apart from mine yours stamp version got want ranges w a
    row (body.RenewAck mine yours stamp version) = ack_received_apart from mine yours stamp version w a
    row (body.Transfer mine yours flight ranges) = transfer_received_apart from mine yours flight ranges w a
    row (body.Gone mine yours got bound) = gone_received_apart from mine yours got bound w a
    row (body.Seek origin key hops) = seek_received_apart origin key hops w a
    row (body.Found key holder) = found_received_apart set now key holder w a
    row (body.Ruled victim ruling) = ruling_received_apart set now from victim ruling w a
    row (body.Kept victim round claimer) = kept_received_apart set now from victim round claimer w a
    row b = a

heard_apart : (now : ℕ) (from : Who) (w : Work) → StaysApart w → StaysApart (m.sender_heard now from w)
heard_apart now from w a = by_test _
  where
    by_test : (t : Bool) → StaysApart (m.heard_if now from w t)
    by_test true = a
    by_test false = a

input_apart : (set : Settings) (now : ℕ) (i : Input) (w : Work) → StaysApart w → StaysApart (s.input_taken set now i w)
input_apart set now input.Fire w a = timer_fired_apart set now w a
input_apart set now (input.Do o) w a = command_received_apart set now o w a
input_apart set now (input.Frame z) w a = passed _
  where
    passed : (t : Bool) → StaysApart (s.frame_if set now z w t)
    passed true = frame_apart set now z.from z.body (m.sender_heard now z.from w) (heard_apart now z.from w a)
    passed false = a

pub steps_apart_lem : StepsStayApart
unfolding s.ring_step
steps_apart_lem set now i r = by_left (is_left r.phase)
  where
    a : StaysApart (begun r)
    a = record { sends = refl; tells = refl }

    by_fence : (t : Bool) → StaysApart (s.before_fence set now i (begun r) t)
    by_fence true = leaves Fence (begun r) a
    by_fence false = input_apart set now i (begun r) a

    by_left : (t : Bool) → StaysApart (s.step_if set now i (begun r) t)
    by_left true = a
    by_left false = by_fence _

pub starts_apart_lem : StartsStayApart
unfolding node_started
starts_apart_lem c me true = record { sends = refl; tells = refl }
starts_apart_lem c me false = go (me.actor == c.first && me.instance == 1)
  where
    go : (t : Bool) → StaysApart (start_first c me t)
    go true = record { sends = refl; tells = refl }
    go false = record { sends = refl; tells = refl }
