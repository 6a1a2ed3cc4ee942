-- What each row is. Nobody above unfolds one.
use Rattle.fabric_terms.specs.declared.command.Command.{Command}
use Rattle.fabric_terms.specs.declared.config.FabricConfig.{FabricConfig}
use Rattle.fabric_terms.specs.declared.message.Body.{Body}
use Rattle.join_phases.specs.Phases.{is_left, is_routing}
use Rattle.ring_points.specs.Whos.{arbiter_actor}
use Rattle.ring_points.specs.declared.interval.Interval.{Interval}
use Rattle.ring_points.specs.declared.point.Point.{Point}
use Rattle.ring_points.specs.declared.who.Ruling.{Ruling}
use Rattle.ring_points.specs.declared.who.Who.{Who}
use Rattle.ring_rules.specs.Arbiters.{Accusations, Table, accusation_kept, accusation_ruled, claim_kept, claim_settled, claimer_kept, first_accuser, first_claimer, first_kept, kept_by, ruling_by}
use Rattle.ring_rules.specs.Claims.{kept_received, kept_where}
use Rattle.ring_rules.specs.Commands.{give_commanded, give_if, join_commanded, join_unless, link_commanded, part_commanded, part_seen}
use Rattle.ring_rules.specs.Deeds.{answer_unknown, counted, in_found, in_session, refuse, tell, then_unless_left}
use Rattle.ring_rules.specs.Firing.{accuse_if, discharged_due, discharged_fired, fired_at, freeze_given, give_frozen, peer_accused, place_sought, rounds_time, search_by, slot_fired, slots_fired, timer_fired}
use Rattle.ring_rules.specs.Flights.{gone_elsewhere, gone_received, gone_seen, transfer_received, transfer_seen}
use Rattle.ring_rules.specs.Frames.{frame_received, frame_row}
use Rattle.ring_rules.specs.Handshakes.{greet, hello_meets, hello_received, offer_received, offer_seen, take_received, take_seen}
use Rattle.ring_rules.specs.Links.{greeting_link, offered_link}
use Rattle.ring_rules.specs.Renewals.{ack_received, ack_seen, renew_received, renew_seen}
use Rattle.ring_rules.specs.Rings.{Ring, Settings, Work, accused_limit, hop_limit, slot_count, ◌▷◌}
use Rattle.ring_rules.specs.Rulings.{has_rounds, ruling_received, ruling_seen}
use Rattle.ring_rules.specs.Seeks.{find_by, find_commanded, found_received, greet_holder, hop_from, seek_on, seek_received, seeks_own}
use Rattle.ring_rules.specs.Slots.{greets_node_by, may_part, of_instance, of_node, slot_at, slot_where}
use Rattle.ring_rules.specs.Starts.{begun, node_started, start_if}
use Rattle.ring_rules.specs.Steps.{command_received, command_row, ring_step, step_if}
use Rattle.ring_rules.specs.declared.input.Input.{Input}
use Rattle.ring_rules.specs.declared.link.Link.{Link}
use Rattle.std.specs.Prelude.{Bool, List, None, Some, length, nat_le, nat_lt, refl, suc, zero, ℕ, ◌+◌, ◌-◌, ◌==◌, ◌≡◌}
use Rattle.fabric_terms.specs.declared.report.Report.TheVariants as report
use Rattle.fabric_terms.specs.declared.report.Verb.TheVariants as verb

pub peer_accused-is : (c : Settings) (i : ℕ) (l : Link) (w : Work) → peer_accused c i l w ≡ accuse_if c i l w (nat_lt (length w.ring.accused) accused_limit)
unfolding peer_accused
peer_accused-is c i l w = refl

pub discharged_fired-is : (c : Settings) (now : ℕ) (i : ℕ) (l : Link) (w : Work) → discharged_fired c now i l w ≡ discharged_due c i l w (nat_le (l.until + c.answer + rounds_time c l) now)
unfolding discharged_fired
discharged_fired-is c now i l w = refl

pub slot_fired-is : (c : Settings) (now : ℕ) (i : ℕ) (w : Work) → slot_fired c now i w ≡ counted w (fired_at c now i (slot_at i w.ring.slots) w)
unfolding slot_fired
slot_fired-is c now i w = refl

pub freeze_given-is : (w : Work) → freeze_given w ≡ counted w (give_frozen w.ring.token.freeze w)
unfolding freeze_given
freeze_given-is w = refl

pub place_sought-is : (c : Settings) (now : ℕ) (w : Work) → place_sought c now w ≡ counted w (search_by c now w (is_routing w.ring.phase))
unfolding place_sought
place_sought-is c now w = refl

pub timer_fired-is : (c : Settings) (now : ℕ) (w : Work) → timer_fired c now w ≡ (slots_fired c now slot_count w ▷ then_unless_left freeze_given ▷ then_unless_left (place_sought c now))
unfolding timer_fired
timer_fired-is c now w = refl

pub hello_received-is : (c : Settings) (now : ℕ) (from : Who) (theirs : ℕ) (wire : ℕ) (len : ℕ) (w : Work) → hello_received c now from theirs wire len w ≡ hello_meets (offered_link c now w.ring from theirs wire len) w
unfolding hello_received
hello_received-is c now from theirs wire len w = refl

pub offer_received-is : (now : ℕ) (from : Who) (theirs : ℕ) (own : ℕ) (len : ℕ) (w : Work) → offer_received now from theirs own len w ≡ offer_seen now from theirs own len w (slot_where (greets_node_by from.actor own) w.ring.slots)
unfolding offer_received
offer_received-is now from theirs own len w = refl

pub take_received-is : (now : ℕ) (from : Who) (theirs : ℕ) (own : ℕ) (w : Work) → take_received now from theirs own w ≡ in_session from theirs own (take_seen now) (answer_unknown from theirs own) w
unfolding take_received
take_received-is now from theirs own w = refl

pub renew_received-is : (from : Who) (theirs : ℕ) (own : ℕ) (stamp : ℕ) (version : ℕ) (got : ℕ) (want : Bool) (ranges : List Interval) (w : Work) → renew_received from theirs own stamp version got want ranges w ≡ in_session from theirs own (renew_seen stamp version got want ranges) (answer_unknown from theirs own) w
unfolding renew_received
renew_received-is from theirs own stamp version got want ranges w = refl

pub ack_received-is : (from : Who) (theirs : ℕ) (own : ℕ) (stamp : ℕ) (version : ℕ) (w : Work) → ack_received from theirs own stamp version w ≡ in_session from theirs own (ack_seen stamp version) (λ v. v) w
unfolding ack_received
ack_received-is from theirs own stamp version w = refl

pub transfer_received-is : (from : Who) (theirs : ℕ) (own : ℕ) (number : ℕ) (part : List Interval) (w : Work) → transfer_received from theirs own number part w ≡ in_session from theirs own (transfer_seen number part) (answer_unknown from theirs own) w
unfolding transfer_received
transfer_received-is from theirs own number part w = refl

pub gone_received-is : (from : Who) (theirs : ℕ) (own : ℕ) (got : ℕ) (bound : Bool) (w : Work) → gone_received from theirs own got bound w ≡ in_session from theirs own (gone_seen got bound) (gone_elsewhere from theirs own bound) w
unfolding gone_received
gone_received-is from theirs own got bound w = refl

pub ruling_received-is : (c : Settings) (now : ℕ) (from : Who) (victim : Who) (ruling : Ruling) (w : Work) → ruling_received c now from victim ruling w ≡ in_found (ruling_seen c now (from.actor - arbiter_actor 0) ruling) (λ v. v) (slot_where (of_instance victim) w.ring.slots) w
unfolding ruling_received
ruling_received-is c now from victim ruling w = refl

pub kept_received-is : (c : Settings) (now : ℕ) (from : Who) (victim : Who) (round : ℕ) (claimer : Who) (w : Work) → kept_received c now from victim round claimer w ≡ kept_where c now (from.actor - arbiter_actor 0) victim round claimer w (has_rounds c)
unfolding kept_received
kept_received-is c now from victim round claimer w = refl

pub link_commanded-is : (c : Settings) (now : ℕ) (node : ℕ) (wire : ℕ) (len : ℕ) (w : Work) → link_commanded c now node wire len w ≡ greet (greeting_link c now w.ring node wire len) (refuse verb.Link) w
unfolding link_commanded
link_commanded-is c now node wire len w = refl

pub part_commanded-is : (node : ℕ) (w : Work) → part_commanded node w ≡ part_seen (slot_where (of_node may_part node) w.ring.slots) w
unfolding part_commanded
part_commanded-is node w = refl

pub give_commanded-is : (all : Bool) (node : ℕ) (w : Work) → give_commanded all node w ≡ give_if all node w (is_routing w.ring.phase)
unfolding give_commanded
give_commanded-is all node w = refl

pub join_commanded-is : (member : ℕ) (w : Work) → join_commanded member w ≡ join_unless member w (is_routing w.ring.phase)
unfolding join_commanded
join_commanded-is member w = refl

pub find_commanded-is : (key : Point) (w : Work) → find_commanded key w ≡ find_by key (hop_from w.ring key None) w
unfolding find_commanded
find_commanded-is key w = refl

pub seek_received-is : (origin : Who) (key : Point) (hops : ℕ) (w : Work) → seek_received origin key hops w ≡ seek_on origin key hops (hop_from w.ring key (Some origin.actor)) (nat_lt hops hop_limit) w
unfolding seek_received
seek_received-is origin key hops w = refl

pub found_received-is : (c : Settings) (now : ℕ) (key : Point) (holder : Who) (w : Work) → found_received c now key holder w ≡ (w ▷ tell (report.Found key holder) ▷ (λ v. greet_holder c now holder v (seeks_own w.ring key)))
unfolding found_received
found_received-is c now key holder w = refl

pub accusation_ruled-is : (table : Accusations) (accuser : Who) (victim : Who) → accusation_ruled table accuser victim ≡ ruling_by accuser (first_accuser accuser table) (first_accuser victim table)
unfolding accusation_ruled
accusation_ruled-is table accuser victim = refl

pub accusation_kept-is : (table : Accusations) (accuser : Who) (victim : Who) → accusation_kept table accuser victim ≡ first_kept accuser victim (first_accuser accuser table) (first_accuser victim table)
unfolding accusation_kept
accusation_kept-is table accuser victim = refl

pub claim_settled-is : (table : Table) (claimer : Who) (victim : Who) (round : ℕ) → claim_settled table claimer victim round ≡ kept_by claimer (first_accuser victim table.accusations) (first_claimer victim round table.claims) (round == 1)
unfolding claim_settled
claim_settled-is table claimer victim round = refl

pub claim_kept-is : (table : Table) (claimer : Who) (victim : Who) (round : ℕ) → claim_kept table claimer victim round ≡ claimer_kept claimer victim round (first_accuser victim table.accusations) (first_claimer victim round table.claims) (round == 1)
unfolding claim_kept
claim_kept-is table claimer victim round = refl

pub node_started-is : (c : FabricConfig) (me : Who) (spent : Bool) → node_started c me spent ≡ start_if c me spent
unfolding node_started
node_started-is c me spent = refl

pub frame_received-is : (c : Settings) (now : ℕ) (from : Who) (b : Body) (w : Work) → frame_received c now from b w ≡ counted w (frame_row c now from b w)
unfolding frame_received
frame_received-is c now from b w = refl

pub command_received-is : (c : Settings) (now : ℕ) (d : Command) (w : Work) → command_received c now d w ≡ counted w (command_row c now d w)
unfolding command_received
command_received-is c now d w = refl

pub ring_step-is : (c : Settings) (now : ℕ) (i : Input) (r : Ring) → ring_step c now i r ≡ step_if c now i (begun r) (is_left r.phase)
unfolding ring_step
ring_step-is c now i r = refl

pub slots_fired-zero : (c : Settings) (now : ℕ) (w : Work) → slots_fired c now zero w ≡ w
unfolding slots_fired
slots_fired-zero c now w = refl

pub slots_fired-suc : (c : Settings) (now k : ℕ) (w : Work) → slots_fired c now (suc k) w ≡ then_unless_left (slot_fired c now k) (slots_fired c now k w)
unfolding slots_fired
slots_fired-suc c now k w = refl
