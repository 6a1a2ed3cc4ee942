-- The examples, by computation.
use Rattle.std.specs.Prelude.{refl}
use Rattle.ring_rules.specs.Firing.{peer_accused, discharged_fired, slot_fired, slots_fired, freeze_given, place_sought, timer_fired}
use Rattle.ring_rules.specs.Handshakes.{hello_received, offer_received, take_received}
use Rattle.ring_rules.specs.Renewals.{renew_received, ack_received}
use Rattle.ring_rules.specs.Flights.{transfer_received, gone_received}
use Rattle.ring_rules.specs.Rulings.{ruling_received}
use Rattle.ring_rules.specs.Claims.{kept_received}
use Rattle.ring_rules.specs.Commands.{link_commanded, part_commanded, give_commanded, join_commanded}
use Rattle.ring_rules.specs.Seeks.{find_commanded, seek_received, found_received}
use Rattle.ring_rules.specs.Arbiters.{accusation_ruled, accusation_kept, claim_settled, claim_kept}
use Rattle.ring_rules.specs.Starts.{node_started}
use Rattle.ring_rules.specs.Frames.{frame_received}
use Rattle.ring_rules.specs.Steps.{command_received, ring_step}
use Rattle.world_rules.specs.Nodes.{node_begun, node_step}
use Rattle.world_rules.specs.Arbiters.{arbiter_begun, arbiter_step}
use Rattle.world_rules.specs.Events.{world_step}
use Rattle.rule_examples.specs.Joins.{Joins, TakesOnce}
use Rattle.rule_examples.specs.Lengths.{AgreesLength, CutsLength, TakesOverSooner}
use Rattle.rule_examples.specs.Searches.{FindsPeer, FindsItself, JoinsThrough}
use Rattle.rule_examples.specs.Rounds.{SettlesSplit, StaysSplit}
use Rattle.rule_examples.specs.TakeOvers.{TakesOver, LeavesBefore, TakesNothing, BothLeave, RestartsEmpty}

-- every rule, opened
all_rules : Unit {0}
unfolding peer_accused discharged_fired slot_fired slots_fired freeze_given place_sought timer_fired hello_received offer_received take_received renew_received ack_received transfer_received gone_received ruling_received kept_received link_commanded part_commanded give_commanded join_commanded find_commanded seek_received found_received accusation_ruled accusation_kept claim_settled claim_kept node_started frame_received command_received ring_step node_begun node_step arbiter_begun arbiter_step world_step
all_rules = tt

pub joins : Joins
unfolding all_rules
joins = refl

pub takes_once : TakesOnce
unfolding all_rules
takes_once = refl

pub takes_over : TakesOver
unfolding all_rules
takes_over = refl

pub leaves_before : LeavesBefore
unfolding all_rules
leaves_before = refl

pub takes_nothing : TakesNothing
unfolding all_rules
takes_nothing = refl

pub finds_peer : FindsPeer
unfolding all_rules
finds_peer = refl

pub finds_itself : FindsItself
unfolding all_rules
finds_itself = refl

pub joins_through : JoinsThrough
unfolding all_rules
joins_through = refl

pub agrees_length : AgreesLength
unfolding all_rules
agrees_length = refl

pub cuts_length : CutsLength
unfolding all_rules
cuts_length = refl

pub takes_over_sooner : TakesOverSooner
unfolding all_rules
takes_over_sooner = refl

pub both_leave : BothLeave
unfolding all_rules
both_leave = refl

pub restarts_empty : RestartsEmpty
unfolding all_rules
restarts_empty = refl

pub settles_split : SettlesSplit
unfolding all_rules
settles_split = refl

pub stays_split : StaysSplit
unfolding all_rules
stays_split = refl
