-- The examples, by computation.
use Rattle.std.specs.Prelude.{refl}
use Rattle.ring_rules.specs.Firing.{peer_accused, discharged_fired, slot_fired, slots_fired, freeze_given, place_sought, timer_fired}
use Rattle.ring_rules.specs.Handshakes.{hello_received, offer_received, take_received}
use Rattle.ring_rules.specs.Renewals.{renew_received, ack_received}
use Rattle.ring_rules.specs.Flights.{transfer_received, gone_received}
use Rattle.ring_rules.specs.Rulings.{ruling_received}
use Rattle.ring_rules.specs.Claims.{kept_received}
use Rattle.ring_rules.specs.Commands.{link_commanded, part_commanded, give_commanded, join_commanded}
use Rattle.ring_rules.specs.Seeks.{find_commanded, seek_received, found_received}
use Rattle.ring_rules.specs.Arbiters.{accusation_ruled, accusation_kept, claim_settled, claim_kept}
use Rattle.ring_rules.specs.Starts.{node_started}
use Rattle.ring_rules.specs.Frames.{frame_received}
use Rattle.ring_rules.specs.Steps.{command_received, ring_step}
use Rattle.world_rules.specs.Nodes.{node_begun, node_step}
use Rattle.world_rules.specs.Arbiters.{arbiter_begun, arbiter_step}
use Rattle.world_rules.specs.Events.{world_step}
use Rattle.replica_place.specs.Placement.{least_nodes, domains_up}
use Rattle.unit_rules.specs.Registers.{prepare_received, vote_received, done_received}
use Rattle.unit_rules.specs.Promises.{promise_received}
use Rattle.unit_rules.specs.Copies.{sync_received, fetch_received, piece_received}
use Rattle.unit_rules.specs.Activations.{activate_received}
use Rattle.unit_rules.specs.Writes.{append_received, appended_received, write_commanded, state_fired}
use Rattle.unit_rules.specs.Answers.{resolve_commanded, names_commanded}
use Rattle.text_fields.specs.Fields.{after_word}
use Rattle.name_rules.specs.Grammar.{change_of}
use Rattle.name_rules.specs.Names.{point_of}
use Rattle.unit_rules.specs.Questions.{reconfig_fired}
use Rattle.unit_rules.specs.Phases.{prepare_ends, swap_ends, promise_ends, vote_ends, copy_ends, done_ends, activate_ends}
use Rattle.unit_rules.specs.Transitions.{answer_received}
use Rattle.unit_rules.specs.Manager.{reconfig_commanded, manager_answered}
use Rattle.unit_rules.specs.Steps.{failover_step}
use Rattle.rule_examples.specs.Arbiters.{AnswersInOrder, Prepares, Votes, Dones}
use Rattle.rule_examples.specs.Managers.{Managers, Refusals as ManagerRefusals, Epochs, Memory, Ups, FiringInOrder, Starts}
use Rattle.rule_examples.specs.Moves.{MovesThePrimary}
use Rattle.rule_examples.specs.Phases.{Preparations, AfterPrepare, Moves, Choices, Decisions, Copies, Supersessions}
use Rattle.rule_examples.specs.Replicas.{Promises, Syncs, Fetches, Pieces, Activations}
use Rattle.rule_examples.specs.Runs.{CreatesAndWrites, ListsUnits, RefusesMore, LosesAndGoesOn}
use Rattle.rule_examples.specs.Writes.{Appends, Refusals as ReplicaRefusals, Writes, Confirmations, FiringOfAPrimary}

-- every rule, opened
unfoldable pub all_rules : Unit {0}
unfolding peer_accused discharged_fired slot_fired slots_fired freeze_given place_sought timer_fired hello_received offer_received take_received renew_received ack_received transfer_received gone_received ruling_received kept_received link_commanded part_commanded give_commanded join_commanded find_commanded seek_received found_received accusation_ruled accusation_kept claim_settled claim_kept node_started frame_received command_received ring_step node_begun node_step arbiter_begun arbiter_step world_step least_nodes domains_up prepare_received vote_received done_received promise_received sync_received fetch_received piece_received activate_received append_received appended_received write_commanded resolve_commanded names_commanded after_word change_of point_of state_fired reconfig_fired prepare_ends swap_ends promise_ends vote_ends copy_ends done_ends activate_ends answer_received reconfig_commanded manager_answered failover_step
all_rules = tt

pub an_arbitrator_answers_in_order : AnswersInOrder
unfolding all_rules
an_arbitrator_answers_in_order = refl

pub an_arbitrator_prepares : Prepares
unfolding all_rules
an_arbitrator_prepares = record { first = refl; lower = refl; restarted = refl }

pub an_arbitrator_votes : Votes
unfolding all_rules
an_arbitrator_votes = record { first = refl; second = refl; of_another = refl; below = refl; unprepared = refl }

pub an_arbitrator_keeps_what_is_done : Dones
unfolding all_rules
an_arbitrator_keeps_what_is_done = record { again = refl; lower = refl; greater = refl; below = refl }

pub the_holder_of_point_0_manages : Managers
unfolding all_rules
the_holder_of_point_0_manages = record { holder = refl; no_other = refl }

pub a_manager_refuses : ManagerRefusals
unfolding all_rules
a_manager_refuses = record { no_manager = refl; busy = refl; exists = refl; past_end = refl }

pub epochs_follow : Epochs
unfolding all_rules
epochs_follow = record { next = refl; after_loss = refl }

pub a_manager_remembers : Memory
unfolding all_rules
a_manager_remembers = record { commanded = refl; superseded = refl; refused = refl; configured = refl }

pub nodes_are_up : Ups
unfolding all_rules
nodes_are_up = record { two_leases = refl; past = refl; early = refl; itself = refl; accused = refl; loaded = refl; heard = refl; none_accused = refl }

pub epochs_are_prepared : Preparations
unfolding all_rules
epochs_are_prepared = record { highest_first = refl; highest_last = refl; once = refl; of_another = refl }

pub commands_go_on : AfterPrepare
unfolding all_rules
commands_go_on = record { exists = refl; no_unit = refl; no_member = refl; too_few = refl; placed = refl; swap = refl; heal = refl; lose = refl }

pub a_swap_moves : Moves
unfolding all_rules
a_swap_moves = record { stranger = refl; of_three = refl; fired_again = refl; of_one = refl }

pub the_furthest_is_chosen : Choices
unfolding all_rules
the_furthest_is_chosen = record { once = refl; by_epoch = refl; by_last = refl; at_tie = refl; heal_primary = refl; heal_first = refl }

pub votes_decide : Decisions
unfolding all_rules
votes_decide = record { split = refl; decided = refl; fired_again = refl; still_open = refl; of_no_arbitrator = refl }

pub logs_are_copied : Copies
unfolding all_rules
logs_are_copied = record { waits = refl; ends = refl }

pub a_higher_epoch_supersedes : Supersessions
unfolding all_rules
a_higher_epoch_supersedes = record { by_older = refl; by_equal = refl; by_vote = refl; by_done = refl; by_lower = refl; of_another = refl }

pub a_replica_promises : Promises
unfolding all_rules
a_replica_promises = record { raised = refl; again = refl; older = refl }

pub a_replica_takes_a_log : Syncs
unfolding all_rules
a_replica_takes_a_log = record { again = refl; older = refl; nothing = refl; own = refl; gap = refl; other = refl }

pub a_replica_gives_entries : Fetches
unfolding all_rules
a_replica_gives_entries = record { given = refl; silent = refl; past_end = refl; before_first = refl }

pub a_replica_collects_entries : Pieces
unfolding all_rules
a_replica_collects_entries = record { collected = refl; last = refl; first_again = refl; promised_away = refl; past_end = refl; of_another = refl; unasked = refl; gap = refl }

pub a_replica_takes_its_role : Activations
unfolding all_rules
a_replica_takes_its_role = record { primary = refl; secondary = refl; again = refl; restarted = refl; older = refl; no_member = refl; gap = refl }

pub a_replica_appends : Appends
unfolding all_rules
a_replica_appends = record { taken = refl; without_role = refl; held = refl; gap = refl; elsewhere = refl; older = refl }

pub a_replica_refuses : ReplicaRefusals
unfolding all_rules
a_replica_refuses = record { older = refl; older_after_restart = refl; second_first = refl; first = refl; collected_second_first = refl }

pub a_primary_writes : Writes
unfolding all_rules
a_primary_writes = record { sent = refl; moves_nothing = refl; alone = refl; refused = refl; promised_away = refl }

pub a_primary_commits : Confirmations
unfolding all_rules
a_primary_commits = record { commits = refl; waits = refl; again = refl; late = refl; past_end = refl; of_another = refl; of_stranger = refl; elsewhere = refl }

pub a_firing_sends_again_primary : FiringOfAPrimary
unfolding all_rules
a_firing_sends_again_primary = refl

pub a_firing_sends_again_order : FiringInOrder
unfolding all_rules
a_firing_sends_again_order = refl

pub a_start_has_its_replicas : Starts
unfolding all_rules
a_start_has_its_replicas = record { collecting = refl; collected = refl; own = refl }

pub creates_and_writes : CreatesAndWrites
unfolding all_rules
creates_and_writes = refl

pub lists_units : ListsUnits
unfolding all_rules
lists_units = refl

pub refuses_more : RefusesMore
unfolding all_rules
refuses_more = refl

pub loses_and_goes_on : LosesAndGoesOn
unfolding all_rules
loses_and_goes_on = refl

pub moves_the_primary : MovesThePrimary
unfolding all_rules
moves_the_primary = refl
