-- What a reconfiguration does at an answer: it only asks, and asks nothing where it is over.
use Rattle.std.proofs.Common.{◌≡◌, ℕ, Bool, true, false, cond, List, [], ◌∷◌, Option, Some, None, Result, Ok, Err, refl, ap}
use Rattle.ring_points.specs.declared.unit.Config.{Config}
use Rattle.ring_points.specs.declared.unit.Epoch.{Epoch}
use Rattle.ring_points.specs.Epochs.{is_older, same_epoch}
use Rattle.fabric_terms.specs.declared.message.Body.{Body}
use Rattle.fabric_terms.specs.declared.message.Message.{Message}
use Rattle.failover_units.specs.declared.refusal.UnitRefusal.TheVariants as refusal
use Rattle.arbiter_quorum.specs.Votes.{no_votes}
use Rattle.ring_rules.specs.Rising.{rising}
use Rattle.replica_place.specs.declared.load.NodeLoad.{NodeLoad}
use Rattle.replica_place.specs.declared.placement.TooFewDomains.{TooFewDomains}
use Rattle.replica_place.specs.Placement.{placement}
use Rattle.unit_rules.specs.Choices.{is_among}
use Rattle.unit_rules.specs.declared.reconfig.Kind.{Kind}
use Rattle.unit_rules.specs.declared.reconfig.Kind.TheVariants.{Create, Swap, Heal, Lose}
use Rattle.unit_rules.specs.declared.reconfig.Standing.{Standing}
use Rattle.unit_rules.specs.declared.reconfig.Task.{Task}
use Rattle.unit_rules.specs.Deeds.{Deed, Acted, records_of, reports_of}
use Rattle.unit_rules.specs.Phases.{Choice, prepare_ends, swap_ends, promise_ends, vote_ends, copy_ends, done_ends, activate_ends, promised_with, config_of}
use Rattle.unit_rules.specs.Polls.{arbiters_to, poll_of}
use Rattle.unit_rules.specs.Questions.{asks}
use Rattle.unit_rules.specs.Reconfigs.{Reconfig, Prepare, Phase0, Phase1, Decide, Phase2, Phase3, Phase4, PreparePhase, SwapPhase, PromisePhase, VotePhase, CopyPhase, DonePhase, ActivatePhase, Step, Stay, Finished, Superseded, Refused, task_of}
use Rattle.unit_rules.specs.Transitions.{enters, stays, is_refused, create_placed, swap_begun, heal_placed, prepared_as, after_prepare, after_promise, after_swap, after_vote, after_copy, after_done, after_activate, goes_on, answered_by, answer_received, carried, asks_promises, first_of, source_by}
use Rattle.reconfig_phases.specs.Answers.{answered_unit, received, received_in}

abbrev pub OnlyAsks : Step → List Deed → Type 0
OnlyAsks (Stay r) ds = (records_of ds ≡ []) × (reports_of ds ≡ [])
OnlyAsks (Finished config) ds = ds ≡ []
OnlyAsks (Superseded epoch) ds = ds ≡ []
OnlyAsks (Refused why) ds = ds ≡ []

abbrev pub Asks : Acted Step → Type 0
Asks a = OnlyAsks a.state a.deeds

pub asking : (r : Reconfig) (actors : List ℕ) → (records_of (asks r actors) ≡ []) × (reports_of (asks r actors) ≡ [])
asking r [] = (refl, refl)
asking r (a ∷ actors) = asking r actors

entering : (r : Reconfig) (actors : List ℕ) → Asks (enters r actors)
entering r actors = asking r actors

staying : (r : Reconfig) → Asks (stays r)
staying r = (refl, refl)

created : (t : Task) (placed : Result (List ℕ) TooFewDomains) → Asks (create_placed t placed)
created t (Err few) = refl
created t (Ok placed) =
    entering (Decide (record { task = t; config = config_of t (first_of placed) (rising placed); source = record { origin = first_of placed; last = 0 }; votes = no_votes t.arbitrators }))
    (arbiters_to t.arbitrators)

swapped : (t : Task) (old : Config) (node : ℕ) → Asks (swap_begun t old node)
swapped t old node = by (is_among node old.members)
  where
    by : (b : Bool)
        → Asks (cond b (enters (Phase0 (record { task = t; old = old; primary = node })) (old.primary ∷ [])) (is_refused refusal.NotMember))
    by true = entering (Phase0 (record { task = t; old = old; primary = node })) (old.primary ∷ [])
    by false = refl

healed : (t : Task) (old : Config) (placed : Result (List ℕ) TooFewDomains) → Asks (heal_placed t old placed)
healed t old (Err few) = refl
healed t old (Ok placed) = entering (Phase1 (asks_promises t old.members (rising placed) (first_of placed))) old.members

prepared : (nodes : List NodeLoad) (t : Task) (kind : Kind) (old : Option Config) → Asks (prepared_as nodes t kind old)
prepared nodes t (Create count) (Some old) = refl
prepared nodes t (Create count) None = created t (placement nodes count)
prepared nodes t (Swap node) (Some old) = swapped t old node
prepared nodes t (Swap node) None = refl
prepared nodes t (Heal count) (Some old) = healed t old (placement nodes count)
prepared nodes t (Heal count) None = refl
prepared nodes t (Lose node) (Some old) = entering (Phase1 (asks_promises t (node ∷ []) (node ∷ []) node)) (node ∷ [])
prepared nodes t (Lose node) None = refl

promised : (t : Task) (more : Reconfig → Acted Step) → ((r : Reconfig) → Asks (more r)) → (ends : Result Choice PromisePhase) → Asks (after_promise t more ends)
promised t more each (Ok choice) =
    entering (Decide (record { task = t; config = choice.config; source = choice.source; votes = no_votes t.arbitrators })) (arbiters_to t.arbitrators)
promised t more each (Err p) = each (Phase1 p)

after_0 : (p : SwapPhase) (ends : Result Standing SwapPhase) → Asks (after_swap p ends)
after_0 p (Ok standing) =
    promised p.task (λ r. enters r p.old.members) (λ r. entering r p.old.members)
    (promised_with p.old.primary standing (asks_promises p.task p.old.members p.old.members p.primary))
after_0 p (Err same) = staying (Phase0 same)

decided : (p : VotePhase) (ends : Result (Option Config) VotePhase) → Asks (after_vote p ends)
decided p (Ok (Some config)) =
    entering (Phase2 (record { task = p.task; config = config; source = source_by p.task.kind config p.source; poll = poll_of {A = Unit {0}} config.members })) config.members
decided p (Ok None) = refl
decided p (Err more) = staying (Decide more)

copied : (p : CopyPhase) (ends : Result (Unit {0}) CopyPhase) → Asks (after_copy p ends)
copied p (Ok done) =
    entering (Phase3 (record { task = p.task; config = p.config; poll = poll_of {A = Unit {0}} (arbiters_to p.task.arbitrators) })) (arbiters_to p.task.arbitrators)
copied p (Err more) = staying (Phase2 more)

stored : (p : DonePhase) (ends : Result (Unit {0}) DonePhase) → Asks (after_done p ends)
stored p (Ok done) = entering (Phase4 (record { task = p.task; config = p.config; poll = poll_of {A = Unit {0}} p.config.members })) p.config.members
stored p (Err more) = staying (Phase3 more)

activated : (p : ActivatePhase) (ends : Result (Unit {0}) ActivatePhase) → Asks (after_activate p ends)
activated p (Ok done) = refl
activated p (Err more) = staying (Phase4 more)

prepare_over : (nodes : List NodeLoad) (t : Task) (ends : Result (Option Config) PreparePhase) → Asks (after_prepare nodes t ends)
prepare_over nodes t (Ok old) = prepared nodes t t.kind old
prepare_over nodes t (Err p) = staying (Prepare p)

going_on : (nodes : List NodeLoad) (actor : ℕ) (b : Body) (r : Reconfig) → Asks (goes_on nodes actor b r)
going_on nodes actor b (Prepare p) = prepare_over nodes p.task (prepare_ends actor b p)
going_on nodes actor b (Phase0 p) = after_0 p (swap_ends actor b p)
going_on nodes actor b (Phase1 p) = promised p.task stays staying (promise_ends actor b p)
going_on nodes actor b (Decide p) = decided p (vote_ends actor b p)
going_on nodes actor b (Phase2 p) = copied p (copy_ends actor b p)
going_on nodes actor b (Phase3 p) = stored p (done_ends actor b p)
going_on nodes actor b (Phase4 p) = activated p (activate_ends actor b p)

answering : (nodes : List NodeLoad) (actor : ℕ) (b : Body) (r : Reconfig) (kept : Option Epoch) → Asks (answered_by nodes actor b r kept)
answering nodes actor b r (Some kept) = by (is_older kept (task_of r).epoch)
  where
    by : (older : Bool) → Asks (cond older (stays r) (record { state = Superseded kept; deeds = [] }))
    by true = staying r
    by false = refl
answering nodes actor b r None = going_on nodes actor b r

receiving_at : (nodes : List NodeLoad) (actor : ℕ) (epoch : Epoch) (b : Body) (r : Reconfig) → Asks (answer_received nodes actor epoch b r)
unfolding answer_received
receiving_at nodes actor epoch b r = by (same_epoch epoch (task_of r).epoch)
  where
    by : (same : Bool) → Asks (cond same (answered_by nodes actor b r (carried b)) (stays r))
    by true = answering nodes actor b r (carried b)
    by false = staying r

receiving_in : (nodes : List NodeLoad) (actor : ℕ) (b : Body) (r : Reconfig) (u : Option (ℕ × Epoch)) → Asks (received_in nodes actor b r u)
receiving_in nodes actor b r None = staying r
receiving_in nodes actor b r (Some u) = receiving_at nodes actor u.1 b r

pub receiving : (nodes : List NodeLoad) (m : Message) (r : Reconfig) → Asks (received nodes m r)
receiving nodes m r = receiving_in nodes m.from.actor m.body r (answered_unit m.body)

-- The nodes are read in the first phase alone.

abbrev pub is_preparing : Reconfig → Bool
is_preparing (Prepare p) = true
is_preparing _ = false

going_alike : (nodes others : List NodeLoad) (actor : ℕ) (b : Body) (r : Reconfig) → is_preparing r ≡ false
    → goes_on nodes actor b r ≡ goes_on others actor b r
going_alike nodes others actor b (Prepare p) past = absurd (cc)
going_alike nodes others actor b (Phase0 p) past = refl
going_alike nodes others actor b (Phase1 p) past = refl
going_alike nodes others actor b (Decide p) past = refl
going_alike nodes others actor b (Phase2 p) past = refl
going_alike nodes others actor b (Phase3 p) past = refl
going_alike nodes others actor b (Phase4 p) past = refl

answering_alike : (nodes others : List NodeLoad) (actor : ℕ) (b : Body) (r : Reconfig) (kept : Option Epoch) → is_preparing r ≡ false
    → answered_by nodes actor b r kept ≡ answered_by others actor b r kept
answering_alike nodes others actor b r (Some kept) past = refl
answering_alike nodes others actor b r None past = going_alike nodes others actor b r past

received_at_alike : (nodes others : List NodeLoad) (actor : ℕ) (epoch : Epoch) (b : Body) (r : Reconfig) → is_preparing r ≡ false
    → answer_received nodes actor epoch b r ≡ answer_received others actor epoch b r
unfolding answer_received
received_at_alike nodes others actor epoch b r past =
    ap (λ (a : Acted Step). cond (same_epoch epoch (task_of r).epoch) a (stays r)) (answering_alike nodes others actor b r (carried b) past)

received_in_alike : (nodes others : List NodeLoad) (actor : ℕ) (b : Body) (r : Reconfig) (u : Option (ℕ × Epoch)) → is_preparing r ≡ false
    → received_in nodes actor b r u ≡ received_in others actor b r u
received_in_alike nodes others actor b r None past = refl
received_in_alike nodes others actor b r (Some u) past = received_at_alike nodes others actor u.1 b r past

pub received_alike : (nodes others : List NodeLoad) (m : Message) (r : Reconfig) → is_preparing r ≡ false → received nodes m r ≡ received others m r
received_alike nodes others m r past = received_in_alike nodes others m.from.actor m.body r (answered_unit m.body) past
