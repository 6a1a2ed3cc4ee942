-- How a reconfiguration goes from phase to phase.
use Rattle.std.specs.Prelude.{ℕ, List, [], ◌∷◌, Option, Some, None, Result, Ok, Err, if◌then◌else◌}
use Rattle.ring_points.specs.declared.unit.Config.{Config}
use Rattle.ring_points.specs.declared.unit.Epoch.{Epoch}
use Rattle.ring_points.specs.Epochs.{is_older, same_epoch}
use Rattle.arbiter_quorum.specs.Votes.{no_votes}
use Rattle.fabric_terms.specs.declared.message.Body.{Body}
use Rattle.fabric_terms.specs.declared.message.Body.TheVariants as body
use Rattle.failover_units.specs.declared.refusal.UnitRefusal.{UnitRefusal}
use Rattle.failover_units.specs.declared.refusal.UnitRefusal.TheVariants as refusal
use Rattle.replica_place.specs.declared.load.NodeLoad.{NodeLoad}
use Rattle.replica_place.specs.declared.placement.TooFewDomains.{TooFewDomains}
use Rattle.replica_place.specs.Placement.{placement}
use Rattle.ring_rules.specs.Rising.{rising}
use Rattle.unit_rules.specs.Deeds.{Acted, acted, still}
use Rattle.unit_rules.specs.declared.reconfig.Kind.{Kind}
use Rattle.unit_rules.specs.declared.reconfig.Kind.TheVariants.{Create, Swap, Heal, Lose}
use Rattle.unit_rules.specs.declared.reconfig.Standing.{Standing}
use Rattle.unit_rules.specs.declared.reconfig.Task.{Task}
use Rattle.unit_rules.specs.Reconfigs.{OriginLog, PreparePhase, SwapPhase, PromisePhase, VotePhase, CopyPhase, DonePhase, ActivatePhase, Reconfig, Prepare, Phase0, Phase1, Decide, Phase2, Phase3, Phase4, Step, Stay, Finished, Superseded, Refused, task_of}
use Rattle.unit_rules.specs.Polls.{poll_of, arbiters_to}
use Rattle.unit_rules.specs.Questions.{asks}
use Rattle.unit_rules.specs.Choices.{is_among}
use Rattle.unit_rules.specs.Phases.{Choice, config_of, promised_with, prepare_ends, swap_ends, promise_ends, vote_ends, copy_ends, done_ends, activate_ends}

-- it goes on in the phase in which it is
abbrev pub stays : Reconfig → Acted Step
stays r = still (Stay r)

-- it enters a phase, and asks these actors
abbrev pub enters : Reconfig → List ℕ → Acted Step
enters r actors = acted (Stay r) (asks r actors)

-- it ends with a refusal
abbrev pub is_refused : UnitRefusal → Acted Step
is_refused refusal = still (Refused refusal)

-- it begins: all arbitrators are asked to prepare the epoch
abbrev pub begun : Task → Reconfig
begun t = Prepare (record { task = t; poll = poll_of (arbiters_to t.arbitrators) })

-- The phases that more than one command enters.

-- the arbitrators are asked to vote for this, with the log of the source
abbrev pub proposes : Task → Config → OriginLog → Acted Step
proposes t config source =
    enters (Decide (record { task = t; config = config; source = source; votes = no_votes t.arbitrators })) (arbiters_to t.arbitrators)

-- these nodes are asked for their promises, for these members, of whom this is the first
abbrev pub asks_promises : Task → List ℕ → List ℕ → ℕ → PromisePhase
asks_promises t asked members first = record { task = t; members = members; first = first; poll = poll_of asked }

-- After Prepare it goes on by what was commanded, and by what was done before.

abbrev pub first_of : List ℕ → ℕ
first_of [] = 0
first_of (n ∷ ns) = n

abbrev pub too_few : TooFewDomains → Acted Step
too_few few = is_refused (refusal.TooFewDomains few.0)

-- create: the members are placed, and the primary is the first of them
abbrev pub create_placed : Task → Result (List ℕ) TooFewDomains → Acted Step
create_placed t (Err few) = too_few few
create_placed t (Ok placed) = proposes t (config_of t (first_of placed) (rising placed)) (record { origin = first_of placed; last = 0 })

-- swap: the node is a member, and the old primary promises first
abbrev pub swap_begun : Task → Config → ℕ → Acted Step
swap_begun t old node =
    if is_among node old.members then enters (Phase0 (record { task = t; old = old; primary = node })) (old.primary ∷ [])
    else is_refused refusal.NotMember

-- heal: the members are placed anew, and the old ones promise
abbrev pub heal_placed : Task → Config → Result (List ℕ) TooFewDomains → Acted Step
heal_placed t old (Err few) = too_few few
heal_placed t old (Ok placed) = enters (Phase1 (asks_promises t old.members (rising placed) (first_of placed))) old.members

-- lose: the node's replica promises, and goes on alone
abbrev pub lose_begun : Task → ℕ → Acted Step
lose_begun t node = enters (Phase1 (asks_promises t (node ∷ []) (node ∷ []) node)) (node ∷ [])

abbrev pub prepared_as : List NodeLoad → Task → Kind → Option Config → Acted Step
prepared_as nodes t (Create count) (Some old) = is_refused refusal.Exists
prepared_as nodes t (Create count) None = create_placed t (placement nodes count)
prepared_as nodes t (Swap node) (Some old) = swap_begun t old node
prepared_as nodes t (Heal count) (Some old) = heal_placed t old (placement nodes count)
prepared_as nodes t (Lose node) (Some old) = lose_begun t node
prepared_as nodes t _ None = is_refused refusal.NoUnit

abbrev pub after_prepare : List NodeLoad → Task → Result (Option Config) PreparePhase → Acted Step
after_prepare nodes t (Ok old) = prepared_as nodes t t.kind old
after_prepare nodes t (Err p) = stays (Prepare p)

-- After phase 1 the chosen configuration is proposed; else phase 1 goes on as it is said.
abbrev pub after_promise : Task → (Reconfig → Acted Step) → Result Choice PromisePhase → Acted Step
after_promise t goes_on (Ok choice) = proposes t choice.config choice.source
after_promise t goes_on (Err p) = goes_on (Phase1 p)

-- After phase 0 all old members are asked, and the promise that ended it counts; it may be a majority alone, and then nobody
-- is asked.
abbrev pub after_swap : SwapPhase → Result Standing SwapPhase → Acted Step
after_swap p (Ok standing) =
    after_promise p.task (λ r. enters r p.old.members) (promised_with p.old.primary standing (asks_promises p.task p.old.members p.old.members p.primary))
after_swap p (Err same) = stays (Phase0 same)

-- After the votes the members of the decided configuration take the log: of a new partition none, from the primary.

abbrev pub source_by : Kind → Config → OriginLog → OriginLog
source_by (Create count) config source = record { origin = config.primary; last = 0 }
source_by _ config source = source

abbrev pub copies : Task → Config → OriginLog → Acted Step
copies t config source = enters (Phase2 (record { task = t; config = config; source = source; poll = poll_of config.members })) config.members

abbrev pub after_vote : VotePhase → Result (Option Config) VotePhase → Acted Step
after_vote p (Ok (Some config)) = copies p.task config (source_by p.task.kind config p.source)
after_vote p (Ok None) = still (Superseded p.task.epoch)
after_vote p (Err more) = stays (Decide more)

-- then the arbitrators keep it as done
abbrev pub stores : Task → Config → Acted Step
stores t config = enters (Phase3 (record { task = t; config = config; poll = poll_of (arbiters_to t.arbitrators) })) (arbiters_to t.arbitrators)

abbrev pub after_copy : CopyPhase → Result (Unit {0}) CopyPhase → Acted Step
after_copy p (Ok done) = stores p.task p.config
after_copy p (Err more) = stays (Phase2 more)

-- then its members take their roles
abbrev pub activates : Task → Config → Acted Step
activates t config = enters (Phase4 (record { task = t; config = config; poll = poll_of config.members })) config.members

abbrev pub after_done : DonePhase → Result (Unit {0}) DonePhase → Acted Step
after_done p (Ok done) = activates p.task p.config
after_done p (Err more) = stays (Phase3 more)

abbrev pub after_activate : ActivatePhase → Result (Unit {0}) ActivatePhase → Acted Step
after_activate p (Ok done) = still (Finished p.config)
after_activate p (Err more) = stays (Phase4 more)

-- the answer of an actor, phase by phase
abbrev pub goes_on : List NodeLoad → ℕ → Body → Reconfig → Acted Step
goes_on nodes actor b (Prepare p) = after_prepare nodes p.task (prepare_ends actor b p)
goes_on nodes actor b (Phase0 p) = after_swap p (swap_ends actor b p)
goes_on nodes actor b (Phase1 p) = after_promise p.task stays (promise_ends actor b p)
goes_on nodes actor b (Decide p) = after_vote p (vote_ends actor b p)
goes_on nodes actor b (Phase2 p) = after_copy p (copy_ends actor b p)
goes_on nodes actor b (Phase3 p) = after_done p (done_ends actor b p)
goes_on nodes actor b (Phase4 p) = after_activate p (activate_ends actor b p)

-- A kept epoch that an answer carries is tested first, in every phase: one that is not below the own supersedes it.

abbrev pub carried : Body → Option Epoch
carried (body.NoPrepare partition epoch kept) = Some kept
carried (body.NoVote partition epoch kept) = Some kept
carried (body.NoDone partition epoch kept) = Some kept
carried (body.Older partition epoch kept) = Some kept
carried _ = None

abbrev pub answered_by : List NodeLoad → ℕ → Body → Reconfig → Option Epoch → Acted Step
answered_by nodes actor b r (Some kept) = if is_older kept (task_of r).epoch then stays r else still (Superseded kept)
answered_by nodes actor b r None = goes_on nodes actor b r

-- an answer to this epoch; one to another changes nothing
unfoldable pub answer_received : List NodeLoad → ℕ → Epoch → Body → Reconfig → Acted Step
answer_received nodes actor epoch b r =
    if same_epoch epoch (task_of r).epoch then answered_by nodes actor b r (carried b) else stays r
