-- An answer keeps a reconfiguration in range, from phase to phase.
use Rattle.std.proofs.Common.{◌≡◌, ℕ, true, false, ◌&&◌, List, [], ◌∷◌, Option, Some, None, IsTrue, refl}
use Rattle.std.specs.Prelude.{◌==◌, All, Err, Ok, Result, nat_le, nat_lt}
use Rattle.std.proofs.lemmas.Bool.{and_from, and_parts, cond_both, eq-eqb, le-leb, lt-ltb, or_left}
use Rattle.std.proofs.lemmas.List.Elements.{All-cons, All-nil}
use Rattle.arbiter_quorum.specs.Votes.{no_votes}
use Rattle.failover_units.specs.declared.refusal.UnitRefusal.{UnitRefusal}
use Rattle.failover_units.specs.declared.refusal.UnitRefusal.TheVariants as refusal
use Rattle.fabric_terms.specs.declared.message.Body.{Body}
use Rattle.fabric_terms.specs.declared.message.Body.TheVariants as body
use Rattle.fabric_terms.specs.Fields.{is_config, is_done, is_epoch, is_node, is_short, is_unit, rises_above}
use Rattle.fabric_terms.specs.Messages.{is_sound_body}
use Rattle.fabric_terms.specs.Ranges.{FitsReason}
use Rattle.frames_fit.proofs.Facts.{within_parts}
use Rattle.replica_place.specs.declared.load.NodeLoad.{NodeLoad}
use Rattle.replica_place.specs.declared.placement.TooFewDomains.{TooFewDomains}
use Rattle.replica_place.specs.Placement.{placement}
use Rattle.ring_points.specs.declared.unit.Config.{Config}
use Rattle.ring_points.specs.declared.unit.Epoch.{Epoch}
use Rattle.ring_points.specs.Epochs.{is_older, same_epoch}
use Rattle.ring_rules.specs.Rising.{rising}
use Rattle.unit_rules.specs.declared.reconfig.Kind.{Kind}
use Rattle.unit_rules.specs.declared.reconfig.Kind.TheVariants.{Create, Swap, Heal, Lose}
use Rattle.unit_rules.specs.declared.reconfig.Standing.{Standing}
use Rattle.unit_rules.specs.declared.reconfig.Task.{Task}
use Rattle.unit_rules.specs.Choices.{is_among}
use Rattle.unit_rules.specs.Deeds.{Acted, still}
use Rattle.unit_rules.specs.Manager.{reason_of}
use Rattle.unit_rules.specs.Phases.{Choice, activate_ends, config_of, copy_ends, done_ends, prepare_ends, promise_ends, promised_with, swap_ends, vote_ends}
use Rattle.unit_rules.specs.Polls.{arbiters_to, poll_of}
use Rattle.unit_rules.specs.Reconfigs.{ActivatePhase, CopyPhase, Decide, DonePhase, Finished, Phase0, Phase1, Phase2, Phase3, Phase4, Prepare, PreparePhase, PromisePhase, Reconfig, Refused, OriginLog, Stay, Step, Superseded, SwapPhase, VotePhase, task_of}
use Rattle.unit_rules.specs.Transitions.{activates, after_activate, after_copy, after_done, after_prepare, after_promise, after_swap, after_vote, answer_received, answered_by, asks_promises, begun, carried, copies, create_placed, enters, first_of, goes_on, heal_placed, is_refused, lose_begun, prepared_as, proposes, source_by, stays, stores, swap_begun}
use Rattle.fabric_fit.specs.Deeds.{ActedInRange}
use Rattle.fabric_fit.specs.Managers.{ActivateInRange, CopyInRange, DoneInRange, PrepareInRange, PromiseInRange, ReconfigInRange, SourceInRange, SwapInRange, TaskInRange, VoteInRange, are_members, is_kind, is_arbitrator, is_standing, is_told}
use Rattle.fabric_fit.proofs.Asking.{IsAsked, first_asked, first_arbitrators, asks_in_range, node_asked, nodes_asked}
use Rattle.fabric_fit.proofs.Deeds.{stays_in_range}
use Rattle.fabric_fit.proofs.Members.{config_from, config_parts, member_node, members_nodes}
use Rattle.fabric_fit.proofs.Phases.{ChoiceInRange, EndInRange, IsDone, IsStanding, Said, activate_ends_in_range, copy_ends_in_range, done_ends_in_range, prepare_ends_in_range, promise_ends_in_range, promised_in_range, swap_ends_in_range, vote_ends_in_range}
use Rattle.fabric_fit.proofs.Placing.{NodesInRange, PlacementInRange, placement_in_range}
use Rattle.fabric_fit.proofs.Polls.{poll_of_in_range}

-- how it is with a reconfiguration after an answer
abbrev pub StepInRange : Step → Type 0
StepInRange (Stay r) = ReconfigInRange r
StepInRange (Finished config) = IsTrue (is_config config)
StepInRange (Superseded epoch) = IsTrue (is_epoch epoch)
StepInRange (Refused refusal) = FitsReason (reason_of refusal)

abbrev pub StepActs : Acted Step → Type 0
StepActs a = ActedInRange StepInRange a

stays_on : (r : Reconfig) → ReconfigInRange r → StepActs (stays r)
stays_on r h = stays_in_range StepInRange (Stay r) h

refused : (u : UnitRefusal) → FitsReason (reason_of u) → StepActs (is_refused u)
refused u h = stays_in_range StepInRange (Refused u) h

superseded : (epoch : Epoch) → IsTrue (is_epoch epoch) → StepActs (still (Superseded epoch))
superseded epoch h = stays_in_range StepInRange (Superseded epoch) h

entered : (r : Reconfig) → ReconfigInRange r → (actors : List ℕ) → All IsAsked actors → StepActs (enters r actors)
entered r h actors k = record { state = h; deeds = asks_in_range r h actors k }

-- It begins.

pub begun_in_range : (t : Task) → TaskInRange t → ReconfigInRange (begun t)
begun_in_range t h = record { task = h; poll = poll_of_in_range is_arbitrator is_done (arbiters_to t.arbitrators) (first_arbitrators t.arbitrators h.arbitrators) }

-- The phases that more than one command enters.

module _ (t : Task) (fine : TaskInRange t) where
  pub epoch_fits : IsTrue (is_epoch t.epoch)
  epoch_fits = (and_parts (is_short t.partition) (is_epoch t.epoch) fine.unit).1

  proposed : (config : Config) (source : OriginLog) → IsTrue (is_config config) → SourceInRange source → StepActs (proposes t config source)
  proposed config source h k =
      let p : VotePhase = record { task = t; config = config; source = source; votes = no_votes t.arbitrators } in
      entered (Decide p)
      (record {
        task = fine;
        config = h;
        source = k;
        votes = record { arbitrators = fine.arbitrators; answers = All-nil (λ a. IsTrue (is_config a.1)) };
      }) (arbiters_to t.arbitrators) (first_asked t.arbitrators fine.arbitrators)

  promises_in_range : (asked members : List ℕ) (first : ℕ) → All (λ n. IsTrue (is_node n)) asked → IsTrue (are_members members) → IsTrue (is_among first members)
      → PromiseInRange (asks_promises t asked members first)
  promises_in_range asked members first h k m = record { task = fine; members = k; first = m; poll = poll_of_in_range is_node is_standing asked h }

  -- After Prepare.

  created : (r : Result (List ℕ) TooFewDomains) → PlacementInRange r → StepActs (create_placed t r)
  created (Err few) h = refused (refusal.TooFewDomains few.0) h
  created (Ok placed) h =
      proposed (config_of t (first_of placed) (rising placed)) (record { origin = first_of placed; last = 0 })
      (config_from (config_of t (first_of placed) (rising placed)) fine.unit h.members h.first)
      (record { origin = member_node (first_of placed) (rising placed) h.members h.first; last = refl })

  swapped : (old : Config) (node : ℕ) → IsTrue (is_config old) → StepActs (swap_begun t old node)
  swapped old node h =
      let parts = config_parts old h in
      cond_both (is_among node old.members) (enters (Phase0 (record { task = t; old = old; primary = node })) (old.primary ∷ [])) (is_refused refusal.NotMember)
      StepActs
      (λ f. entered (Phase0 (record { task = t; old = old; primary = node })) (record { task = fine; old = h; primary = f }) (old.primary ∷ [])
      (All-cons IsAsked old.primary [] (node_asked old.primary (member_node old.primary old.members parts.members parts.primary)) (All-nil IsAsked)))
      (λ f. refused refusal.NotMember tt)

  healed : (old : Config) → IsTrue (is_config old) → (r : Result (List ℕ) TooFewDomains) → PlacementInRange r → StepActs (heal_placed t old r)
  healed old k (Err few) h = refused (refusal.TooFewDomains few.0) h
  healed old k (Ok placed) h =
      let nodes = members_nodes old.members (config_parts old k).members in
      entered (Phase1 (asks_promises t old.members (rising placed) (first_of placed)))
      (promises_in_range old.members (rising placed) (first_of placed) nodes h.members h.first) old.members (nodes_asked old.members nodes)

  lost : (node : ℕ) → IsTrue (is_node node) → StepActs (lose_begun t node)
  lost node h =
      let within = within_parts 1 999 node h in
      let alone = All-cons (λ n. IsTrue (is_node n)) node [] h (All-nil (λ n. IsTrue (is_node n))) in
      let rises : rises_above 0 (node ∷ []) ≡ true = and_from (nat_lt 0 node && nat_le node 999) true
      (and_from (nat_lt 0 node) (nat_le node 999) (lt-ltb 0 node within.0) (le-leb node 999 within.1)) refl in
      entered (Phase1 (asks_promises t (node ∷ []) (node ∷ []) node))
      (promises_in_range (node ∷ []) (node ∷ []) node alone rises (or_left (node == node) false (eq-eqb node node refl))) (node ∷ []) (nodes_asked (node ∷ []) alone)

  prepared : (nodes : List NodeLoad) → NodesInRange nodes → (kind : Kind) → IsTrue (is_kind kind) → (o : Option Config) → IsDone o
      → StepActs (prepared_as nodes t kind o)
  prepared nodes see (Create count) h (Some old) k = refused refusal.Exists tt
  prepared nodes see (Create count) h None k = created (placement nodes count) (placement_in_range nodes see count h)
  prepared nodes see (Swap node) h (Some old) k = swapped old node k
  prepared nodes see (Heal count) h (Some old) k = healed old k (placement nodes count) (placement_in_range nodes see count h)
  prepared nodes see (Lose node) h (Some old) k = lost node h
  prepared nodes see (Swap node) h None k = refused refusal.NoUnit tt
  prepared nodes see (Heal count) h None k = refused refusal.NoUnit tt
  prepared nodes see (Lose node) h None k = refused refusal.NoUnit tt

  -- After phase 1.

  promised : (f : Reconfig → Acted Step) → ((p : PromisePhase) → PromiseInRange p → StepActs (f (Phase1 p))) → (o : Result Choice PromisePhase)
      → EndInRange ChoiceInRange PromiseInRange o → StepActs (after_promise t f o)
  promised f each (Ok choice) h = proposed choice.config choice.source h.config h.source
  promised f each (Err p) h = each p h

  -- After the votes.

  source_in_range : (kind : Kind) (config : Config) (source : OriginLog) → IsTrue (is_config config) → SourceInRange source → SourceInRange (source_by kind config source)
  source_in_range (Create count) config source h k =
      let parts = config_parts config h in
      record { origin = member_node config.primary config.members parts.members parts.primary; last = refl }
  source_in_range kind config source h k = k

  copied : (config : Config) (source : OriginLog) → IsTrue (is_config config) → SourceInRange source → StepActs (copies t config source)
  copied config source h k =
      let nodes = members_nodes config.members (config_parts config h).members in
      entered (Phase2 (record { task = t; config = config; source = source; poll = poll_of config.members }))
      (record { task = fine; config = h; source = k; poll = poll_of_in_range is_node is_told config.members nodes }) config.members (nodes_asked config.members nodes)

  stored : (config : Config) → IsTrue (is_config config) → StepActs (stores t config)
  stored config h =
      let asked = arbiters_to t.arbitrators in
      entered (Phase3 (record { task = t; config = config; poll = poll_of asked }))
      (record { task = fine; config = h; poll = poll_of_in_range is_arbitrator is_told asked (first_arbitrators t.arbitrators fine.arbitrators) }) asked
      (first_asked t.arbitrators fine.arbitrators)

  activated : (config : Config) → IsTrue (is_config config) → StepActs (activates t config)
  activated config h =
      let nodes = members_nodes config.members (config_parts config h).members in
      entered (Phase4 (record { task = t; config = config; poll = poll_of config.members }))
      (record { task = fine; config = h; poll = poll_of_in_range is_node is_told config.members nodes }) config.members (nodes_asked config.members nodes)

-- Each phase.

module _ (nodes : List NodeLoad) (see : NodesInRange nodes) where
  after_prepare_in_range : (t : Task) → TaskInRange t → (o : Result (Option Config) PreparePhase) → EndInRange IsDone PrepareInRange o
      → StepActs (after_prepare nodes t o)
  after_prepare_in_range t fine (Ok old) h = prepared t fine nodes see t.kind fine.kind old h
  after_prepare_in_range t fine (Err p) h = stays_on (Prepare p) h

  after_swap_in_range : (p : SwapPhase) → SwapInRange p → (o : Result Standing SwapPhase) → EndInRange IsStanding SwapInRange o → StepActs (after_swap p o)
  after_swap_in_range p fine (Ok standing) h =
      let parts = config_parts p.old fine.old in
      let members = members_nodes p.old.members parts.members in
      promised p.task fine.task (λ r. enters r p.old.members)
      (λ q k. entered (Phase1 q) k p.old.members (nodes_asked p.old.members members))
      (promised_with p.old.primary standing (asks_promises p.task p.old.members p.old.members p.primary))
      (promised_in_range p.old.primary standing h (asks_promises p.task p.old.members p.old.members p.primary)
      (promises_in_range p.task fine.task p.old.members p.old.members p.primary members parts.members fine.primary))
  after_swap_in_range p fine (Err same) h = stays_on (Phase0 same) h

  after_vote_in_range : (p : VotePhase) → VoteInRange p → (o : Result (Option Config) VotePhase) → EndInRange IsDone VoteInRange o → StepActs (after_vote p o)
  after_vote_in_range p fine (Ok (Some config)) h =
      copied p.task fine.task config (source_by p.task.kind config p.source) h (source_in_range p.task fine.task p.task.kind config p.source h fine.source)
  after_vote_in_range p fine (Ok None) h = superseded p.task.epoch (epoch_fits p.task fine.task)
  after_vote_in_range p fine (Err more) h = stays_on (Decide more) h

  after_copy_in_range : (p : CopyPhase) → CopyInRange p → (o : Result (Unit {0}) CopyPhase) → EndInRange Said CopyInRange o → StepActs (after_copy p o)
  after_copy_in_range p fine (Ok done) h = stored p.task fine.task p.config fine.config
  after_copy_in_range p fine (Err more) h = stays_on (Phase2 more) h

  after_done_in_range : (p : DonePhase) → DoneInRange p → (o : Result (Unit {0}) DonePhase) → EndInRange Said DoneInRange o → StepActs (after_done p o)
  after_done_in_range p fine (Ok done) h = activated p.task fine.task p.config fine.config
  after_done_in_range p fine (Err more) h = stays_on (Phase3 more) h

  after_activate_in_range : (p : ActivatePhase) → ActivateInRange p → (o : Result (Unit {0}) ActivatePhase) → EndInRange Said ActivateInRange o
      → StepActs (after_activate p o)
  after_activate_in_range p fine (Ok done) h = stays_in_range StepInRange (Finished p.config) fine.config
  after_activate_in_range p fine (Err more) h = stays_on (Phase4 more) h

  goes_on_in_range : (actor : ℕ) (b : Body) → IsTrue (is_sound_body b) → (r : Reconfig) → ReconfigInRange r → StepActs (goes_on nodes actor b r)
  goes_on_in_range actor b h (Prepare p) fine = after_prepare_in_range p.task fine.task (prepare_ends actor b p) (prepare_ends_in_range actor b h p fine)
  goes_on_in_range actor b h (Phase0 p) fine = after_swap_in_range p fine (swap_ends actor b p) (swap_ends_in_range actor b h p fine)
  goes_on_in_range actor b h (Phase1 p) fine =
      promised p.task fine.task stays (λ q k. stays_on (Phase1 q) k) (promise_ends actor b p) (promise_ends_in_range actor b h p fine)
  goes_on_in_range actor b h (Decide p) fine = after_vote_in_range p fine (vote_ends actor b p) (vote_ends_in_range actor b h p fine)
  goes_on_in_range actor b h (Phase2 p) fine = after_copy_in_range p fine (copy_ends actor b p) (copy_ends_in_range actor b p fine)
  goes_on_in_range actor b h (Phase3 p) fine = after_done_in_range p fine (done_ends actor b p) (done_ends_in_range actor b p fine)
  goes_on_in_range actor b h (Phase4 p) fine = after_activate_in_range p fine (activate_ends actor b p) (activate_ends_in_range actor b p fine)

  -- An answer.

  abbrev CarriedFits : Option Epoch → Type 0
  CarriedFits None = Unit {0}
  CarriedFits (Some kept) = IsTrue (is_epoch kept)

  carried_fits : (b : Body) → IsTrue (is_sound_body b) → CarriedFits (carried b)
  carried_fits (body.NoPrepare partition epoch kept) h = (and_parts (is_unit partition epoch) (is_epoch kept) h).1
  carried_fits (body.NoVote partition epoch kept) h = (and_parts (is_unit partition epoch) (is_epoch kept) h).1
  carried_fits (body.NoDone partition epoch kept) h = (and_parts (is_unit partition epoch) (is_epoch kept) h).1
  carried_fits (body.Older partition epoch kept) h = (and_parts (is_unit partition epoch) (is_epoch kept) h).1
  carried_fits b h = tt

  module _ (actor : ℕ) (b : Body) (sound : IsTrue (is_sound_body b)) (r : Reconfig) (fine : ReconfigInRange r) where
    answered_in_range : (o : Option Epoch) → CarriedFits o → StepActs (answered_by nodes actor b r o)
    answered_in_range None h = goes_on_in_range actor b sound r fine
    answered_in_range (Some kept) h =
        cond_both (is_older kept (task_of r).epoch) (stays r) (still (Superseded kept)) StepActs (λ f. stays_on r fine) (λ f. superseded kept h)

    pub answer_received_in_range : (epoch : Epoch) → StepActs (answer_received nodes actor epoch b r)
    unfolding answer_received
    answer_received_in_range epoch =
        cond_both (same_epoch epoch (task_of r).epoch) (answered_by nodes actor b r (carried b)) (stays r) StepActs
        (λ f. answered_in_range (carried b) (carried_fits b sound)) (λ f. stays_on r fine)
