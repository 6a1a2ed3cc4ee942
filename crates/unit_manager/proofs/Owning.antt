-- A reconfiguration comes to no configuration of another partition.
use Rattle.std.proofs.Common.{◌≡◌, ℕ, ◌-◌, Bool, true, false, ◌&&◌, cond, List, [], ◌∷◌, ◌++◌, Option, Some, None, Result, Ok, Err, refl, sym, ap, subst, ◌∙◌}
use Rattle.std.specs.Prelude.{All, IsTrue, option_map}
use Rattle.std.specs.List.{find}
use Rattle.std.proofs.lemmas.Bool.{and_parts, eqb-true}
use Rattle.std.proofs.lemmas.List.Elements.{All-append, All-cons, All-head, All-nil, All-tail}
use Rattle.arbiter_quorum.specs.Tallies.{has_answered, with_answer}
use Rattle.arbiter_quorum.specs.Votes.{VoteTally, decided_of, has_majority, one_may_win, verdict_by, vote_noted, vote_verdict_of}
use Rattle.fabric_terms.specs.declared.message.Body.{Body}
use Rattle.fabric_terms.specs.declared.message.Body.TheVariants as body
use Rattle.fabric_terms.specs.declared.message.Message.{Message}
use Rattle.fabric_terms.specs.Fields.{is_config, is_unit, same_unit}
use Rattle.fabric_terms.specs.Messages.{is_sound_body}
use Rattle.replica_place.specs.declared.load.NodeLoad.{NodeLoad}
use Rattle.replica_place.specs.declared.placement.TooFewDomains.{TooFewDomains}
use Rattle.replica_place.specs.Placement.{placement}
use Rattle.ring_points.specs.declared.unit.Config.{Config}
use Rattle.ring_points.specs.declared.unit.Epoch.{Epoch}
use Rattle.ring_points.specs.Epochs.{is_older, same_epoch}
use Rattle.ring_points.specs.Whos.{arbiter_actor}
use Rattle.reconfig_phases.specs.Answers.{answered_unit, received, received_in}
use Rattle.unit_rules.specs.declared.reconfig.Kind.{Kind}
use Rattle.unit_rules.specs.declared.reconfig.Kind.TheVariants.{Create, Swap, Heal, Lose}
use Rattle.unit_rules.specs.declared.reconfig.Standing.{Standing}
use Rattle.unit_rules.specs.declared.reconfig.Task.{Task}
use Rattle.unit_rules.specs.Choices.{is_among}
use Rattle.unit_rules.specs.Deeds.{Acted, still}
use Rattle.unit_rules.specs.Phases.{Choice, activate_ends, copy_ends, done_ends, is_arbiter_to, is_taken_up, prepare_ends, promise_ends, promised_with, swap_ends, vote_ends, voted_by, voted_with}
use Rattle.failover_units.specs.declared.refusal.UnitRefusal.TheVariants as refusal
use Rattle.unit_rules.specs.Polls.{answered, is_carried}
use Rattle.unit_rules.specs.Reconfigs.{ActivatePhase, CopyPhase, Decide, DonePhase, Finished, Phase0, Phase1, Phase2, Phase3, Phase4, Prepare, PreparePhase, PromisePhase, Reconfig, Refused, Stay, Step, Superseded, SwapPhase, VotePhase, task_of}
use Rattle.unit_rules.specs.Transitions.{after_activate, after_copy, after_done, after_prepare, after_promise, after_swap, after_vote, answer_received, answered_by, asks_promises, carried, create_placed, enters, goes_on, is_refused, heal_placed, prepared_as, stays}
use Rattle.unit_manager.specs.Managers.{HasOwn}

-- so it is with what becomes of it
abbrev pub EndsOwn : ℕ → Step → Type 0
EndsOwn p (Stay r) = HasOwn r
EndsOwn p (Finished config) = config.partition ≡ p
EndsOwn p (Superseded epoch) = Unit {0}
EndsOwn p (Refused refusal) = Unit {0}

-- what was voted is of the partition
abbrev IsOwnVote : ℕ → ℕ × Config → Type 0
IsOwnVote p v = v.1.partition ≡ p

abbrev VotesOwn : ℕ → Body → Type 0
VotesOwn p (body.Voted partition epoch first) = first.partition ≡ p
VotesOwn p _ = Unit {0}

-- A vote.

noted_own : (p a : ℕ) (config : Config) (answers : List (ℕ × Config)) → config.partition ≡ p → All (IsOwnVote p) answers → All (IsOwnVote p) (with_answer a config answers)
noted_own p a config answers own all = by (has_answered a answers)
  where
    by : (b : Bool) → All (IsOwnVote p) (cond b answers (answers ++ (a, config) ∷ []))
    by true = all
    by false = All-append (IsOwnVote p) answers ((a, config) ∷ []) all (All-cons (IsOwnVote p) (a, config) [] own (All-nil (IsOwnVote p)))

found_own : (p : ℕ) (test : ℕ × Config → Bool) (answers : List (ℕ × Config)) (c : Config) → All (IsOwnVote p) answers → option_map (λ v. v.1) (find test answers) ≡ Some c → c.partition ≡ p
found_own p test [] c all e = absurd (cc)
found_own p test (v ∷ vs) c all e = by (test v) (found_own p test vs c (All-tail (IsOwnVote p) v vs all)) e
  where
    by : (b : Bool) → (option_map (λ v. v.1) (find test vs) ≡ Some c → c.partition ≡ p) → option_map (λ v. v.1) (cond b (Some v) (find test vs)) ≡ Some c → c.partition ≡ p
    by true more f = let same : v.1 ≡ c = cc in ap (λ (x : Config). x.partition) (sym same) ∙ All-head (IsOwnVote p) v vs all
    by false more f = more f

voted_own : (q : VotePhase) (t : VoteTally) → All (IsOwnVote q.task.partition) t.answers → EndsOwn q.task.partition (after_vote q (voted_by (record q { votes = t }) (vote_verdict_of t))).state
voted_own q t all = by (decided_of t) refl (one_may_win t)
  where
    by : (d : Option Config) → decided_of t ≡ d → (may : Bool) → EndsOwn q.task.partition (after_vote q (voted_by (record q { votes = t }) (verdict_by d may))).state
    by (Some c) e may = found_own q.task.partition (λ v. has_majority t v.1) t.answers c all e
    by None e true = all
    by None e false = tt

vote_own : (actor : ℕ) (b : Body) (q : VotePhase) → All (IsOwnVote q.task.partition) q.votes.answers → VotesOwn q.task.partition b → EndsOwn q.task.partition (after_vote q (vote_ends actor b q)).state
unfolding vote_ends
vote_own actor (body.Voted partition epoch first) q all own = by (is_arbiter_to q.votes.arbitrators actor)
  where
    by : (b : Bool) → EndsOwn q.task.partition (after_vote q (cond b (voted_with (actor - arbiter_actor 0) first q) (Err q))).state
    by true = voted_own q (vote_noted q.votes (actor - arbiter_actor 0) first) (noted_own q.task.partition (actor - arbiter_actor 0) first q.votes.answers own all)
    by false = all
vote_own actor b q all own = all

-- The other phases.

proposed_own : (t : Task) → All (IsOwnVote t.partition) []
proposed_own t = All-nil (IsOwnVote t.partition)

prepared_own : (nodes : List NodeLoad) (t : Task) (kind : Kind) (old : Option Config) → EndsOwn t.partition (prepared_as nodes t kind old).state
prepared_own nodes t (Create count) (Some old) = tt
prepared_own nodes t (Create count) None = by (placement nodes count)
  where
    by : (r : Result (List ℕ) TooFewDomains) → EndsOwn t.partition (create_placed t r).state
    by (Ok placed) = proposed_own t
    by (Err few) = tt
prepared_own nodes t (Swap node) (Some old) = by (is_among node old.members)
  where
    by : (b : Bool) → EndsOwn t.partition (cond b (enters (Phase0 (record { task = t; old = old; primary = node })) (old.primary ∷ [])) (is_refused refusal.NotMember)).state
    by true = tt
    by false = tt
prepared_own nodes t (Heal count) (Some old) = by (placement nodes count)
  where
    by : (r : Result (List ℕ) TooFewDomains) → EndsOwn t.partition (heal_placed t old r).state
    by (Ok placed) = tt
    by (Err few) = tt
prepared_own nodes t (Lose node) (Some old) = tt
prepared_own nodes t (Swap node) None = tt
prepared_own nodes t (Heal count) None = tt
prepared_own nodes t (Lose node) None = tt

prepare_own : (nodes : List NodeLoad) (t : Task) (r : Result (Option Config) PreparePhase) → EndsOwn t.partition (after_prepare nodes t r).state
prepare_own nodes t (Ok old) = prepared_own nodes t t.kind old
prepare_own nodes t (Err p) = tt

promise_own : (t : Task) (goes : Reconfig → Acted Step) → ((p : PromisePhase) → EndsOwn t.partition (goes (Phase1 p)).state) → (r : Result Choice PromisePhase) → EndsOwn t.partition (after_promise t goes r).state
promise_own t goes stay (Ok choice) = proposed_own t
promise_own t goes stay (Err p) = stay p

swap_own : (p : SwapPhase) (r : Result Standing SwapPhase) → EndsOwn p.task.partition (after_swap p r).state
swap_own p (Ok standing) =
    promise_own p.task (λ r. enters r p.old.members) (λ q. tt) (promised_with p.old.primary standing (asks_promises p.task p.old.members p.old.members p.primary))
swap_own p (Err same) = tt

copy_own : (actor : ℕ) (b : Body) (p : CopyPhase) → p.config.partition ≡ p.task.partition → EndsOwn p.task.partition (after_copy p (copy_ends actor b p)).state
unfolding copy_ends
copy_own actor (body.Adopted partition epoch last) p own = by (is_taken_up p.config (answered actor tt p.poll))
  where
    by : (b : Bool) → EndsOwn p.task.partition (after_copy p (cond b (Ok tt) (Err (record p { poll = answered actor tt p.poll })))).state
    by true = own
    by false = own
copy_own actor b p own = own

done_own : (actor : ℕ) (b : Body) (p : DonePhase) → p.config.partition ≡ p.task.partition → EndsOwn p.task.partition (after_done p (done_ends actor b p)).state
unfolding done_ends
done_own actor (body.DoneKept partition epoch) p own = by (is_carried (answered actor tt p.poll))
  where
    by : (b : Bool) → EndsOwn p.task.partition (after_done p (cond b (Ok tt) (Err (record p { poll = answered actor tt p.poll })))).state
    by true = own
    by false = own
done_own actor b p own = own

activate_own : (actor : ℕ) (b : Body) (p : ActivatePhase) → p.config.partition ≡ p.task.partition → EndsOwn p.task.partition (after_activate p (activate_ends actor b p)).state
unfolding activate_ends
activate_own actor (body.Activated partition epoch) p own = by (is_taken_up p.config (answered actor tt p.poll))
  where
    by : (b : Bool) → EndsOwn p.task.partition (after_activate p (cond b (Ok tt) (Err (record p { poll = answered actor tt p.poll })))).state
    by true = own
    by false = own
activate_own actor b p own = own

goes_own : (nodes : List NodeLoad) (actor : ℕ) (b : Body) (r : Reconfig) → HasOwn r → VotesOwn (task_of r).partition b → EndsOwn (task_of r).partition (goes_on nodes actor b r).state
goes_own nodes actor b (Prepare p) own votes = prepare_own nodes p.task (prepare_ends actor b p)
goes_own nodes actor b (Phase0 p) own votes = swap_own p (swap_ends actor b p)
goes_own nodes actor b (Phase1 p) own votes = promise_own p.task stays (λ q. tt) (promise_ends actor b p)
goes_own nodes actor b (Decide p) own votes = vote_own actor b p own votes
goes_own nodes actor b (Phase2 p) own votes = copy_own actor b p own
goes_own nodes actor b (Phase3 p) own votes = done_own actor b p own
goes_own nodes actor b (Phase4 p) own votes = activate_own actor b p own

-- An answer, in whatever phase.

carried_own : (nodes : List NodeLoad) (actor : ℕ) (b : Body) (r : Reconfig) (kept : Option Epoch) → HasOwn r → VotesOwn (task_of r).partition b → EndsOwn (task_of r).partition (answered_by nodes actor b r kept).state
carried_own nodes actor b r None own votes = goes_own nodes actor b r own votes
carried_own nodes actor b r (Some kept) own votes = by (is_older kept (task_of r).epoch)
  where
    by : (older : Bool) → EndsOwn (task_of r).partition (cond older (stays r) (still (Superseded kept))).state
    by true = own
    by false = tt

answer_own : (nodes : List NodeLoad) (actor : ℕ) (epoch : Epoch) (b : Body) (r : Reconfig) → HasOwn r → VotesOwn (task_of r).partition b → EndsOwn (task_of r).partition (answer_received nodes actor epoch b r).state
unfolding answer_received
answer_own nodes actor epoch b r own votes = by (same_epoch epoch (task_of r).epoch)
  where
    by : (same : Bool) → EndsOwn (task_of r).partition (cond same (answered_by nodes actor b r (carried b)) (stays r)).state
    by true = carried_own nodes actor b r (carried b) own votes
    by false = own

-- a vote in the ranges of frames is of the partition to which it answers
votes_own : (b : Body) (p : ℕ) (u : ℕ × Epoch) → IsTrue (is_sound_body b) → answered_unit b ≡ Some u → u.0 ≡ p → VotesOwn p b
votes_own (body.Voted partition epoch first) p u sound is at =
    let same : IsTrue (same_unit partition epoch first) = (and_parts (is_unit partition epoch && is_config first) (same_unit partition epoch first) sound).1 in
    let here : (partition, epoch) ≡ u = cc in
    eqb-true first.partition partition (and_parts _ _ (and_parts _ _ same).0).0 ∙ (ap (λ (v : ℕ × Epoch). v.0) here ∙ at)
votes_own b p u sound is at = tt

pub received_own : (nodes : List NodeLoad) (m : Message) (r : Reconfig) (u : ℕ × Epoch) → IsTrue (is_sound_body m.body) → answered_unit m.body ≡ Some u → u.0 ≡ (task_of r).partition → HasOwn r
    → EndsOwn (task_of r).partition (received nodes m r).state
received_own nodes m r u sound is at own =
    subst (λ (o : Option (ℕ × Epoch)). EndsOwn (task_of r).partition (received_in nodes m.from.actor m.body r o).state) (sym is)
    (answer_own nodes m.from.actor u.1 m.body r own (votes_own m.body (task_of r).partition u sound is at))
